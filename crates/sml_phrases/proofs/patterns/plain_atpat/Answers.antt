use Rattle.std.proofs.Common.{ap, ◌∙◌}
use Rattle.sml_tree.specs.BareTree as tree
use Rattle.sml_tree.specs.TreeOf.{long_vid_of}
use Rattle.mlc_base.specs.declared.place.Place.{Place}
use Rattle.phrase_base.specs.Left.{left}
use Rattle.sml_phrases.specs.VidPlace.{vid_place}
use Rattle.sml_phrases.proofs.PatForms.{wild-said, vid-said}
use Rattle.sml_phrases.proofs.Rolls.{pat_of-Wild, pat_of-Vid}
use Rattle.sml_phrases.proofs.patterns.plain_atpat.Goals as goal

pub returns-in-Some : goal.returns-in-Some
returns-in-Some c = record {
  gives = λ n self.
      let i = left c.args.source.now c.args.tokens.now in
      let x = wild-said c.args.source.now c.args.fix.now i c.in-Some.rest.now _ n self c.in-Some.ensures (pat_of-Wild c.place_at-place.result ∙ ap tree.wild_pat c.place_at-place.ensures) in
      record { got = x.got; is = x.is; same = x.same };
}

pub returns-in-Some-3 : goal.returns-in-Some-3
returns-in-Some-3 c = record {
  gives = λ n self.
      let i = left c.args.source.now c.args.tokens.now in
      let x = vid-said c.args.source.now c.args.fix.now i c.in-Some-3.rest.now _ (record { place = vid_place i; it = long_vid_of c.in-Some-3.long }) n self c.in_default.ensures (rw c.in_default-2.is at c.in_ok-constant.ensures) (rw c.in-Some-3.is at c.in_ok-long.ensures)
      (pat_of-Vid c.vid_place.result c.in-Some-3.long ∙ ap (λ (z : Place). tree.vid_pat z (long_vid_of c.in-Some-3.long)) c.vid_place.ensures) in
      record { got = x.got; is = x.is; same = x.same };
}
