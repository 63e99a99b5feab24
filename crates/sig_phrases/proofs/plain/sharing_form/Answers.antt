use Rattle.std.proofs.Common.{refl, ◌∙◌}
use Rattle.sml_tree.specs.TreeOf.{long_id_of}
use Rattle.phrase_base.specs.Left.{left}
use Rattle.sig_phrases.proofs.Ids.{sharing-done}
use Rattle.sig_phrases.proofs.plain.sharing_form.Goals as goal

pub returns-in_ok-all-in-Some : goal.returns-in_ok-all-in-Some
returns-in_ok-all-in-Some c = record {
  gives = λ p e.
      let s = c.args.source.now in
      let w2 = rw c.in_ok-head-in-Some.ensures.second at c.past-in-Some.ensures.word in
      let g = rw c.in_ok-front-in-Some.ensures.second at c.read_tycons.ensures.gives in
      let kept = c.in_ok-front-in-Some.ensures.first ∙ c.in_ok-head-in-Some.ensures.first in
      let h = sharing-done s c.args.n p (left s c.args.tokens.now) (left s c.in_ok-first.first.now) (left s c.in-Some.after.now) (left s c.in_ok-head-in-Some.others.now) (long_id_of c.in-Some.long) c.in_ok-front-in-Some.front c.args.place c.in_ok-front-in-Some.got.it.items c.in_ok-front-in-Some.got.depth c.in_ok-front-in-Some.got.rest.now
      g.got c.shared.result c.in_ok-first.ensures.word (rw c.in-Some.is at c.in_ok-found.ensures) w2 g.is g.same (rw (kept, c.place_at.ensures) refl) e (rw c.in_ok-all-in-Some.ensures at c.shared.ensures) in
      record { got = h.got; is = h.is; same = h.same };
}
