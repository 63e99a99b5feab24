use Rattle.std.proofs.Common.{refl}
use Rattle.std.proofs.lemmas.Result.{err_from_is_err_and}
use Rattle.sml_tree.specs.declared.ident.Vid.TheVariants.{Named}
use Rattle.sml_grammar.specs.Patterns.{read_atpats}
use Rattle.phrase_base.specs.Left.{left}
use Rattle.sml_phrases.proofs.HeadReads.{bracket-said}
use Rattle.phrase_base.proofs.Loop.{fails-then}
use Rattle.sml_phrases.proofs.heads.bracket_head.Goals as goal

pub returns : goal.returns
returns c =
    let s = c.args.source.now in
    let k = c.in_ok-pats.ensures.gives in
    record {
      gives = λ i b pl is lt.
          let g = bracket-said s c.args.fix.now c.args.n i (left s c.args.tokens.now) lt (record { place = c.args.place; vid_place = c.args.pair.vid_place; vid = Named c.args.pair.vid; pats = c.in_ok-pats.field-0.it }) pl c.args.pair b c.in_ok-front.front.items c.args.depth c.in_ok-pats.field-0.depth
          c.in_ok-pats.field-0.rest.now k.got is c.requires.fits refl refl c.in_ok-front.ensures k.is k.same in
          record { got = g.got; is = g.is; same = g.same };
    }

pub returns-in_err-pats : goal.returns-in_err-pats
returns-in_err-pats c =
    let q = err_from_is_err_and c.from_residual-in_err-pats.result c.from_residual-in_err-pats.ensures.1 in
    record { gives = λ i b pl is lt. rw (q.1, q.2) (fails-then c.in_err-pats.field-0.0 (read_atpats c.args.n c.args.fix.now (left c.args.source.now c.args.tokens.now)) _ c.in_err-pats.ensures.gives) }
