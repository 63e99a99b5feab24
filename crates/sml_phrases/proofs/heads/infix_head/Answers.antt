use Rattle.std.proofs.Common.{refl}
use Rattle.std.proofs.lemmas.Result.{err_from_is_err_and}
use Rattle.sml_tree.specs.declared.ident.Vid.TheVariants.{Named}
use Rattle.sml_grammar.specs.Patterns.{read_atpat}
use Rattle.phrase_base.specs.Left.{left}
use Rattle.sml_phrases.proofs.HeadReads.{infix-said}
use Rattle.phrase_base.proofs.Loop.{fails-then}
use Rattle.sml_phrases.proofs.heads.infix_head.Goals as goal

pub returns : goal.returns
returns c =
    let s = c.args.source.now in
    let h = (rw c.in_ok-first.ensures.second at c.read_atpat.ensures.gives) in
    record {
      gives = λ i a p pl nl e k w le lt.
          let g = infix-said s c.args.fix.now c.args.n i (left s c.args.tokens.now) lt (record { place = c.args.place; vid_place = c.args.name_place; vid = Named c.args.name; pats = c.in_ok-pats.pats }) pl a (record { place = p; it = c.args.name }) c.args.first c.in_ok-first.second.it c.args.depth c.in_ok-first.second.depth c.max.result
          c.in_ok-first.second.rest.now h.got e k w le nl refl (rw c.in_ok-first.ensures.first at c.in_ok-pats.ensures) h.is h.same c.max.ensures in
          record { got = g.got; is = g.is; same = g.same };
    }

pub returns-in_err-first : goal.returns-in_err-first
returns-in_err-first c =
    let q = err_from_is_err_and c.from_residual.result c.from_residual.ensures.1 in
    record { gives = λ i a p pl nl e k w le lt. rw (q.1, q.2) (fails-then c.in_err-first.field-0.0 (read_atpat c.args.n c.args.fix.now (left c.args.source.now c.args.tokens.now)) _ (rw c.in_err-first.ensures.second at c.read_atpat.ensures.gives)) }
