use Rattle.std.proofs.Common.{refl}
use Rattle.std.proofs.lemmas.Result.{err_from_is_err_and}
use Rattle.sml_grammar.specs.Patterns.{read_atpat}
use Rattle.sml_grammar.specs.Terminals.{place_at}
use Rattle.phrase_base.specs.Left.{left}
use Rattle.sml_phrases.proofs.HeadReads.{prefix-said, prefix-fails}
use Rattle.phrase_base.proofs.Loop.{fails-then}
use Rattle.sml_phrases.proofs.heads.prefix_head.Goals as goal

pub returns : goal.returns
returns c =
    let s = c.args.source.now in
    let h = c.in_ok-first.ensures.gives in
    let k = c.in_ok-pats.ensures.gives in
    record {
      gives = λ i q pl nl lt.
          let g = prefix-said s c.args.fix.now c.args.n i (left s c.args.tokens.now) lt (record { place = c.args.place; vid_place = c.args.name_place; vid = c.args.vid; pats = c.in_ok-pats.field-0.it }) pl (record { place = q; it = c.args.vid }) c.in_ok-first.field-0.it c.in_ok-front.front.items c.in_ok-first.field-0.depth c.in_ok-pats.field-0.depth
          c.in_ok-first.field-0.rest.now c.in_ok-pats.field-0.rest.now h.got k.got nl refl c.in_ok-front.ensures h.is h.same k.is k.same in
          record { got = g.got; is = g.is; same = g.same };
    }

pub returns-in_err-first : goal.returns-in_err-first
returns-in_err-first c =
    let r = err_from_is_err_and c.from_residual.result c.from_residual.ensures.1 in
    record { gives = λ i q pl nl lt. rw (r.1, r.2) (fails-then c.in_err-first.field-0.0 (read_atpat c.args.n c.args.fix.now (left c.args.source.now c.args.tokens.now)) _ c.in_err-first.ensures.gives) }

pub returns-in_err-pats : goal.returns-in_err-pats
returns-in_err-pats c =
    let s = c.args.source.now in
    let h = c.in_ok-first.ensures.gives in
    let r = err_from_is_err_and c.from_residual-in_err-pats.result c.from_residual-in_err-pats.ensures.1 in
    record { gives = λ i q pl nl lt. rw (r.1, r.2) (prefix-fails s c.args.fix.now c.args.n (left s c.args.tokens.now) (place_at i) (record { place = q; it = c.args.vid }) c.in_ok-first.field-0.it c.in_ok-first.field-0.depth c.in_ok-first.field-0.rest.now c.in_err-pats.field-0.0 h.got h.is h.same c.in_err-pats.ensures.gives) }
