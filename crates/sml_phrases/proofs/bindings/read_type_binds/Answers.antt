use Rattle.std.proofs.Common.{arith}
use Rattle.std.proofs.lemmas.Result.{err_from_is_err_and}
use Rattle.sml_grammar.specs.Bindings.{read_type_binds}
use Rattle.phrase_base.specs.Left.{left}
use Rattle.sml_phrases.proofs.BindLists.{types-start, types-fail, types-more, types-last}
use Rattle.sml_phrases.proofs.bindings.read_type_binds.Goals as goal

pub binds-init : goal.binds-init
binds-init c = record { going = types-start c.args.source.now c.args.n (left c.args.source.now c.args.tokens.now) c.new-binds.result.items c.new-binds.ensures.items; short = omega arith }

pub returns-in_err-front : goal.returns-in_err-front
returns-in_err-front c =
    let p = err_from_is_err_and c.from_residual.result c.from_residual.ensures.1 in
    let h = types-fail c.args.source.now c.args.n (left c.args.source.now c.binds.rest.now) c.binds.binds.items c.binds.deepest (read_type_binds c.args.n (left c.args.source.now c.args.tokens.now)) c.in_err-front.field-0.0 (rw c.in_err-front.ensures.second at c.type_bind.ensures.gives) c.binds.invariant.going in
    record { gives = rw (p.1, p.2) h }

pub returns-in_default : goal.returns-in_default
returns-in_default c =
    let g = (rw c.in_ok-front.ensures.second at c.type_bind.ensures.gives) in
    let h = types-last c.args.source.now c.args.n (left c.args.source.now c.binds.rest.now) c.binds.binds.items c.binds.deepest (read_type_binds c.args.n (left c.args.source.now c.args.tokens.now)) c.in_ok-binds.binds.items c.max-deepest.result c.in_ok-front.got.it c.in_ok-front.got.depth c.in_ok-front.got.rest.now g.got
    (left c.args.source.now c.args.tokens.now) g.is g.same c.in_default.ensures (rw c.in_ok-front.ensures.first at c.in_ok-binds.ensures) c.max-deepest.ensures c.binds.invariant.short c.binds.invariant.going in
    record { gives = record { got = h.got; is = h.is; same = h.same } }

pub binds-preserved : goal.binds-preserved
binds-preserved c =
    let g = (rw c.in_ok-front.ensures.second at c.type_bind.ensures.gives) in
    let h = types-more c.args.source.now c.args.n (left c.args.source.now c.binds.rest.now) c.binds.binds.items c.binds.deepest (read_type_binds c.args.n (left c.args.source.now c.args.tokens.now)) c.in_ok-binds.binds.items c.max-deepest.result c.in_ok-front.got.it c.in_ok-front.got.depth c.in_ok-front.got.rest.now g.got
    g.is g.same c.in-Some.ensures (rw c.in_ok-front.ensures.first at c.in_ok-binds.ensures) c.max-deepest.ensures c.binds.invariant.going in
    let a = h.short in let b = c.binds.invariant.short in
    record { going = h.going; short = omega arith }
