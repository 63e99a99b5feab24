use Rattle.std.proofs.Common.{arith}
use Rattle.std.proofs.lemmas.Result.{err_from_is_err_and}
use Rattle.sml_grammar.specs.Bindings.{read_cons}
use Rattle.phrase_base.specs.Left.{left}
use Rattle.sml_phrases.proofs.BindLists.{cons-start, cons-fail, cons-more, cons-last}
use Rattle.sml_phrases.proofs.bindings.read_cons.Goals as goal

pub cons-init : goal.cons-init
cons-init c = record { going = cons-start c.args.source.now c.args.n c.args.fix.now (left c.args.source.now c.args.tokens.now) c.new-cons.result.items c.new-cons.ensures.items; short = omega arith }

pub returns-in_err-front : goal.returns-in_err-front
returns-in_err-front c =
    let p = err_from_is_err_and c.from_residual.result c.from_residual.ensures.1 in
    let h = cons-fail c.args.source.now c.args.n c.args.fix.now (left c.args.source.now c.cons.rest.now) c.cons.cons.items c.cons.deepest (read_cons c.args.n c.args.fix.now (left c.args.source.now c.args.tokens.now)) c.in_err-front.field-0.0 (rw c.in_err-front.ensures.second at c.con_bind.ensures.gives) c.cons.invariant.going in
    record { gives = rw (p.1, p.2) h }

pub returns-in_default : goal.returns-in_default
returns-in_default c =
    let g = (rw c.in_ok-front.ensures.second at c.con_bind.ensures.gives) in
    let h = cons-last c.args.source.now c.args.n c.args.fix.now (left c.args.source.now c.cons.rest.now) c.cons.cons.items c.cons.deepest (read_cons c.args.n c.args.fix.now (left c.args.source.now c.args.tokens.now)) c.in_ok-cons.cons.items c.max-deepest.result c.in_ok-front.got.it c.in_ok-front.got.depth c.in_ok-front.got.rest.now g.got
    (left c.args.source.now c.args.tokens.now) g.is g.same c.in_default.ensures (rw c.in_ok-front.ensures.first at c.in_ok-cons.ensures) c.max-deepest.ensures c.cons.invariant.short c.cons.invariant.going in
    record { gives = record { got = h.got; is = h.is; same = h.same } }

pub cons-preserved : goal.cons-preserved
cons-preserved c =
    let g = (rw c.in_ok-front.ensures.second at c.con_bind.ensures.gives) in
    let h = cons-more c.args.source.now c.args.n c.args.fix.now (left c.args.source.now c.cons.rest.now) c.cons.cons.items c.cons.deepest (read_cons c.args.n c.args.fix.now (left c.args.source.now c.args.tokens.now)) c.in_ok-cons.cons.items c.max-deepest.result c.in_ok-front.got.it c.in_ok-front.got.depth c.in_ok-front.got.rest.now g.got
    g.is g.same c.in-Some.ensures (rw c.in_ok-front.ensures.first at c.in_ok-cons.ensures) c.max-deepest.ensures c.cons.invariant.going in
    let a = h.short in let b = c.cons.invariant.short in
    record { going = h.going; short = omega arith }
