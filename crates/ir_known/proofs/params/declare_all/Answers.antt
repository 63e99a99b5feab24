use Rattle.std.proofs.Common.{◌-◌, sym, ◌∙◌, subst, arith}
use Rattle.ir_known.proofs.Declaring.{Declared, one-declared, not-declared, not-declarable, the-next, not-yes}
use Rattle.ir_known.proofs.params.declare_all.Goals as goal

pub loop-left-preserved : goal.loop-left-preserved
loop-left-preserved c =
    let t = c.loop-left-test.true in
    let w = c.loop-left.invariant.within in
    let d = subst (Declared c.args.scope.now c.loop-left.scope c.args.parameters.now) (the-next c.loop-left.left t) c.loop-left.invariant in
    one-declared c.args.scope.now c.loop-left.scope c.args.parameters.now (c.loop-left.left - 1) _ (omega arith) d (sym c.is_for_declaration-declarable.ensures ∙ c.if-not-declarable.false) (c.in-Ok-true.ensures.new.0 c.in-Ok-true.field-0-test) c.push.new.self (c.in-Ok-true.ensures.pushed c.in-Ok-true.field-0-test)

pub returns-in-Ok-false-clause-new : goal.returns-in-Ok-false-clause-new
returns-in-Ok-false-clause-new c =
    let t = c.loop-left-test.true in
    let w = c.loop-left.invariant.within in
    let d = subst (Declared c.args.scope.now c.loop-left.scope c.args.parameters.now) (the-next c.loop-left.left t) c.loop-left.invariant in
    ((λ f. absurd (cc)), (λ n. absurd (not-declared c.args.scope.now c.loop-left.scope c.args.parameters.now (c.loop-left.left - 1) _ (omega arith) d (λ k. not-yes c.in-Ok-false.field-0-test (c.in-Ok-false.ensures.new.1 k)) n)))

pub returns-then-not-declarable-clause-new : goal.returns-then-not-declarable-clause-new
returns-then-not-declarable-clause-new c =
    let t = c.loop-left-test.true in
    let w = c.loop-left.invariant.within in
    ((λ f. absurd (cc)), (λ n. absurd (not-declarable c.args.scope.now c.args.parameters.now (c.loop-left.left - 1) _ (omega arith) (sym c.is_for_declaration-declarable.ensures ∙ c.if-not-declarable.true) n)))
