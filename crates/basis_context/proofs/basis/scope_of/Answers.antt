use Rattle.std.proofs.Common.{◌-◌, refl, arith}
use Rattle.basis_context.proofs.Making.{so-far-none, so-far-more, so-far-all}
use Rattle.basis_context.proofs.basis.scope_of.Goals as goal

pub loop-i-init : goal.loop-i-init
loop-i-init c = so-far-none c.args.rows.now c.args.first _ _ refl c.new-scope.ensures.named c.new-scope.ensures.fresh c.new-scope.ensures.equals

pub loop-i-preserved : goal.loop-i-preserved
loop-i-preserved c =
    so-far-more c.args.rows.now c.args.first (c.loop-i.i - 1) c.loop-i.i _ _ c.loop-i.scope c.bind_row.new.scope c.loop-i.invariant (omega (arith, c.loop-i-test.true)) refl
    c.in_ok-bind_row.ensures.named c.bind_row.ensures.fresh c.in_ok-bind_row.ensures.equals

pub returns-clause-named : goal.returns-clause-named
returns-clause-named c = (so-far-all c.args.rows.now c.args.first c.loop-i.i c.loop-i.scope (omega (arith, c.loop-i-test.false)) c.loop-i.invariant).0

pub returns-clause-fresh : goal.returns-clause-fresh
returns-clause-fresh c = c.loop-i.invariant.fresh

pub returns-clause-equals : goal.returns-clause-equals
returns-clause-equals c = (so-far-all c.args.rows.now c.args.first c.loop-i.i c.loop-i.scope (omega (arith, c.loop-i-test.false)) c.loop-i.invariant).2
