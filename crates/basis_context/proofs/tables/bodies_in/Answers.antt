use Rattle.std.proofs.Common.{refl, arith}
use Rattle.basis_context.specs.Basis.{type_list}
use Rattle.basis_context.proofs.Making.{made-none, made-more, made-all}
use Rattle.basis_context.proofs.tables.bodies_in.Goals as goal

pub loop-i-init : goal.loop-i-init
loop-i-init c = made-none _ _ c.new-made.ensures.items

pub loop-i-preserved : goal.loop-i-preserved
loop-i-preserved c =
    made-more c.args.types.now c.loop-i.types c.body_in.new.types type_list c.loop-i.i _ c.loop-i.made.items _ c.in_ok-body.body _ c.loop-i-test.true c.loop-i.invariant c.in_ok-body.ensures.earlier_stay refl
    c.in_ok-body.ensures.is c.in_ok-push.ensures.items

pub returns-clause-held : goal.returns-clause-held
returns-clause-held c = c.loop-i.invariant.held

pub returns-clause-are : goal.returns-clause-are
returns-clause-are c = made-all c.args.types.now c.loop-i.types type_list c.loop-i.i c.loop-i.made.items (omega arith) c.loop-i.invariant

pub returns-clause-earlier_stay : goal.returns-clause-earlier_stay
returns-clause-earlier_stay c = c.loop-i.invariant.kept
