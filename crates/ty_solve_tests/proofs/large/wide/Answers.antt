use Rattle.std.proofs.Common.{◌<◌, length, subst, sym, arith}
use Rattle.ty_table.specs.TypeAt.{AllBelow}
use Rattle.ty_solve_tests.proofs.Wide.{below-snoc}
use Rattle.ty_solve_tests.proofs.large.wide.Goals as goal

pub loop-part-init : goal.loop-part-init
loop-part-init c = λ lt. subst (AllBelow (length c.args.s.now.types)) (sym c.new-parts.ensures.items) tt

pub loop-part-preserved : goal.loop-part-preserved
loop-part-preserved c = below-snoc (length c.args.s.now.types) _ _ c.args.part c.in_ok-push.ensures.items c.loop-part.invariant

pub apply-requires : goal.apply-requires
apply-requires c =
    let lt : c.args.part < length c.args.s.now.types = omega (arith, c.len.ensures.is, c.if-part-len.true) in
    subst (AllBelow (length c.args.s.now.types)) (sym c.deref.ensures.value) (c.loop-part.invariant lt)
