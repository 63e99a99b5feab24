use Rattle.std.proofs.Common.{◌≡◌, ◌+◌, ◌-◌, refl, arith}
use Rattle.elab_types.proofs.Parts.{alone, chained-start, part-held, chained-more}
use Rattle.elab_types.proofs.build.function_types.Goals as goal

pub returns-then-count-eq0-clause-is : goal.returns-then-count-eq0-clause-is
returns-then-count-eq0-clause-is c = alone c.args.types.now c.args.first c.args.rest.now c.requires.first (omega (arith, c.if-count-eq0.true))

pub loop-last-init : goal.loop-last-init
loop-last-init c = chained-start c.args.types.now c.args.rest.now c.requires.rest (omega (arith, c.if-count-eq0.false))

pub function_type-requires-clause-argument : goal.function_type-requires-clause-argument
function_type-requires-clause-argument c = part-held c.args.types.now c.loop-last.types c.args.rest.now c.loop-last.last c.loop-last.made c.requires.rest c.loop-last.invariant c.loop-last-test.true

pub loop-last-preserved : goal.loop-last-preserved
loop-last-preserved c =
    let p = c.loop-last-test.true in
    let e : c.loop-last.last ≡ (c.loop-last.last - 1) + 1 = omega (arith, p) in
    chained-more c.args.types.now c.loop-last.types c.function_type.new.types c.args.rest.now c.loop-last.last (c.loop-last.last - 1) _ c.loop-last.made c.in_ok-made.made c.requires.rest c.loop-last.invariant e refl c.in_ok-made.ensures.is c.function_type.ensures.earlier_stay
