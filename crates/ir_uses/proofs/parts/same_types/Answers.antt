use Rattle.std.proofs.Common.{arith}
use Rattle.ty_table.specs.TypeAt.{type_at}
use Rattle.ir_known.proofs.Declaring.{not-yes}
use Rattle.ir_uses.proofs.Lists.{agree-more, agree-not}
use Rattle.ir_uses.proofs.parts.same_types.Goals as goal

pub loop-i-preserved : goal.loop-i-preserved
loop-i-preserved c = let t = c.loop-i-test.true in let l = c.if-ts-us.false in
    agree-more (type_at c.args.types.now) (type_at c.args.types.now) c.args.ts.now c.args.us.now c.loop-i.i _ _ t (omega arith) c.loop-i.invariant (c.same_type.ensures.0 c.if-not-same_type.false)

pub returns-then-not-same_type : goal.returns-then-not-same_type
returns-then-not-same_type c = let t = c.loop-i-test.true in let l = c.if-ts-us.false in
    ((λ f. absurd (cc)), (λ p. absurd (agree-not (type_at c.args.types.now) (type_at c.args.types.now) c.args.ts.now c.args.us.now c.loop-i.i _ _ t (omega arith) (λ o. not-yes c.if-not-same_type.true (c.same_type.ensures.1 o)) p)))
