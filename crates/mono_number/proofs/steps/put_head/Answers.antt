use Rattle.std.proofs.Common.{nat_eq, arith}
use Rattle.indexmap.specs.IndexMap.{get}
use Rattle.mono_number.proofs.Given.{if-ok}
use Rattle.mono_number.proofs.Heads.{head-moves}
use Rattle.mono_number.proofs.steps.put_head.Goals as goal

pub returns-else-part-bound : goal.returns-else-part-bound
returns-else-part-bound c =
    if-ok _ _ c.add_head.result
    (λ u h ws. head-moves c.args.limit (get nat_eq c.args.known.now) c.in-Some.part c.in-Heads.functions c.in-Heads.left c.args.variable c.args.ty ws c.args.walk.now c.leave.new.walk c.add_head.new.walk c.in-Heads.is (let q = c.if-part-bound.false in let r = c.len-bound.ensures in omega (arith, q, r)) c.in-Some.ensures.left h)
    c.add_head.ensures
