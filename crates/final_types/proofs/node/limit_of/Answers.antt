use Rattle.std.proofs.Common.{◌∙◌, arith}
use Rattle.final_types.proofs.Bounding.{limit-there, limit-past}
use Rattle.final_types.proofs.node.limit_of.Goals as goal

pub returns-then-v-len : goal.returns-then-v-len
returns-then-v-len c = c.index.ensures ∙ limit-there c.args.solver.now.limits.items c.args.v c.index.result.now (omega (arith, c.if-v-len.true, c.len.ensures, c.args.solver.now.limits.ok.0))

pub returns-else-v-len : goal.returns-else-v-len
returns-else-v-len c = limit-past c.args.solver.now.limits.items c.args.v (omega (arith, c.if-v-len.false, c.len.ensures, c.args.solver.now.limits.ok.0))
