use Rattle.std.proofs.Common.{◌∙◌}
use Rattle.final_types.proofs.Bounding.{plain-mark}
use Rattle.final_types.proofs.Viewing.{same-node}
use Rattle.final_types.proofs.node.variable_node.Goals as goal

pub returns-in-Some : goal.returns-in-Some
returns-in-Some c = same-node c.args.solver.now c.args.v c.in-Some.u c.in-Some.ensures.held c.in-Some.ensures.is

pub returns-in_default-mark_of : goal.returns-in_default-mark_of
returns-in_default-mark_of c = c.plain_node.ensures _ (plain-mark _ (λ k e. c.in_default-mark_of.not-Class k (c.mark_of.ensures ∙ e))) (c.in_default-row.ensures.is c.in_default.ensures.is)
