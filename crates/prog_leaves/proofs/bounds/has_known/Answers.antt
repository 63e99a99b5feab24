use Rattle.std.proofs.Common.{ap, ◌∙◌}
use Rattle.ir_poly.specs.Types.{over}
use Rattle.prog_known.specs.Environments.{parameters_in}
use Rattle.prog_tree.specs.Readings.{reading}
use Rattle.prog_leaves.specs.Right.{has_known}
use Rattle.prog_leaves.proofs.bounds.has_known.Goals as goal

pub returns : goal.returns
unfolding has_known
returns c = c.in_ok-known.ensures ∙ ap (over (parameters_in c.args.environment.now)) (c.type_of.ensures (reading c.args.tables.now))
