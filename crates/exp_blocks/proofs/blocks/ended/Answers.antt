use Rattle.std.proofs.Common.{ap, ◌∙◌}
use Rattle.exp_steps.specs.of_match_types.Views.{reading}
use Rattle.exp_steps.specs.of_match_steps.Steps.{stand}
use Rattle.exp_steps.proofs.Nodes.{tree_of-Steps}
use Rattle.exp_blocks.proofs.blocks.ended.Goals as goal

pub returns-in-Ok : goal.returns-in-Ok
returns-in-Ok c = λ v. tree_of-Steps (reading v) c.args.steps c.in-Ok.last ∙ ap (stand v c.args.steps.items) (c.in-Ok.ensures v)
