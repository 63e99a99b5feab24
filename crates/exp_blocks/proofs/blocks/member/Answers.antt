use Rattle.exp_steps.specs.of_match_types.Views.{reading}
use Rattle.exp_steps.proofs.Nodes.{function_of-parts}
use Rattle.exp_blocks.proofs.blocks.member.Goals as goal

pub returns : goal.returns
returns c = λ v. function_of-parts (reading v) _
