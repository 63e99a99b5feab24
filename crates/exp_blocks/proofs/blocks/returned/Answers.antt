use Rattle.std.proofs.Common.{ap, ◌∙◌}
use Rattle.plain_tree.specs.TreeOf.{tree_of}
use Rattle.exp_steps.specs.of_match_types.Views.{reading}
use Rattle.exp_steps.proofs.Nodes.{tree_of-Ret}
use Rattle.exp_blocks.proofs.blocks.returned.Goals as goal

pub returns : goal.returns
returns c = λ v. ap (tree_of (reading v)) c.in_ok-made.ensures ∙ tree_of-Ret (reading v) c.args.value
