use Rattle.std.proofs.Common.{map, ap, ◌∙◌}
use Rattle.plain_tree.specs.TreeOf.{firsts, tree_of}
use Rattle.exp_steps.specs.of_match_types.Views.{reading}
use Rattle.exp_steps.proofs.Nodes.{tree_of-First}
use Rattle.exp_blocks.proofs.blocks.attempted.Goals as goal

pub returns-in-Ok : goal.returns-in-Ok
returns-in-Ok c = λ v. tree_of-First (reading v) c.args.attempts c.in-Ok.last ∙ ap (λ e. firsts (map (tree_of (reading v)) c.args.attempts.items) (tree_of (reading v) e)) c.in-Ok.ensures
