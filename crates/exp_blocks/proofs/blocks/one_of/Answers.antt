use Rattle.std.proofs.Common.{map, ap, ◌∙◌}
use Rattle.plain_tree.specs.TreeOf.{firsts, tree_of}
use Rattle.exp_steps.specs.of_match_types.Views.{reading}
use Rattle.exp_blocks.proofs.blocks.one_of.Goals as goal

pub returns-in_ok-made-in-Ok : goal.returns-in_ok-made-in-Ok
returns-in_ok-made-in-Ok c = λ v. c.in_ok-made-in-Ok.ensures v ∙ ap (λ l. firsts (map (tree_of (reading v)) l) (tree_of (reading v) c.args.last)) c.in-Ok.ensures
