use Rattle.std.proofs.Common.{ap, ap₂, map, ◌∙◌}
use Rattle.ir_plain.specs.Tree.{arm, is_con, no_arms}
use Rattle.plain_tree.specs.TreeOf.{arms_of, arm_of}
use Rattle.exp_steps.specs.of_match_types.Views.{reading}
use Rattle.exp_steps.proofs.Nodes.{arm_of-parts, tree_of-Ret}
use Rattle.exp_blocks.proofs.blocks.other_arm.Goals as goal

pub returns : goal.returns
returns c = λ v.
    ap (λ l. arms_of (map (arm_of (reading v)) l)) c.in_ok-made.ensures
    ∙ ap (λ a. arm a.case a.body no_arms) (arm_of-parts (reading v) _)
    ∙ ap₂ (λ n e. arm (is_con n) e no_arms) c.truth_number-other.ensures (tree_of-Ret (reading v) c.args.value)
