use Rattle.std.proofs.Common.{◌≡◌, ◌++◌, map, take, drop}
use Rattle.first_tree.specs.TreeOf as source
use Rattle.ssa_tree.specs.TreeOf as target
use Rattle.ssa_build.specs.Build as b
use Rattle.ssa_pass.specs.Built.{exit_of, build_arm}
use Rattle.ssa_pass.proofs.build.+build.Given as goal

abbrev pub invariant-build_steps-loop-i : goal.invariant-build_steps-loop-i
invariant-build_steps-loop-i l =
    target.onto (map target.step_of l.steps.items) (b.build (exit_of l.exit) l.miss (source.onto (map source.step_of (drop l.i l.before)) (source.tree_of l.rest)))
    ≡ target.onto (map target.step_of l.fn.steps.items) (b.build (exit_of l.exit) l.miss (source.onto (map source.step_of l.before) (source.tree_of l.rest)))

abbrev pub invariant-build_arms-loop-i : goal.invariant-build_arms-loop-i
invariant-build_arms-loop-i l = map target.arm_of l.made.items ≡ map target.arm_of l.fn.made.items ++ map (build_arm (exit_of l.exit) l.miss) (map source.arm_of (take l.i l.arms))
