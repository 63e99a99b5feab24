use Rattle.std.proofs.Common.{◌≡◌, map, take}
use Rattle.first_tree.specs.TreeOf as source
use Rattle.ssa_tree.specs.TreeOf as target
use Rattle.ssa_build.specs.Build as b
use Rattle.ssa_pass.proofs.build.build_funs.Given as goal

abbrev pub invariant-loop-i : goal.invariant-loop-i
invariant-loop-i l = map target.fun_of l.made.items ≡ map b.build_fun (map source.fun_of (take l.i l.funs))
