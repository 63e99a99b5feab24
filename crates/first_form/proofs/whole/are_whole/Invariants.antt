use Rattle.std.proofs.Common.{◌↔◌, IsTrue, map, take}
use Rattle.std.specs.List.{AllByRecursion}
use Rattle.first_tree.specs.TreeOf.{fun_of}
use Rattle.ir_first.specs.Whole.{FunIsWhole}
use Rattle.first_form.proofs.whole.are_whole.Given as goal

abbrev pub invariant-loop-i : goal.invariant-loop-i
invariant-loop-i l = IsTrue l.all ↔ AllByRecursion FunIsWhole (map fun_of (take l.i l.funs))
