use Rattle.std.proofs.Common.{◌≡◌, map, take}
use Rattle.first_tree.specs.TreeOf.{fun_of}
use Rattle.ir_first.specs.WellFormed.{arity}
use Rattle.first_form.proofs.form.find_arities.Given as goal

abbrev pub invariant-loop-i : goal.invariant-loop-i
invariant-loop-i l = l.arities.items ≡ map arity (map fun_of (take l.i l.funs))
