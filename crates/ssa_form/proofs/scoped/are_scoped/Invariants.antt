use Rattle.std.proofs.Common.{◌↔◌, IsTrue, map, take}
use Rattle.std.specs.List.{AllByRecursion}
use Rattle.first_tables.specs.TablesOf.{tables_of}
use Rattle.ssa_tree.specs.TreeOf.{fun_of}
use Rattle.ssa_form.specs.Scoped.{FunScoped}
use Rattle.ssa_form.proofs.scoped.are_scoped.Given as goal

abbrev pub invariant-loop-i : goal.invariant-loop-i
invariant-loop-i l = IsTrue l.all ↔ AllByRecursion (FunScoped (tables_of l.tables) l.arities) (map fun_of (take l.i l.funs))
