use Rattle.std.proofs.Common.{map, take}
use Rattle.ssa_tree.specs.TreeOf.{fun_of}
use Rattle.ssa_tree.specs.Exceptions.{funs_make}
use Rattle.emit_known.specs.Found.{Adds}
use Rattle.emit_known.proofs.exceptions.exceptions_of.Given as goal

abbrev pub invariant-loop-i : goal.invariant-loop-i
invariant-loop-i l = Adds l.tables.initial.items (funs_make (map fun_of (take l.i l.funs))) l.found.items
