use Rattle.std.proofs.Common.{map, drop, get_or}
use Rattle.first_tables.specs.TablesOf.{set_of}
use Rattle.ssa_tree.specs.TreeOf.{fun_of}
use Rattle.emit_sets.proofs.Routines.{SetsSoFar}
use Rattle.emit_sets.proofs.sets.push_sets.Given as goal

abbrev pub invariant-loop-i : goal.invariant-loop-i
invariant-loop-i l =
    SetsSoFar (map fun_of l.funs) (λ f. get_or l.places f l.other) (map set_of l.sets) l.fn.code.items (map set_of (drop l.i l.sets)) l.code.items l.found.items
