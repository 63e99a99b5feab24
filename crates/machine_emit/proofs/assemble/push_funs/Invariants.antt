use Rattle.std.proofs.Common.{◌≡◌, true, length, map, drop}
use Rattle.first_tables.specs.TablesOf.{tables_of}
use Rattle.ssa_tree.specs.TreeOf.{fun_of}
use Rattle.machine_code.specs.Rows.{AreRight}
use Rattle.machine_rows.specs.Table.{rows}
use Rattle.emit_code.specs.PlacesOf.{places_of}
use Rattle.emit_walk.specs.Marks.{mark_of}
use Rattle.emit_walk.specs.Walk.{env_of}
use Rattle.machine_emit.proofs.Funs.{Laid}
use Rattle.machine_emit.proofs.Whole.{Walked}
use Rattle.machine_emit.proofs.assemble.push_funs.Given as goal

abbrev pub invariant-loop-i : goal.invariant-loop-i
invariant-loop-i l = record {
  code : (right : AreRight rows) → l.sure ≡ true
      → Walked (places_of l.tables l.at) right (map fun_of l.funs) l.fn.pass.code.items (map fun_of (drop l.i l.funs)) (env_of l.pass) l.pass.code.items
      l.found.items;
  laid : Laid rows (tables_of l.tables).types (map fun_of l.funs) (length l.fn.pass.code.items) (map fun_of (drop l.i l.funs)) (mark_of l.pass) l.found.items;
}
