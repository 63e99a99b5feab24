use Rattle.std.proofs.Common.{◌≡◌, ◌≤◌, map, drop}
use Rattle.std.specs.Prelude.{max}
use Rattle.first_tables.specs.TablesOf.{member_of}
use Rattle.ssa_tree.specs.TreeOf.{fun_of}
use Rattle.machine_code.specs.Image.{widest}
use Rattle.emit_sets.proofs.sets.widest.Given as goal

abbrev pub invariant-loop-member : goal.invariant-loop-member
invariant-loop-member l = record {
  least : 1 ≤ l.most;
  so-far : max l.most (widest (map fun_of l.funs) (map member_of (drop l.member-index l.members))) ≡ widest (map fun_of l.funs) (map member_of l.members);
}
