use Rattle.std.proofs.Common.{◌≤◌, length, take, drop, reverse}
use Rattle.ir_poly.specs.Prog.{Pat}
use Rattle.prog_tree.specs.TreeOf.{Reading}
use Rattle.pattern_tests.specs.Tasks.{Done, both, pat_task}
use Rattle.pattern_tests.specs.Parts.{left_chain, left_rest}
use Rattle.pattern_tests.proofs.patterns.open_left.Given as goal

abbrev pub invariant-loop-left : goal.invariant-loop-left
invariant-loop-left l = record {
  within : l.left ≤ length l.parts;
  done : (p : Reading → Pat) → Done l.fn.work l.work l.fn.made l.made (pat_task (left_chain p l.parts) l.fn.u l.fn.atom)
      (both (pat_task (left_chain p (take l.left l.parts)) l.ty l.outer) (left_rest (drop l.left l.parts) (reverse l.pairs.items)));
}

abbrev pub decreases-loop-left : goal.decreases-loop-left
decreases-loop-left l = l.left
