use Rattle.std.proofs.Common.{◌≤◌, length, take, reverse, List}
use Rattle.ir_poly.specs.Prog as t
use Rattle.plain_tree.specs.declared.tree.Step.{Step}
use Rattle.prog_tree.specs.TreeOf.{Reading}
use Rattle.general_bindings.specs.of_match_types.declared.work.Work.{Work}
use Rattle.match_pass.specs.Chains.{RightMade, last_first}
use Rattle.match_pass.proofs.chains.close_right.Given as goal

abbrev pub invariant-loop-left : goal.invariant-loop-left
invariant-loop-left l = record {
  within : l.left ≤ length l.joins;
  made : (start : Work) (before : List Step) (whole : Reading → t.Exp) → RightMade start l.fn.work before l.fn.steps.items whole (reverse l.fn.openings.items) (last_first l.joins) l.fn.last
      → RightMade start l.work before l.steps.items whole (reverse l.openings.items) (last_first (take l.left l.joins)) l.value;
}

abbrev pub decreases-loop-left : goal.decreases-loop-left
decreases-loop-left l = l.left
