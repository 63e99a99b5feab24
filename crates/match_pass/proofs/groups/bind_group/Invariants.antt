use Rattle.std.proofs.Common.{◌≡◌, ◌≤◌, ◌+◌, length, drop}
use Rattle.match_compile.specs.Compile.{funs_named}
use Rattle.match_names.specs.Bindings.{names_of}
use Rattle.prog_tree.specs.TreeOf.{Reading}
use Rattle.general_bindings.specs.of_exp_blocks.Giving.{Ends}
use Rattle.match_pass.specs.Declaring.{funs_read}
use Rattle.match_pass.proofs.groups.bind_group.Given as goal

abbrev pub invariant-loop-left : goal.invariant-loop-left
invariant-loop-left l = record {
  within : l.left ≤ length l.functions;
  ends : Ends l.fn.names l.names;
  names : (R : Reading) → names_of l.names ≡ funs_named (funs_read (drop l.left l.functions) R) (l.first + l.left) (names_of l.fn.names);
}

abbrev pub decreases-loop-left : goal.decreases-loop-left
decreases-loop-left l = l.left
