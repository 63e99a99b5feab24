use Rattle.std.proofs.Common.{◌≡◌, ◌≤◌, length, drop}
use Rattle.match_compile.specs.Compile.{each_named}
use Rattle.match_names.specs.Bindings.{names_of}
use Rattle.exp_blocks.specs.Giving.{Ends}
use Rattle.exp_blocks.proofs.scopes.bind_each.Given as goal

abbrev pub invariant-loop-left : goal.invariant-loop-left
invariant-loop-left l = record {
  within : l.left ≤ length l.variables;
  ends : Ends l.fn.names l.names;
  names : names_of l.names ≡ each_named (drop l.left l.variables) l.fn.number (names_of l.fn.names);
}

abbrev pub decreases-loop-left : goal.decreases-loop-left
decreases-loop-left l = l.left
