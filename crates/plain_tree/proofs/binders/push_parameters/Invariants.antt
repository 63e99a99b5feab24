use Rattle.std.proofs.Common.{◌≡◌, ◌++◌, take}
use Rattle.plain_tree.specs.Sums.{variables_of}
use Rattle.plain_tree.proofs.binders.push_parameters.Given as goal

abbrev pub invariant-loop-i : goal.invariant-loop-i
invariant-loop-i l = l.found.items ≡ l.fn.found.items ++ variables_of (take l.i l.parameters)
