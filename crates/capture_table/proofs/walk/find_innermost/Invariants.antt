use Rattle.std.proofs.Common.{◌≡◌, ◌++◌, take}
use Rattle.closure_convert.specs.Capture.{visible}
use Rattle.plain_tree.specs.Sums.{variables_of}
use Rattle.capture_table.proofs.walk.find_innermost.Given as goal

abbrev pub invariant-loop-i : goal.invariant-loop-i
invariant-loop-i l = visible l.scope ≡ l.captured ++ variables_of (take l.i l.parameters)
