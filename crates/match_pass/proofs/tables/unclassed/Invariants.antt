use Rattle.std.proofs.Common.{◌≡◌, take}
use Rattle.match_compile.specs.Compile as clean
use Rattle.match_pass.proofs.tables.unclassed.Given as goal

abbrev pub invariant-loop-i : goal.invariant-loop-i
invariant-loop-i l = l.made.items ≡ clean.unclassed (take l.i l.all)
