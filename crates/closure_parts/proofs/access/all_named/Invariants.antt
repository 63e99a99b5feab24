use Rattle.std.proofs.Common.{◌≡◌, map, take}
use Rattle.closure_meaning.specs.Convert.{var}
use Rattle.closure_parts.proofs.access.all_named.Given as goal

abbrev pub invariant-loop-i : goal.invariant-loop-i
invariant-loop-i l = l.made.items ≡ map var (take l.i l.variables)
