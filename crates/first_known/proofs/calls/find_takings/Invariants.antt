use Rattle.std.proofs.Common.{◌≡◌, map, take}
use Rattle.first_tables.specs.TablesOf.{set_of}
use Rattle.first_known.specs.Takings.{takings_of}
use Rattle.first_known.proofs.calls.find_takings.Given as goal

abbrev pub invariant-loop-i : goal.invariant-loop-i
invariant-loop-i l = l.all.items ≡ takings_of l.arities (map set_of (take l.i l.sets))
