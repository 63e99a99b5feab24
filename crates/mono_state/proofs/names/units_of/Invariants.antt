use Rattle.std.proofs.Common.{take}
use Rattle.mono_state.proofs.Listing.{Units}
use Rattle.mono_state.proofs.names.units_of.Given as goal

abbrev pub invariant-loop-i : goal.invariant-loop-i
invariant-loop-i l = Units l.fn.closed l.closed (take l.i l.parameters) l.numbers.items
