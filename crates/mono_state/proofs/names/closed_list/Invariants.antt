use Rattle.std.proofs.Common.{take}
use Rattle.mono_state.proofs.Listing.{Closed}
use Rattle.mono_state.proofs.names.closed_list.Given as goal

abbrev pub invariant-loop-i : goal.invariant-loop-i
invariant-loop-i l = Closed l.fn.tables.types l.fn.copier l.copier (take l.i l.types) l.closed.items
