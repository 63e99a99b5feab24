use Rattle.std.proofs.Common.{◌≡◌, length}
use Rattle.elab_state.specs.Namings.{AreNamings}
use Rattle.final_types.specs.Names.{AreJumps, tos}
use Rattle.final_types.proofs.names.jumps_of.Given as goal

abbrev pub invariant-loop-i : goal.invariant-loop-i
invariant-loop-i l = record {
  count : length l.jumps.items ≡ l.i;
  jumps : AreNamings l.namings → AreJumps l.namings (tos l.jumps.items);
}
