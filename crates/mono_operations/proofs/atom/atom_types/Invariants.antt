use Rattle.mono_operations.specs.Reads.{local}
use Rattle.mono_operations.specs.declared.tables.Tables.{Tables}
use Rattle.mono_operations.proofs.Scopes.{Behind}
use Rattle.mono_operations.proofs.atom.atom_types.Given as goal

abbrev pub invariant-loop-i : goal.invariant-loop-i
invariant-loop-i l = (t : Tables) → Behind t (local l.scope) l.atoms l.found.items l.i
