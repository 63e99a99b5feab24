use Rattle.mono_operations.specs.Reads.{local}
use Rattle.mono_operations.specs.declared.tables.Tables.{Tables}
use Rattle.mono_operations.proofs.Scopes.{Along}
use Rattle.mono_operations.proofs.atom.fields_fit.Given as goal

abbrev pub invariant-loop-i : goal.invariant-loop-i
invariant-loop-i l = (t : Tables) → Along t (local l.scope) l.fields l.labels l.parts l.i
