use Rattle.prog_known.proofs.OntoLemmas.{Running}
use Rattle.prog_binds.specs.Chains.{next_bind_step}
use Rattle.prog_binds.proofs.groups.bind_bindings.Given as goal

abbrev pub invariant-loop-i : goal.invariant-loop-i
invariant-loop-i l = Running l.tables (next_bind_step l.tables l.parameters) l.binds l.fn.variables l.variables l.i
