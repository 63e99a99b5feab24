use Rattle.prog_known.proofs.OntoLemmas.{Running}
use Rattle.prog_binds.specs.Chains.{field_step, part_step}
use Rattle.prog_binds.proofs.pats.+pats.Given as goal

abbrev pub invariant-bind_fields-loop-i : goal.invariant-bind_fields-loop-i
invariant-bind_fields-loop-i l = Running l.tables (field_step l.tables l.manner) l.fields l.fn.variables l.variables l.i

abbrev pub invariant-bind_parts-loop-i : goal.invariant-bind_parts-loop-i
invariant-bind_parts-loop-i l = Running l.tables (part_step l.tables l.manner l.side) l.parts l.fn.variables l.variables l.i
