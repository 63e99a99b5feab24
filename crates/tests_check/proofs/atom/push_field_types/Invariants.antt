use Rattle.std.proofs.Common.{◌≡◌, [], take}
use Rattle.tests_check.proofs.Atoms.{FieldsOf}
use Rattle.tests_check.proofs.atom.push_field_types.Given as goal

abbrev pub invariant-loop-i : goal.invariant-loop-i
invariant-loop-i l = l.fn.found.items ≡ [] → FieldsOf l.tables l.scope (take l.i l.fields) l.found.items
