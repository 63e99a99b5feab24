use Rattle.std.proofs.Common.{◌≡◌, take}
use Rattle.dec_forms.specs.Entries.{type_scope, types_onto}
use Rattle.datatype_forms.proofs.entries.bind_entries.Given as goal

abbrev pub invariant-loop-i : goal.invariant-loop-i
invariant-loop-i l = l.scope ≡ type_scope l.fn.scope.tyvars (types_onto l.fn.scope.types (take l.i l.entries))
