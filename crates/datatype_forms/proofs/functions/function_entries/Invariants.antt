use Rattle.std.proofs.Common.{◌≡◌, map, take}
use Rattle.sml_tree.specs.TreeOf.{type_bind_of}
use Rattle.elab_state.specs.States.{types_in}
use Rattle.datatype_forms.specs.Abbreviated.{AreFunctionEntries}
use Rattle.datatype_forms.specs.Steps.{IsStep}
use Rattle.datatype_forms.proofs.functions.function_entries.Given as goal

abbrev pub invariant-loop-i : goal.invariant-loop-i
invariant-loop-i l = record {
  step : IsStep l.fn.state l.state;
  are : AreFunctionEntries (types_in l.fn.state) (types_in l.state) l.fn.scope (map type_bind_of (take l.i l.binds)) l.entries.items;
  scope : l.scope ≡ l.fn.scope;
}
