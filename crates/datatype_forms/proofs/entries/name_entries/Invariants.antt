use Rattle.std.proofs.Common.{map, take}
use Rattle.sml_tree.specs.TreeOf.{data_bind_of}
use Rattle.elab_state.specs.States.{types_in}
use Rattle.datatype_forms.specs.Reading.{AreNameEntries}
use Rattle.datatype_forms.specs.Steps.{IsStep}
use Rattle.datatype_forms.proofs.entries.name_entries.Given as goal

abbrev pub invariant-loop-i : goal.invariant-loop-i
invariant-loop-i l = record {
  step : IsStep l.fn.state l.state;
  are : AreNameEntries (types_in l.state) (map data_bind_of (take l.i l.binds)) (take l.i l.names) l.entries.items;
}
