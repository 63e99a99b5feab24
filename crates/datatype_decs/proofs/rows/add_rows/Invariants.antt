use Rattle.std.proofs.Common.{◌≡◌, map, nat_eq, take}
use Rattle.indexmap.specs.IndexMap.{get}
use Rattle.sml_tree.specs.TreeOf.{data_bind_of}
use Rattle.elab_context.specs.Entries.{number_in}
use Rattle.elab_state.specs.States.{types_in}
use Rattle.datatype_forms.specs.Arguments.{rows_at}
use Rattle.datatype_forms.specs.Constructed.{AllRows}
use Rattle.datatype_forms.specs.Steps.{IsStep, KnowsTypes}
use Rattle.datatype_decs.proofs.rows.add_rows.Given as goal

abbrev pub invariant-loop-i : goal.invariant-loop-i
invariant-loop-i l = record {
  step : IsStep l.fn.state l.state;
  types : types_in l.state ≡ types_in l.fn.state;
  knows : KnowsTypes l.state l.in_use (get nat_eq l.known);
  rows : AllRows l.state (number_in l.context) l.context.names (take l.i l.names) (map data_bind_of (take l.i l.binds)) (rows_at (types_in l.fn.state) (map (λ ks. ks.items) (take l.i l.rows)));
}
