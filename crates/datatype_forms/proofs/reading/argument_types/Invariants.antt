use Rattle.std.proofs.Common.{◌≡◌, List, map, take}
use Rattle.sml_tree.specs.TreeOf.{con_bind_of}
use Rattle.sml_tree.specs.declared.ident.Tyvar.{Tyvar}
use Rattle.elab_types.specs.Reading.{Holds}
use Rattle.elab_types.specs.declared.scope.TypeScope.{TypeScope}
use Rattle.elab_state.specs.States.{types_in}
use Rattle.closed_types.specs.Parameters.{AreParameters}
use Rattle.datatype_forms.specs.Reading.{AreArgumentTypes}
use Rattle.datatype_forms.specs.Steps.{IsStep}
use Rattle.datatype_forms.proofs.reading.argument_types.Given as goal

abbrev pub invariant-loop-i : goal.invariant-loop-i
invariant-loop-i l = record {
  step : IsStep l.fn.state l.state;
  are : (as_ : List Tyvar) (outer : TypeScope) → Holds (types_in l.fn.state) outer → l.scope.types ≡ outer.types → AreParameters (types_in l.fn.state) 0 as_ l.scope.tyvars
      → AreArgumentTypes (types_in l.fn.state) (types_in l.state) outer as_ (map con_bind_of (take l.i l.cons)) l.row.items;
}
