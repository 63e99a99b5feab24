use Rattle.std.proofs.Common.{map, take, refl, sym, ap, subst, ◌∙◌}
use Rattle.sml_tree.specs.TreeOf.{type_bind_of}
use Rattle.elab_types.proofs.Keeping.{holds_later}
use Rattle.elab_types.specs.Reading.{Holds}
use Rattle.elab_types.specs.declared.scope.TypeScope.{TypeScope}
use Rattle.elab_state.specs.States.{types_in}
use Rattle.datatype_forms.specs.Abbreviated.{IsFunctionEntry}
use Rattle.datatype_forms.proofs.Abbreviating.{function_next, no_functions}
use Rattle.datatype_forms.proofs.Collecting.{taken_next}
use Rattle.datatype_forms.proofs.Stepping.{step_on, step_same}
use Rattle.datatype_forms.proofs.functions.function_entries.Goals as goal

pub loop-i-init : goal.loop-i-init
loop-i-init c = record { step = step_same c.args.state.now; are = no_functions (types_in c.args.state.now) c.args.scope.now _ c.new-entries.ensures.items; scope = refl }

pub function_entry-requires-clause-holds : goal.function_entry-requires-clause-holds
function_entry-requires-clause-holds c =
    subst (Holds (types_in c.loop-i.state)) (sym c.loop-i.invariant.scope)
    (holds_later (types_in c.args.state.now) (types_in c.loop-i.state) c.args.scope.now c.loop-i.invariant.step.grows.types c.requires.holds)

pub function_entry-requires-clause-none : goal.function_entry-requires-clause-none
function_entry-requires-clause-none c = ap (λ (s : TypeScope). s.tyvars) c.loop-i.invariant.scope ∙ c.requires.none

pub loop-i-preserved : goal.loop-i-preserved
loop-i-preserved c = record {
  step = step_on c.args.state.now c.loop-i.state c.function_entry.new.state c.loop-i.invariant.step c.in_ok-entry.ensures.step;
  are =
      function_next (types_in c.args.state.now) (types_in c.loop-i.state) (types_in c.function_entry.new.state) c.args.scope.now (map type_bind_of (take c.loop-i.i c.args.binds.now)) _ c.loop-i.entries.items
      c.push.new.self.items (type_bind_of c.index-binds-i.result) (c.index-binds-i.result.tycon, c.in_ok-entry.entry) c.requires.holds c.loop-i.invariant.step.grows.types c.in_ok-entry.ensures.step.grows.types
      c.loop-i.invariant.are refl
      (subst (λ s. IsFunctionEntry (types_in c.loop-i.state) (types_in c.function_entry.new.state) s (type_bind_of c.index-binds-i.result) c.in_ok-entry.entry) c.loop-i.invariant.scope c.in_ok-entry.ensures.is)
      (taken_next type_bind_of c.args.binds.now c.loop-i.i c.index-binds-i.result c.loop-i-test.true c.index-binds-i.is)
      c.in_ok-push.ensures.items;
  scope = c.in_ok-entry.ensures.scope ∙ c.loop-i.invariant.scope;
}
