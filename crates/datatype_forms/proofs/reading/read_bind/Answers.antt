use Rattle.std.proofs.Common.{List, map, nat_eq, sym, ap, subst, ◌∙◌}
use Rattle.sml_tree.specs.TreeOf.{con_bind_of}
use Rattle.sml_tree.specs.declared.ident.Tyvar.{Tyvar}
use Rattle.core_rules.specs.Restrictions.{distinct}
use Rattle.elab_types.proofs.Keeping.{holds_later}
use Rattle.elab_state.specs.States.{types_in}
use Rattle.closed_types.specs.Parameters.{AreParameters}
use Rattle.closed_types.proofs.Entering.{holds-entered}
use Rattle.dec_forms.proofs.Bodies.{none-left, scope-same}
use Rattle.datatype_forms.proofs.Collecting.{row_entered}
use Rattle.datatype_forms.proofs.Stepping.{step_on}
use Rattle.datatype_forms.proofs.reading.read_bind.Goals as goal

pub argument_types-requires : goal.argument_types-requires
argument_types-requires c =
    holds-entered (types_in c.enter_parameters.new.state) c.args.bind.now.tyvars.items c.args.scope.now c.enter_parameters.new.scope
    (holds_later (types_in c.args.state.now) (types_in c.enter_parameters.new.state) c.args.scope.now c.in_ok-enter_parameters.ensures.grows.types c.requires.holds)
    c.in_ok-enter_parameters.ensures.types
    (subst (λ (as_ : List Tyvar). AreParameters (types_in c.enter_parameters.new.state) 0 as_ c.enter_parameters.new.scope.tyvars) c.deref-3.ensures.value c.in_ok-enter_parameters.ensures.are)

pub returns-clause-step : goal.returns-clause-step
returns-clause-step c =
    step_on c.args.state.now c.enter_parameters.new.state c.argument_types.new.state (record { grows = c.in_ok-enter_parameters.ensures.grows; next = c.in_ok-enter_parameters.ensures.next })
    c.in_ok-row.ensures.step

pub returns-clause-are : goal.returns-clause-are
returns-clause-are c =
    let are : AreParameters (types_in c.enter_parameters.new.state) 0 c.args.bind.now.tyvars.items c.enter_parameters.new.scope.tyvars =
    subst (λ (as_ : List Tyvar). AreParameters (types_in c.enter_parameters.new.state) 0 as_ c.enter_parameters.new.scope.tyvars) c.deref-3.ensures.value c.in_ok-enter_parameters.ensures.are in
    row_entered (types_in c.args.state.now) (types_in c.enter_parameters.new.state) (types_in c.argument_types.new.state) c.args.scope.now c.args.bind.now.tyvars.items _ _ _ c.requires.holds
    c.in_ok-enter_parameters.ensures.grows.types (c.in_ok-row.ensures.are c.args.bind.now.tyvars.items c.args.scope.now
    (holds_later (types_in c.args.state.now) (types_in c.enter_parameters.new.state) c.args.scope.now c.in_ok-enter_parameters.ensures.grows.types c.requires.holds)
    c.in_ok-enter_parameters.ensures.types are) (ap (map con_bind_of) c.deref-4.ensures.value)

pub returns-clause-once : goal.returns-clause-once
returns-clause-once c =
    sym (ap (distinct nat_eq) (c.deref-2.ensures.value ∙ c.in_ok-names.ensures ∙ ap (map (λ (a : Tyvar). a.name)) c.deref.ensures.value)) ∙ c.in_ok-check_names.ensures.once

pub returns-clause-scope : goal.returns-clause-scope
returns-clause-scope c =
    scope-same c.args.scope.now _ (none-left c.enter_parameters.new.scope.tyvars c.truncate.new.self c.truncate.ensures ∙ sym c.requires.none) c.in_ok-enter_parameters.ensures.types
