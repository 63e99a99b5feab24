use Rattle.std.proofs.Common.{List, arith, sym, subst, ◌∙◌}
use Rattle.ty_instance.proofs.Going.{whole}
use Rattle.sml_tree.specs.TreeOf.{ty_of}
use Rattle.sml_tree.specs.declared.ident.Tyvar.{Tyvar}
use Rattle.elab_types.proofs.Keeping.{holds_later}
use Rattle.elab_state.specs.States.{types_in}
use Rattle.closed_types.specs.Parameters.{AreParameters}
use Rattle.closed_types.proofs.Entering.{closed-is, holds-entered}
use Rattle.dec_forms.proofs.Bodies.{none-left, scope-same}
use Rattle.datatype_forms.proofs.Collecting.{closed_moved}
use Rattle.datatype_forms.proofs.Stepping.{step_on}
use Rattle.datatype_forms.proofs.functions.function_entry.Goals as goal

pub closed_type-requires : goal.closed_type-requires
closed_type-requires c =
    holds-entered (types_in c.enter_parameters.new.state) c.args.bind.now.tyvars.items c.args.scope.now c.enter_parameters.new.scope
    (holds_later (types_in c.args.state.now) (types_in c.enter_parameters.new.state) c.args.scope.now c.in_ok-enter_parameters.ensures.grows.types c.requires.holds)
    c.in_ok-enter_parameters.ensures.types
    (subst (λ (as_ : List Tyvar). AreParameters (types_in c.enter_parameters.new.state) 0 as_ c.enter_parameters.new.scope.tyvars) c.deref-3.ensures.value c.in_ok-enter_parameters.ensures.are)

pub returns-clause-step : goal.returns-clause-step
returns-clause-step c =
    step_on c.args.state.now c.enter_parameters.new.state c.closed_type.new.state (record { grows = c.in_ok-enter_parameters.ensures.grows; next = c.in_ok-enter_parameters.ensures.next })
    (record { grows = c.in_ok-body.ensures.grows; next = c.in_ok-body.ensures.next })

pub returns-clause-is : goal.returns-clause-is
returns-clause-is c = record {
  arity = omega (arith, c.len.ensures, c.args.bind.now.tyvars.ok.0);
  body =
      closed_moved (types_in c.args.state.now) (types_in c.enter_parameters.new.state) (types_in c.closed_type.new.state) (types_in c.closed_type.new.state) c.args.scope.now c.args.bind.now.tyvars.items (ty_of c.args.bind.now.ty)
      c.in_ok-body.body c.requires.holds c.in_ok-enter_parameters.ensures.grows.types (whole (types_in c.closed_type.new.state))
      (closed-is (types_in c.enter_parameters.new.state) (types_in c.closed_type.new.state) c.args.bind.now.tyvars.items c.args.scope.now c.enter_parameters.new.scope (ty_of c.args.bind.now.ty) c.in_ok-body.body
      c.in_ok-enter_parameters.ensures.types
      (subst (λ (as_ : List Tyvar). AreParameters (types_in c.enter_parameters.new.state) 0 as_ c.enter_parameters.new.scope.tyvars) c.deref-3.ensures.value c.in_ok-enter_parameters.ensures.are)
      c.in_ok-body.ensures.is c.in_ok-body.ensures.known);
}

pub returns-clause-scope : goal.returns-clause-scope
returns-clause-scope c =
    scope-same c.args.scope.now _ (none-left c.enter_parameters.new.scope.tyvars c.truncate.new.self c.truncate.ensures ∙ sym c.requires.none) c.in_ok-enter_parameters.ensures.types
