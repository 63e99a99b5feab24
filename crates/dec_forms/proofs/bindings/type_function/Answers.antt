use Rattle.std.proofs.Common.{◌≡◌, List, length, map, nat_eq, true, refl, sym, ap, subst, ◌∙◌, arith}
use Rattle.sml_tree.specs.TreeOf.{ty_of, type_bind_of}
use Rattle.sml_tree.specs.declared.ident.Tyvar.{Tyvar}
use Rattle.core_rules.specs.Restrictions.{distinct, no_repetition}
use Rattle.elab_types.proofs.Keeping.{holds_later}
use Rattle.closed_types.specs.of_elab_state.States.{types_in}
use Rattle.closed_types.specs.Parameters.{AreParameters}
use Rattle.closed_types.proofs.Entering.{closed-is, holds-entered}
use Rattle.dec_forms.proofs.Bodies.{function_is, none-left, scope-same}
use Rattle.dec_forms.proofs.bindings.type_function.Goals as goal

pub closed_type-requires : goal.closed_type-requires
closed_type-requires c =
    holds-entered (types_in c.enter_parameters.new.state) c.args.bind.now.tyvars.items c.args.scope.now c.enter_parameters.new.scope
    (holds_later (types_in c.args.state.now) (types_in c.enter_parameters.new.state) c.args.scope.now c.in_ok-enter_parameters.ensures.grows.types c.requires.holds)
    c.in_ok-enter_parameters.ensures.types
    (subst (λ (as_ : List Tyvar). AreParameters (types_in c.enter_parameters.new.state) 0 as_ c.enter_parameters.new.scope.tyvars) c.deref-3.ensures.value c.in_ok-enter_parameters.ensures.are)

pub returns-clause-is : goal.returns-clause-is
returns-clause-is c =
    let are : AreParameters (types_in c.enter_parameters.new.state) 0 c.args.bind.now.tyvars.items c.enter_parameters.new.scope.tyvars =
    subst (λ (as_ : List Tyvar). AreParameters (types_in c.enter_parameters.new.state) 0 as_ c.enter_parameters.new.scope.tyvars) c.deref-3.ensures.value c.in_ok-enter_parameters.ensures.are in
    let arity : c.len.result ≡ length c.args.bind.now.tyvars.items = omega (arith, c.len.ensures, c.args.bind.now.tyvars.ok.0) in
    let once : no_repetition c.args.bind.now.tyvars.items ≡ true =
    sym (ap (distinct nat_eq) (c.deref-2.ensures.value ∙ c.in_ok-names.ensures ∙ ap (map (λ (a : Tyvar). a.name)) c.deref.ensures.value)) ∙ c.in_ok-check_names.ensures.once in
    function_is c.args.state.now c.enter_parameters.new.state c.closed_type.new.state c.args.scope.now c.enter_parameters.new.scope (type_bind_of c.args.bind.now) _ c.requires.holds
    c.in_ok-enter_parameters.ensures.grows c.in_ok-enter_parameters.ensures.next c.in_ok-enter_parameters.ensures.types are c.in_ok-body.ensures.grows c.in_ok-body.ensures.next
    (closed-is (types_in c.enter_parameters.new.state) (types_in c.closed_type.new.state) c.args.bind.now.tyvars.items c.args.scope.now c.enter_parameters.new.scope (ty_of c.args.bind.now.ty)
    c.in_ok-body.body c.in_ok-enter_parameters.ensures.types are c.in_ok-body.ensures.is c.in_ok-body.ensures.known)
    arity once refl

pub returns-clause-scope : goal.returns-clause-scope
returns-clause-scope c =
    scope-same c.args.scope.now _ (none-left c.enter_parameters.new.scope.tyvars c.truncate.new.self c.truncate.ensures ∙ sym c.requires.none) c.in_ok-enter_parameters.ensures.types
