use Rattle.std.proofs.Common.{length, map, refl, sym, ap, subst, ◌∙◌}
use Rattle.std.proofs.lemmas.List.{length-map}
use Rattle.sml_tree.specs.TreeOf.{data_bind_of, type_bind_of}
use Rattle.elab_types.specs.Reading.{Holds}
use Rattle.elab_types.specs.declared.scope.TypeScope.{TypeScope}
use Rattle.elab_types.proofs.Keeping.{holds_later}
use Rattle.elab_state.specs.States.{types_in}
use Rattle.dec_forms.proofs.Bodies.{holds_without, scope-same}
use Rattle.datatype_forms.specs.Abbreviated.{binds_with}
use Rattle.datatype_forms.specs.Best.{AreArgumentsIn}
use Rattle.datatype_forms.proofs.Best.{best_counted, data_arguments_are}
use Rattle.datatype_forms.proofs.chosen.data_arguments.Goals as goal

pub best_names-requires-clause-holds : goal.best_names-requires-clause-holds
best_names-requires-clause-holds c = holds_without (types_in c.args.state.now) c.args.scope.now _ (c.replace-outer.ensures.after ∙ c.new.ensures) refl c.requires.holds

pub best_names-requires-clause-none : goal.best_names-requires-clause-none
best_names-requires-clause-none c = c.replace-outer.ensures.after ∙ c.new.ensures

pub arguments_in-requires-clause-holds : goal.arguments_in-requires-clause-holds
arguments_in-requires-clause-holds c =
    subst (Holds (types_in c.best_names.new.state)) (sym c.in_ok-names.ensures.scope)
    (holds_later (types_in c.args.state.now) (types_in c.best_names.new.state) _ c.in_ok-names.ensures.are.step.grows.types
    (holds_without (types_in c.args.state.now) c.args.scope.now _ (c.replace-outer.ensures.after ∙ c.new.ensures) refl c.requires.holds))

pub arguments_in-requires-clause-none : goal.arguments_in-requires-clause-none
arguments_in-requires-clause-none c = ap (λ (z : TypeScope). z.tyvars) c.in_ok-names.ensures.scope ∙ c.replace-outer.ensures.after ∙ c.new.ensures

pub arguments_in-requires-clause-count : goal.arguments_in-requires-clause-count
arguments_in-requires-clause-count c =
    ap length c.deref.ensures.value ∙ best_counted c.args.state.now c.best_names.new.state _ c.args.first (map type_bind_of c.args.abbreviations.now) (map data_bind_of c.args.binds.now)
    c.in_ok-names.names.items c.in_ok-names.ensures.are ∙ length-map c.args.binds.now data_bind_of

pub returns-clause-are : goal.returns-clause-are
returns-clause-are c =
    let bs = binds_with c.args.abbreviations.now c.args.binds.now in
    data_arguments_are c.args.state.now c.best_names.new.state c.arguments_in.new.state c.args.scope.now _ c.args.first bs c.in_ok-names.names.items c.in_ok-arguments.arguments
    (holds_without (types_in c.args.state.now) c.args.scope.now _ (c.replace-outer.ensures.after ∙ c.new.ensures) refl c.requires.holds) refl c.in_ok-names.ensures.are
    (subst (λ s. AreArgumentsIn c.best_names.new.state s bs c.in_ok-names.names.items c.arguments_in.new.state c.in_ok-arguments.arguments) c.in_ok-names.ensures.scope
    (subst (λ ns. AreArgumentsIn c.best_names.new.state c.best_names.new.scope bs ns c.arguments_in.new.state c.in_ok-arguments.arguments) c.deref.ensures.value c.in_ok-arguments.ensures.are))

pub returns-clause-scope : goal.returns-clause-scope
returns-clause-scope c =
    scope-same c.args.scope.now _ c.replace-outer.ensures.value (ap (λ (z : TypeScope). z.types) c.in_ok-arguments.ensures.scope ∙ ap (λ (z : TypeScope). z.types) c.in_ok-names.ensures.scope)
