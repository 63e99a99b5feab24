use Rattle.std.proofs.Common.{map, refl, ap, ◌∙◌}
use Rattle.sml_tree.specs.TreeOf.{type_bind_of}
use Rattle.elab_types.specs.declared.scope.TypeScope.{TypeScope}
use Rattle.closed_types.specs.of_elab_state.States.{types_in}
use Rattle.dec_forms.proofs.Bodies.{functions_in, holds_without, scope-same}
use Rattle.dec_forms.proofs.declare_types.closed_functions.Goals as goal

pub type_functions-requires-clause-holds : goal.type_functions-requires-clause-holds
type_functions-requires-clause-holds c = holds_without (types_in c.args.state.now) c.args.scope.now _ (c.replace-outer.ensures.after ∙ c.new.ensures) refl c.requires

pub type_functions-requires-clause-none : goal.type_functions-requires-clause-none
type_functions-requires-clause-none c = c.replace-outer.ensures.after ∙ c.new.ensures

pub returns-clause-are : goal.returns-clause-are
returns-clause-are c =
    functions_in c.args.state.now c.type_functions.new.state c.args.scope.now _ (map type_bind_of c.args.binds.now) c.in_ok-entries.entries.items refl c.in_ok-entries.ensures.are

pub returns-clause-scope : goal.returns-clause-scope
returns-clause-scope c = scope-same c.args.scope.now _ c.replace-outer.ensures.value (ap (λ (s : TypeScope). s.types) c.in_ok-entries.ensures.scope)
