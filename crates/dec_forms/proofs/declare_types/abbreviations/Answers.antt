use Rattle.std.proofs.Common.{◌≡◌, ◌++◌, ℕ, List, map, nat_eq, true, refl, sym, ap, ap₂, ◌∙◌}
use Rattle.sml_tree.specs.TreeOf.{type_bind_of}
use Rattle.core_rules.specs.Restrictions.{distinct}
use Rattle.elab_types.specs.declared.scope.TypeEntry.{TypeEntry}
use Rattle.elab_types.specs.declared.scope.TypeScope.{TypeScope}
use Rattle.exp_forms.specs.of_elab_context.declared.context.Context.{Context}
use Rattle.dec_forms.specs.Entries.{with_types}
use Rattle.dec_forms.proofs.DeclaringTypes.{context_of_types, types_declared}
use Rattle.dec_forms.proofs.declare_types.abbreviations.Goals as goal

pub returns-clause-context : goal.returns-clause-context
returns-clause-context c =
    let C : Context = c.args.context.now in
    context_of_types c.args.state.now c.closed_functions.new.state C c.bring_types.new.context (map type_bind_of c.args.binds.now) c.in_ok-entries.entries.items c.requires c.in_ok-entries.ensures.are
    (c.in_ok-bring_types.ensures
    ∙ ap₂ (λ (s : TypeScope) (l : List (ℕ × TypeEntry)). with_types (record C { types = s }) l) c.in_ok-entries.ensures.scope c.deref-3.ensures.value)

pub returns-clause-unrepeated : goal.returns-clause-unrepeated
returns-clause-unrepeated c = c.in_ok-entries.ensures.are.unrepeated

pub returns-clause-declared : goal.returns-clause-declared
returns-clause-declared c =
    let C : Context = c.args.context.now in
    let once : distinct nat_eq (map (λ (e : ℕ × TypeEntry). e.0) c.in_ok-entries.entries.items) ≡ true =
    sym (ap (distinct nat_eq) (c.deref-2.ensures.value ∙ c.in_ok-tycons.ensures ∙ ap (map (λ (e : ℕ × TypeEntry). e.0)) c.deref.ensures.value)) ∙ c.in_ok-check_names.ensures.once in
    types_declared c.args.state.now c.closed_functions.new.state C c.bring_types.new.context c.args.place (map type_bind_of c.args.binds.now) c.in_ok-entries.entries.items _ c.args.brought.now
    c.add_types.new.self c.in_ok-entries.ensures.are once
    (c.in_ok-bring_types.ensures
    ∙ ap₂ (λ (s : TypeScope) (l : List (ℕ × TypeEntry)). with_types (record C { types = s }) l) c.in_ok-entries.ensures.scope c.deref-3.ensures.value)
    refl (c.in_ok-add_types.ensures.types ∙ ap (λ (l : List (ℕ × TypeEntry)). c.args.brought.now.types.items ++ l) c.deref-4.ensures.value)
    (ap (λ z. z.items) c.add_types.ensures.values)
