use Rattle.std.proofs.Common.{[], ◌∷◌, ◌++◌, List, refl, ap, ◌∙◌}
use Rattle.sml_tree.specs.declared.ident.Vid.{Vid}
use Rattle.elab_context.specs.declared.context.Context.{Context}
use Rattle.elab_context.specs.declared.entry.Entry.{Entry}
use Rattle.dec_forms.specs.Entries.{with_types}
use Rattle.dec_forms.specs.Telling.{with_all}
use Rattle.scope_decs.proofs.Replicating.{replicate_bringing, replicate_context}
use Rattle.scope_decs.proofs.replicate.replicate.Goals as goal

pub returns-clause-context : goal.returns-clause-context
returns-clause-context c S =
    replicate_context S c.args.context.now c.bring_types.new.context c.args.tycon c.args.from.now.long.qualifiers.items c.args.from.now.long.id c.in_ok-entry.entry c.in_ok-entry.ensures.is
    (c.in_ok-bring_types.ensures
    ∙ ap (λ (D : Context). with_types D ((c.args.tycon, c.in_ok-entry.entry) ∷ []))
    (c.in_ok-bring_values.ensures ∙ ap (with_all c.args.context.now) (c.deref.ensures.value ∙ c.in_ok-values.ensures)))

pub returns-clause-declared : goal.returns-clause-declared
returns-clause-declared c S =
    replicate_bringing S c.args.context.now c.bring_types.new.context c.args.place c.args.tycon c.args.from.now.place c.args.from.now.long.qualifiers.items c.args.from.now.long.id
    c.in_ok-entry.entry _ c.args.brought.now c.add_types.new.self c.in_ok-entry.ensures.is
    (c.in_ok-bring_types.ensures
    ∙ ap (λ (D : Context). with_types D ((c.args.tycon, c.in_ok-entry.entry) ∷ []))
    (c.in_ok-bring_values.ensures ∙ ap (with_all c.args.context.now) (c.deref.ensures.value ∙ c.in_ok-values.ensures)))
    refl
    (ap (λ z. z.items) c.add_types.ensures.values ∙ c.in_ok-add_values.ensures.values
    ∙ ap (λ (l : List (Vid × Entry)). c.args.brought.now.values.items ++ l) (c.deref-2.ensures.value ∙ c.in_ok-values.ensures))
    (c.in_ok-add_types.ensures.types ∙ ap (λ z. z.items ++ (c.args.tycon, c.in_ok-entry.entry) ∷ []) c.add_values.ensures.types)
