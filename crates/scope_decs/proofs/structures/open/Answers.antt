use Rattle.std.proofs.Common.{◌++◌, List, map, refl, ap, ◌∙◌}
use Rattle.sml_tree.specs.TreeOf.{long_id_at_of}
use Rattle.sml_tree.specs.declared.ident.Vid.{Vid}
use Rattle.elab_context.specs.declared.entry.Entry.{Entry}
use Rattle.dec_forms.specs.Telling.{with_all}
use Rattle.scope_decs.proofs.Opened.{open_bringing, open_context}
use Rattle.scope_decs.proofs.structures.open.Goals as goal

pub returns-clause-context : goal.returns-clause-context
returns-clause-context c S =
    open_context S c.args.context.now c.bring_values.new.context (map long_id_at_of c.args.structures.now) c.in_ok-values.values.items c.in_ok-values.ensures.opened
    (c.in_ok-bring_values.ensures ∙ ap (with_all c.args.context.now) c.deref.ensures.value)

pub returns-clause-declared : goal.returns-clause-declared
returns-clause-declared c S =
    open_bringing S c.args.context.now c.bring_values.new.context c.args.place (map long_id_at_of c.args.structures.now) c.in_ok-values.values.items _ c.args.brought.now c.add_values.new.self
    c.in_ok-values.ensures.opened (c.in_ok-bring_values.ensures ∙ ap (with_all c.args.context.now) c.deref.ensures.value) refl
    (c.in_ok-add_values.ensures.values ∙ ap (λ (l : List (Vid × Entry)). c.args.brought.now.values.items ++ l) c.deref-2.ensures.value) (ap (λ z. z.items) c.add_values.ensures.types)
