use Rattle.std.proofs.Common.{◌++◌, List, map, refl, sym, ap, ◌∙◌}
use Rattle.sml_tree.specs.TreeOf.{ex_bind_of}
use Rattle.sml_tree.specs.declared.ident.Vid.{Vid}
use Rattle.core_rules.specs.Restrictions.{distinct}
use Rattle.core_rules.specs.Words.{same_vid}
use Rattle.exp_forms.specs.of_elab_context.declared.entry.Entry.{Entry}
use Rattle.dec_forms.specs.Telling.{with_all}
use Rattle.exp_forms.specs.of_elab_context.Telling.{vids_in}
use Rattle.dec_forms.proofs.DeclaringExceptions.{context_of_exns, exns_bring}
use Rattle.dec_forms.proofs.declare_exceptions.exceptions.Goals as goal

pub returns-clause-context : goal.returns-clause-context
returns-clause-context c =
    context_of_exns c.args.state.now c.all_exns.new.state c.args.context.now c.bring_values.new.context (map ex_bind_of c.args.binds.now) c.in_ok-made.made c.requires c.in_ok-made.ensures
    (c.in_ok-bring_values.ensures ∙ ap (with_all c.args.context.now) c.deref-2.ensures.value)

pub returns-clause-once : goal.returns-clause-once
returns-clause-once c =
    ap (distinct same_vid) (sym c.in_ok-made.ensures.vids) ∙ ap (λ (l : List (Vid × Entry)). distinct same_vid (vids_in l)) (sym c.deref.ensures.value) ∙ c.in_ok-check_values.ensures.once

pub returns-clause-unkept : goal.returns-clause-unkept
returns-clause-unkept c = c.in_ok-made.ensures.unkept

pub returns-clause-declared : goal.returns-clause-declared
returns-clause-declared c =
    exns_bring c.args.state.now c.all_exns.new.state c.args.context.now c.bring_values.new.context c.args.place (map ex_bind_of c.args.binds.now) c.in_ok-made.made _ c.args.brought.now
    c.add_values.new.self c.in_ok-made.ensures
    (ap (λ (l : List (Vid × Entry)). distinct same_vid (vids_in l)) (sym c.deref.ensures.value) ∙ c.in_ok-check_values.ensures.once)
    (c.in_ok-bring_values.ensures ∙ ap (with_all c.args.context.now) c.deref-2.ensures.value) refl
    (c.in_ok-add_values.ensures.values ∙ ap (λ (l : List (Vid × Entry)). c.args.brought.now.values.items ++ l) c.deref-3.ensures.value) (ap (λ z. z.items) c.add_values.ensures.types)
