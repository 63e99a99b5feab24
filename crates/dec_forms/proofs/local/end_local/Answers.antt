use Rattle.std.proofs.Common.{◌≡◌, ◌++◌, ℕ, List, Vec, Global, refl, ap, ap₂, ◌∙◌}
use Rattle.sml_tree.specs.declared.ident.Vid.{Vid}
use Rattle.elab_types.specs.declared.scope.TypeEntry.{TypeEntry}
use Rattle.closed_types.proofs.of_elab_steps.Growing.{grows_on}
use Rattle.exp_forms.specs.of_elab_context.declared.context.Context.{Context}
use Rattle.exp_forms.specs.of_elab_context.declared.entry.Entry.{Entry}
use Rattle.dec_forms.specs.Telling.{with_all}
use Rattle.dec_forms.specs.Entries.{with_types}
use Rattle.dec_forms.proofs.Joining.{adds_then}
use Rattle.dec_forms.specs.Local.{shown_in}
use Rattle.dec_forms.proofs.Ending.{ended}
use Rattle.dec_forms.proofs.Showing.{context_shown, local_is}
use Rattle.dec_forms.proofs.local.end_local.Goals as goal

pub returns-clause-context : goal.returns-clause-context
returns-clause-context c S M T C D ds es xs ys a b none e z i h k j =
    let E : Context = c.args.context.now in
    let K : Context = record E { values = c.leave.new.self; types = c.leave-2.new.self } in
    let adds = adds_then C D E h.values k.values h.types k.types h.adds k.adds in
    let is : c.bring_types.new.context ≡ shown_in C E c.args.shown.now =
    ended C E c.bring_types.new.context (h.values ++ k.values) (h.types ++ k.types) c.args.mark c.leave.new.self c.leave-2.new.self K c.bring_values.new.context c.args.shown.now e adds
    c.leave.ensures.undone c.leave-2.ensures.tyvars c.leave-2.ensures.types refl (c.in_ok-bring_values.ensures ∙ ap (with_all K) c.deref.ensures.value)
    (c.in_ok-bring_types.ensures ∙ ap (with_types c.bring_values.new.context) c.deref-2.ensures.value) in
    context_shown S T C D E c.bring_types.new.context k.values (h.values ++ k.values) k.types (h.types ++ k.types) c.args.shown.now (grows_on S M T h.grows k.grows) i k.adds
    (k.all_values ∙ ap (λ (l : List (Vid × Entry)). l ++ k.values) z.values) (k.all_types ∙ ap (λ (l : List (ℕ × TypeEntry)). l ++ k.types) z.types) adds j is

pub returns-clause-declared : goal.returns-clause-declared
returns-clause-declared c S M T C D p ds es xs ys a b none e z h k =
    let E : Context = c.args.context.now in
    let K : Context = record E { values = c.leave.new.self; types = c.leave-2.new.self } in
    let is : c.bring_types.new.context ≡ shown_in C E c.args.shown.now =
    ended C E c.bring_types.new.context (h.values ++ k.values) (h.types ++ k.types) c.args.mark c.leave.new.self c.leave-2.new.self K c.bring_values.new.context c.args.shown.now e
    (adds_then C D E h.values k.values h.types k.types h.adds k.adds) c.leave.ensures.undone c.leave-2.ensures.tyvars c.leave-2.ensures.types refl
    (c.in_ok-bring_values.ensures ∙ ap (with_all K) c.deref.ensures.value) (c.in_ok-bring_types.ensures ∙ ap (with_types c.bring_values.new.context) c.deref-2.ensures.value) in
    local_is S M T C D E c.bring_types.new.context p ds es xs ys a b none c.args.shown.now c.args.brought.now c.add_types.new.self z h k is
    (ap (λ v. v.items) c.add_types.ensures.values ∙ c.in_ok-add_values.ensures.values ∙ ap (λ (l : List (Vid × Entry)). c.args.brought.now.values.items ++ l) c.deref-3.ensures.value)
    (c.in_ok-add_types.ensures.types ∙ ap₂ (λ (v : Vec (ℕ × TypeEntry) Global) (l : List (ℕ × TypeEntry)). v.items ++ l) c.add_values.ensures.types c.deref-4.ensures.value)
