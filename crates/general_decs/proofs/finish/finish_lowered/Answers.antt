use Rattle.std.proofs.Common.{◌++◌, List, refl, ap, ◌∙◌}
use Rattle.sml_tree.specs.declared.ident.Vid.{Vid}
use Rattle.elab_context.specs.declared.entry.Entry.{Entry}
use Rattle.rec_groups.specs.of_dec_forms.Telling.{with_all}
use Rattle.general_decs.proofs.Finishing.{finish_brings, finish_context, made-ended}
use Rattle.general_decs.proofs.finish.finish_lowered.Goals as goal

pub returns-clause-brings : goal.returns-clause-brings
returns-clause-brings c S M C p q as_ rs gs i b h f v s =
    let e = c.in_ok-list.ensures in
    let g = c.in_ok-values.ensures in
    finish_brings S M c.args.state.now c.close_led.new.state c.show_all.new.state C c.args.context.now c.args.scoped.now rs gs c.args.bound.now c.args.flags.now c.in_ok-values.values.items c.args.binds c.args.funs
    c.in_ok-list.list _ c.args.begun.first c.has_any-some.result c.requires.level refl c.requires.context.deep c.requires.inside b h e.ends e.list e.tidy f i g.grows (g.shown _ e.tidy) c.bring.new.context p q as_
    c.args.brought.now c.bring.new.brought e.led s c.in_ok-check_once.ensures.once c.has_any-some.ensures
    (c.in_ok-bring.ensures.context C b.deep b.types b.further v ∙ ap (with_all C) c.deref.ensures.value)
    (c.in_ok-bring.ensures.values ∙ ap (λ (l : List (Vid × Entry)). c.args.brought.now.values.items ++ l) c.deref.ensures.value) c.in_ok-bring.ensures.types

pub returns-clause-context : goal.returns-clause-context
returns-clause-context c S M C rs gs i b h f v =
    let e = c.in_ok-list.ensures in
    let g = c.in_ok-values.ensures in
    finish_context S M c.args.state.now c.close_led.new.state c.show_all.new.state C c.args.context.now c.args.scoped.now rs gs c.args.bound.now c.args.flags.now c.in_ok-values.values.items c.args.binds c.args.funs
    c.in_ok-list.list _ c.args.begun.first c.has_any-some.result c.requires.level refl c.requires.context.deep c.requires.inside b h e.ends e.list e.tidy f i g.grows (g.shown _ e.tidy) c.bring.new.context
    (c.in_ok-bring.ensures.context C b.deep b.types b.further v ∙ ap (with_all C) c.deref.ensures.value)

pub show_all-requires-clause-made : goal.show_all-requires-clause-made
show_all-requires-clause-made c = made-ended _ _ c.args.state.now c.close_led.new.state c.args.bound.now c.in_ok-list.ensures.ends c.requires.have
