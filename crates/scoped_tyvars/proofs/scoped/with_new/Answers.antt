use Rattle.std.proofs.Common.{◌++◌, ap, ◌∙◌}
use Rattle.core_rules.specs.Scoping.{new_vars, tyvar_names}
use Rattle.scoped_tyvars.specs.Noted.{names_around, names_onto}
use Rattle.scoped_tyvars.proofs.New.{starts}
use Rattle.scoped_tyvars.proofs.scoped.with_new.Goals as goal

pub returns : goal.returns
returns c =
    let names = names_around c.args.around.now ++ tyvar_names c.args.tyvars.now in
    c.in_ok-add_new.ensures names
    (starts c.args.around.now c.args.tyvars.now c.note_all.new.noted (c.in_ok-note_all.ensures ∙ ap (λ l. names_onto l c.args.tyvars.now) c.new-noted.ensures))
    ∙ ap (λ l. l ++ new_vars names c.args.occurring.now) (c.in_ok-extend_from_slice.ensures.items ∙ ap (λ l. l ++ c.args.tyvars.now) c.new-scoped.ensures.items)
