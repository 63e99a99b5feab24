use Rattle.std.proofs.Common.{◌++◌, ap, ap₂, sym, ◌∙◌}
use Rattle.std.specs.Prelude.{flat_map}
use Rattle.core_rules.specs.Scoping.{new_vars, tyvar_names}
use Rattle.scoped_tyvars.proofs.Listing.{if-ok}
use Rattle.scoped_tyvars.specs.Noted.{names_around}
use Rattle.scoped_tyvars.specs.Unguarded.{bind_tyvars}
use Rattle.scoped_tyvars.proofs.Nodes.{binds-are}
use Rattle.scoped_tyvars.proofs.scoped.scoped_in_val.Goals as goal

pub returns : goal.returns
returns c =
    if-ok c.with_new.result
    (λ s k.
    k ∙ ap (λ l. c.args.tyvars.now ++ new_vars (names_around c.args.around.now ++ tyvar_names c.args.tyvars.now) l)
    (c.deref.ensures.value ∙ c.in_ok-of_binds-2.ensures
    ∙ ap₂ (λ a b. a ++ b) (c.in_ok-of_binds.ensures ∙ ap (λ l. l ++ flat_map bind_tyvars c.args.binds.now) c.new-occurring.ensures.items ∙ sym (binds-are c.args.binds.now))
    (sym (binds-are c.args.recs.now))))
    c.with_new.ensures
