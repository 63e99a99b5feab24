use Rattle.std.proofs.Common.{◌++◌, ap, sym, ◌∙◌}
use Rattle.std.specs.Prelude.{flat_map}
use Rattle.core_rules.specs.Scoping.{new_vars, tyvar_names}
use Rattle.scoped_tyvars.proofs.Listing.{if-ok}
use Rattle.scoped_tyvars.specs.Noted.{names_around}
use Rattle.scoped_tyvars.specs.Unguarded.{function_tyvars}
use Rattle.scoped_tyvars.proofs.Nodes.{functions-are}
use Rattle.scoped_tyvars.proofs.scoped.scoped_in_fun.Goals as goal

pub returns : goal.returns
returns c =
    if-ok c.with_new.result
    (λ s k.
    k ∙ ap (λ l. c.args.tyvars.now ++ new_vars (names_around c.args.around.now ++ tyvar_names c.args.tyvars.now) l)
    (c.deref.ensures.value ∙ c.in_ok-of_functions.ensures ∙ ap (λ l. l ++ flat_map function_tyvars c.args.functions.now) c.new-occurring.ensures.items
    ∙ sym (functions-are c.args.functions.now)))
    c.with_new.ensures
