use Rattle.std.proofs.Common.{ap, ◌++◌, ◌∙◌}
use Rattle.core_rules.specs.Restrictions.{are_among}
use Rattle.core_rules.specs.Scoping.{tyvars_in}
use Rattle.sml_tree.specs.Phrases.{has_scope, in_ty}
use Rattle.sml_tree.specs.TreeOf.{ty_of}
use Rattle.restrictions.proofs.Standing.{if-ok}
use Rattle.restrictions.proofs.Types.{all-of-ty}
use Rattle.restrictions.proofs.binds.has_only.Goals as goal

pub returns : goal.returns
returns c =
    if-ok c.are_all_among.result
    (λ b k. k ∙ ap (are_among c.args.parameters.now) (c.deref.ensures.value ∙ c.in_ok-tyvars_of_ty.ensures
    ∙ ap (λ l. l ++ tyvars_in (in_ty has_scope (ty_of c.args.ty.now))) c.new-occurring.ensures.items ∙ ap tyvars_in (all-of-ty (ty_of c.args.ty.now))))
    c.are_all_among.ensures
