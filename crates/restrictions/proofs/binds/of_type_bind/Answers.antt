use Rattle.std.proofs.Common.{ap, ap₂, ◌++◌, ◌∙◌}
use Rattle.core_rules.specs.Restrictions.{are_among, no_repetition, unless}
use Rattle.core_rules.specs.Scoping.{tyvars_in}
use Rattle.sml_tree.specs.Phrases.{phrases, ty}
use Rattle.sml_tree.specs.TreeOf.{ty_of}
use Rattle.restrictions.specs.Breaks.{ty_breaks}
use Rattle.restrictions.proofs.Standing.{adds-both, adds-then, if-ok, stand-are}
use Rattle.restrictions.proofs.binds.of_type_bind.Goals as goal

pub returns : goal.returns
returns c =
    if-ok c.find_unless-2.result
    (λ u k.
    adds-both c.args.found.now.items _ _ _ _ _ c.in_ok-of_ty.ensures (adds-then _ _ _ _ _ c.in_ok-find_unless.ensures k)
    (stand-are _ _ (ap (λ l. ty_breaks (ty_of c.args.bind.now.ty) ++ l)
    (ap₂ (λ a b. a ++ b) (ap (λ z. unless z c.args.bind.now.place) (c.in_ok-once.ensures ∙ ap no_repetition c.deref.ensures.value))
    (ap₂ unless (c.in_ok-among.ensures ∙ ap (λ l. are_among l (tyvars_in (phrases (ty (ty_of c.args.bind.now.ty))))) c.deref-2.ensures.value) c.begin_of.ensures)))))
    c.find_unless-2.ensures
