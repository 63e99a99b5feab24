use Rattle.std.proofs.Common.{◌≡◌, ◌++◌, ℕ, List, [], map, nat_eq, ap, ap₂, ◌∙◌}
use Rattle.std.proofs.lemmas.List.{append-nil}
use Rattle.core_rules.specs.Scoping.{tyvar_names, tyvars_in}
use Rattle.core_rules.specs.Words.{is_in}
use Rattle.sml_tree.specs.Phrases.{has_scope, in_ty}
use Rattle.sml_tree.specs.TreeOf.{ty_of}
use Rattle.restrictions.specs.Found.{names_in, noted_onto}
use Rattle.restrictions.proofs.Noting.{noted-part}
use Rattle.restrictions.proofs.Put.{vars}
use Rattle.restrictions.proofs.Standing.{if-ok}
use Rattle.restrictions.proofs.Types.{all-of-ty}
use Rattle.restrictions.proofs.Walking.{names-onto}
use Rattle.restrictions.proofs.written.used_in.Goals as goal

pub returns : goal.returns
returns c =
    let t = ty_of c.args.bind.now.ty in
    let occurs = c.deref.ensures.value ∙ c.in_ok-tyvars_of_ty.ensures ∙ ap (λ l. l ++ tyvars_in (in_ty has_scope t)) c.new-occurring.ensures.items ∙ ap tyvars_in (all-of-ty t) in
    let names : names_in c.note_all.new.noted ≡ tyvar_names (vars t) =
    ap names_in (c.in_ok-note_all.ensures ∙ ap₂ noted_onto (c.deref-2.ensures.value ∙ c.in_ok-keys.ensures ∙ ap tyvar_names occurs) c.new-noted.ensures)
    ∙ names-onto (tyvar_names (vars t)) [] ∙ append-nil (tyvar_names (vars t)) in
    if-ok c.are_used.result
    (λ u k. k ∙ noted-part c.note_all.new.noted c.deref-3.result.now ∙ ap₂ (λ (s : List ℕ) l. map (λ a. is_in nat_eq a.name s) l) names c.deref-3.ensures.value)
    c.are_used.ensures
