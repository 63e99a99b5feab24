use Rattle.std.proofs.Common.{List, [], ◌∷◌, map, ap, subst, sym, ◌∙◌}
use Rattle.sml_tree.specs.Derived.{one_or_tuple_pat}
use Rattle.sml_tree.specs.TreeOf.{exp_of, pat_of}
use Rattle.sml_tree.specs.declared.tree.Pat.{Pat}
use Rattle.core_rules.specs.Restrictions.{distinct}
use Rattle.core_rules.specs.Words.{same_vid}
use Rattle.name_scopes.specs.Bindings.{AsksOne}
use Rattle.name_scopes.specs.Patterns.{pat_vids}
use Rattle.name_scopes.specs.Twice.{pat_place}
use Rattle.name_scopes.specs.declared.sought.What.TheVariants as whats
use Rattle.name_scopes.proofs.Pushing.{if-ok}
use Rattle.name_scopes.proofs.TwiceNodes.{rule-twice}
use Rattle.name_scopes.proofs.twice.is_clause_twice.Goals as goal

pub returns-then-is_either_at : goal.returns-then-is_either_at
returns-then-is_either_at c =
    let r = c.args.clause.now in
    if-ok c.are_pats_twice.result
    (λ b h t e k. rule-twice c.args.sought.now e r.place (one_or_tuple_pat r.place (map pat_of r.pats.items)) (exp_of r.exp)
    (subst (λ q. AsksOne c.args.sought.now whats.Twice (r.place ∷ q ∷ []))
    (c.pats_place.ensures ∙ ap (λ (l : List Pat). pat_place (one_or_tuple_pat r.place (map pat_of l))) c.deref.ensures.value) (c.is_either_at.ensures c.if-is_either_at.true))
    (ap (λ (l : List Pat). distinct same_vid (pat_vids e (one_or_tuple_pat r.place (map pat_of l)))) (sym c.deref-then-is_either_at.ensures.value) ∙ h t e k r.place))
    c.are_pats_twice.ensures
