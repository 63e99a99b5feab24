use Rattle.std.proofs.Common.{[], ◌∷◌, subst}
use Rattle.sml_tree.specs.TreeOf.{exp_of, pat_of}
use Rattle.name_scopes.specs.Bindings.{AsksOne}
use Rattle.name_scopes.specs.declared.sought.What.TheVariants as whats
use Rattle.name_scopes.proofs.Pushing.{if-ok}
use Rattle.name_scopes.proofs.TwiceNodes.{rule-twice}
use Rattle.name_scopes.proofs.twice.is_rule_twice.Goals as goal

pub returns-then-is_either_at : goal.returns-then-is_either_at
returns-then-is_either_at c =
    let r = c.args.rule.now in
    if-ok c.is_pat_twice.result
    (λ b h t e k. rule-twice c.args.sought.now e r.place (pat_of r.pat) (exp_of r.exp)
    (subst (λ q. AsksOne c.args.sought.now whats.Twice (r.place ∷ q ∷ [])) c.pat_place.ensures (c.is_either_at.ensures c.if-is_either_at.true)) (h t e k))
    c.is_pat_twice.ensures
