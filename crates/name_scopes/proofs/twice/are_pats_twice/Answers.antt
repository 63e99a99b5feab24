use Rattle.std.proofs.Common.{ap, ◌∙◌}
use Rattle.std.specs.Prelude.{flat_map}
use Rattle.sml_tree.specs.TreeOf.{pat_of}
use Rattle.core_rules.specs.Restrictions.{distinct}
use Rattle.core_rules.specs.Words.{same_vid}
use Rattle.name_scopes.specs.Patterns.{pat_vids}
use Rattle.name_scopes.proofs.Once.{added-twice}
use Rattle.name_scopes.proofs.PatVids.{vids-one-or-tuple}
use Rattle.name_scopes.proofs.Pushing.{if-ok}
use Rattle.name_scopes.proofs.twice.are_pats_twice.Goals as goal

pub returns : goal.returns
returns c =
    if-ok c.is_twice.result
    (λ b h t e k p. ap (distinct same_vid) (vids-one-or-tuple e p c.args.pats.now)
    ∙ added-twice c.new-vids.result.items c.push_pats.new.vids.items c.deref.result.now (flat_map (λ a. pat_vids e (pat_of a)) c.args.pats.now) c.new-vids.ensures.items c.deref.ensures.value
    (c.in_ok-push_pats.ensures e k) (h t))
    c.is_twice.ensures
