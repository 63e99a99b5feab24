use Rattle.std.proofs.Common.{[], ◌∷◌, subst}
use Rattle.name_scopes.specs.Bindings.{AsksOne}
use Rattle.name_scopes.specs.declared.sought.What.TheVariants as whats
use Rattle.name_scopes.proofs.Among.{among-at}
use Rattle.name_scopes.proofs.TwiceNodes.{binding-at}
use Rattle.name_scopes.proofs.twice.is_binding_at.Goals as goal

pub returns-then-is_either_at : goal.returns-then-is_either_at
returns-then-is_either_at c u =
    binding-at c.args.sought.now whats.Twice c.args.binds.now c.index-binds-i.result
    (among-at c.args.binds.now c.loop-i.i c.index-binds-i.result c.loop-i-test.true c.index-binds-i.is)
    (subst (λ q. AsksOne c.args.sought.now whats.Twice (c.index-binds-i.result.place ∷ q ∷ [])) c.pat_place.ensures (c.if-is_either_at.ensures u))
