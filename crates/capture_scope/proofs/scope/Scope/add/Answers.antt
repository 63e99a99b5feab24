use Rattle.std.proofs.Common.{◌++◌, ◌∷◌, [], subst}
use Rattle.closure_convert.specs.Capture.{visible}
use Rattle.capture_scope.specs.Seen.{members_of}
use Rattle.capture_scope.specs.Repeats.{Repeats}
use Rattle.capture_scope.proofs.Repeating.{twice-passed, added-twice}
use Rattle.capture_scope.proofs.scope.Scope.add.Goals as goal

pub returns-in_err-see-clause-twice : goal.returns-in_err-see-clause-twice
returns-in_err-see-clause-twice c =
    twice-passed c.from_residual.result c.in_err-see.field-0.0 c.from_residual.ensures.1 _ _
    (λ r. subst (λ v. Repeats (visible v ++ c.args.variable ∷ [])) c.self.view_is (added-twice c.self.inside.seen.keys c.self.inside.captured c.args.variable (members_of c.self.inside.group.items) c.self.invariant r)) c.in_err-see.ensures.twice
