use Rattle.std.proofs.Common.{ap, ◌∙◌}
use Rattle.capture_scope.specs.Seen.{members_of}
use Rattle.closure_parts.proofs.Operating.{if-ok}
use Rattle.closure_steps.proofs.Pushing.{group-put}
use Rattle.closure_steps.proofs.steps.push_group.Goals as goal

pub returns : goal.returns
returns c =
    if-ok _ _ c.push_members.result
    (λ u p types strings n F T h.
    group-put n types F T c.args.scope.now c.args.steps.now.items c.push_members.new.steps.items (members_of c.deref.result.now) _ (ap members_of c.deref.ensures.value ∙ c.in_ok-members.ensures types strings) (p types strings n F T h))
    c.push_members.ensures
