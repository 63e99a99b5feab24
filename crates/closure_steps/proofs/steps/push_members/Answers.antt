use Rattle.std.proofs.Common.{◌∷◌, refl, sym, ap}
use Rattle.capture_scope.specs.Seen.{member_of, members_of}
use Rattle.closure_parts.proofs.Operating.{if-ok}
use Rattle.closure_steps.proofs.Pushing.{members-put, group-put, group-none, first-and-rest}
use Rattle.closure_steps.proofs.steps.push_members.Goals as goal

pub returns-then-is_empty : goal.returns-then-is_empty
returns-then-is_empty c = λ types strings n F T h. group-none n types F T c.args.scope.now c.args.steps.now.items c.args.members.now c.is_empty.result c.is_empty.ensures c.if-is_empty.true

pub returns : goal.returns
returns c =
    if-ok _ _ c.push_followers.result
    (λ u p types strings n F T h.
    group-put n types F T c.args.scope.now c.args.steps.now.items c.push_followers.new.steps.items (member_of _ ∷ members_of c.rest_of-others.result.now) _
    (sym (ap members_of (first-and-rest c.args.members.now c.rest_of-others.result.now _ _ c.is_empty.result c.is_empty.ensures c.if-is_empty.false refl c.rest_of-others.ensures)))
    (members-put n types F T c.args.scope.now c.args.steps.now.items c.push_followers.new.steps.items c.push_making.new.steps.items c.in_ok-name.name _ (members_of c.rest_of-others.result.now) c.in_ok-name.ensures
    (c.in_ok-push_making.ensures types strings n F T h) (p n h.tags)))
    c.push_followers.ensures
