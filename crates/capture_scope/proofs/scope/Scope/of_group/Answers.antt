use Rattle.std.proofs.Common.{◌++◌, length, sym, ap₂, subst, ◌∙◌}
use Rattle.closure_convert.specs.Scope.{names}
use Rattle.capture_scope.specs.Seen.{members_of, scope_in, IsSeen}
use Rattle.capture_scope.proofs.Seen.{unbound-seen, unbound, unbound-keys, no-keys}
use Rattle.capture_scope.proofs.Repeating.{twice-passed, captured-twice, group-twice}
use Rattle.capture_scope.proofs.scope.Scope.of_group.Goals as goal

pub invariant_of-result : goal.invariant_of-result
invariant_of-result c =
    let k = unbound-keys c.args.captured.now c.args.group.now c.new-seen.result.keys c.see_all.new.seen.keys c.see_names.new.seen.keys (no-keys c.new-seen.result.keys c.new-seen.ensures.len) c.in_ok-see_all.ensures.ok c.in_ok-see_names.ensures.ok in
    subst (λ l. IsSeen l (length c.args.captured.now) (members_of c.in_ok-members.members.items)) (sym k)
    (subst (λ g. IsSeen (c.args.captured.now ++ names (members_of c.args.group.now)) (length c.args.captured.now) (members_of g)) (sym c.in_ok-members.ensures.items)
    (unbound-seen c.args.captured.now (members_of c.args.group.now)))

pub returns-clause-ok : goal.returns-clause-ok
returns-clause-ok c =
    let k = unbound-keys c.args.captured.now c.args.group.now c.new-seen.result.keys c.see_all.new.seen.keys c.see_names.new.seen.keys (no-keys c.new-seen.result.keys c.new-seen.ensures.len) c.in_ok-see_all.ensures.ok c.in_ok-see_names.ensures.ok in
    ap₂ (λ l g. scope_in l (length c.args.captured.now) (members_of g)) k c.in_ok-members.ensures.items ∙ unbound c.args.captured.now (members_of c.args.group.now)

pub returns-in_err-see_all-clause-twice : goal.returns-in_err-see_all-clause-twice
returns-in_err-see_all-clause-twice c =
    twice-passed c.from_residual.result c.in_err-see_all.field-0.0 c.from_residual.ensures.1 _ _
    (captured-twice c.args.captured.now (members_of c.args.group.now) c.new-seen.result.keys c.new-seen.result.keys (no-keys c.new-seen.result.keys c.new-seen.ensures.len)) c.in_err-see_all.ensures.twice

pub returns-in_err-see_names-clause-twice : goal.returns-in_err-see_names-clause-twice
returns-in_err-see_names-clause-twice c =
    twice-passed c.from_residual-in_err-see_names.result c.in_err-see_names.field-0.0 c.from_residual-in_err-see_names.ensures.1 _ _
    (group-twice c.args.captured.now (members_of c.args.group.now) c.new-seen.result.keys c.see_all.new.seen.keys (no-keys c.new-seen.result.keys c.new-seen.ensures.len) c.in_ok-see_all.ensures.ok) c.in_err-see_names.ensures.twice
