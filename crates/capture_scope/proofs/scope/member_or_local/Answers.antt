use Rattle.std.proofs.Common.{sym, arith}
use Rattle.capture_scope.specs.Seen.{members_of}
use Rattle.capture_scope.proofs.Seen.{members-long}
use Rattle.capture_scope.proofs.Finding.{member-past, member-get}
use Rattle.capture_scope.proofs.scope.member_or_local.Goals as goal

pub returns-then-place-group : goal.returns-then-place-group
returns-then-place-group c = let l = members-long c.args.group.now in let h = c.if-place-group.true in sym (member-past (members_of c.args.group.now) c.args.place (omega (arith, l, h)))

pub returns-else-place-eq0 : goal.returns-else-place-eq0
returns-else-place-eq0 c = member-get c.args.group.now c.args.place _ c.if-place-eq0.false c.if-place-group.false
