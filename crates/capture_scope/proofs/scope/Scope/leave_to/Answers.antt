use Rattle.std.proofs.Common.{◌+◌, length, ap, ◌∙◌, arith}
use Rattle.std.proofs.Common.{◌≡◌, take}
use Rattle.capture_scope.specs.Seen.{members_of, scope_in}
use Rattle.capture_scope.specs.Found.{left_to}
use Rattle.capture_scope.proofs.Seen.{members-long, left-more-is, left-least-is}
use Rattle.capture_scope.proofs.scope.Scope.leave_to.Goals as goal

pub returns-then-len-least : goal.returns-then-len-least
returns-then-len-least c =
    let ms = members_of c.self.inside.group.items in
    let l = members-long c.self.inside.group.items in
    let e = c.len.ensures in
    let h = c.if-len-least.true in
    let least : c.self.inside.captured + c.len.result ≡ c.self.inside.captured + length ms = omega (arith, l, e) in
    ap (λ xs. scope_in xs c.self.inside.captured ms) (c.truncate.ensures.keys ∙ ap (λ n. take n c.self.inside.seen.keys) least)
    ∙ left-least-is c.self.inside.seen.keys c.self.inside.captured ms c.self.invariant c.args.len (omega (arith, h, least)) ∙ ap (left_to c.args.len) c.self.view_is

pub returns-else-len-least : goal.returns-else-len-least
returns-else-len-least c =
    let ms = members_of c.self.inside.group.items in
    let l = members-long c.self.inside.group.items in
    let e = c.len.ensures in
    let h = c.if-len-least.false in
    let least : c.self.inside.captured + c.len.result ≡ c.self.inside.captured + length ms = omega (arith, l, e) in
    ap (λ xs. scope_in xs c.self.inside.captured ms) c.truncate-else-len-least.ensures.keys
    ∙ left-more-is c.self.inside.seen.keys c.self.inside.captured ms c.self.invariant c.args.len (omega (arith, h, least)) ∙ ap (left_to c.args.len) c.self.view_is
