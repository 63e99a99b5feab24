use Rattle.std.proofs.Common.{length, sym, ap, ◌∙◌}
use Rattle.closure_convert.specs.Scope.{Scope}
use Rattle.closure_convert.specs.Capture.{visible}
use Rattle.capture_scope.specs.Seen.{members_of}
use Rattle.capture_scope.proofs.Seen.{visible-is}
use Rattle.capture_scope.proofs.scope.Scope.len.Goals as goal

pub returns : goal.returns
returns c = c.len.ensures.len ∙ ap length (sym (visible-is c.self.inside.seen.keys c.self.inside.captured (members_of c.self.inside.group.items) c.self.invariant)) ∙ ap (λ (s : Scope). length (visible s)) c.self.view_is
