use Rattle.ty_solve.proofs.Reaching.{in-one}
use Rattle.ty_solve.proofs.Turns.{ok-such}
use Rattle.ty_solve.proofs.walk.occurs.Goals as goal

pub returns : goal.returns
returns c = ok-such _ _ c.reaches.result (λ b h. λ f r. in-one c.args.v f c.args.s.now.types c.args.t _ _ b c.new-pending.ensures.items c.in_ok-push.ensures.items (h f r)) c.reaches.ensures
