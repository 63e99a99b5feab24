use Rattle.ty_solve.proofs.Reaching.{in-list}
use Rattle.ty_solve.proofs.Turns.{ok-such}
use Rattle.ty_solve.proofs.walk.occurs_in.Goals as goal

pub returns : goal.returns
returns c = ok-such _ _ c.reaches.result (λ b h. λ f r. in-list c.args.v f c.args.s.now.types c.args.types.now _ _ b c.new-pending.ensures.items c.in_ok-add_all.ensures (h f r)) c.reaches.ensures
