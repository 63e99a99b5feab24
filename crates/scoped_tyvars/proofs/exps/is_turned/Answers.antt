use Rattle.std.proofs.Common.{◌≡◌, sym, subst}
use Rattle.scoped_tyvars.specs.Unguarded.{is_turned}
use Rattle.scoped_tyvars.proofs.Chains.{turned-left, turned-right}
use Rattle.scoped_tyvars.proofs.exps.is_turned.Goals as goal

pub returns-then-right : goal.returns-then-right
returns-then-right c o os e = subst (λ r. c.follows.result ≡ is_turned r o os) (sym c.if-right.true) (turned-right c.args.parts.now c.args.index c.follows.result o os c.follows.ensures e)

pub returns-else-right : goal.returns-else-right
returns-else-right c o os e =
    subst (λ r. c.follows-else-right.result ≡ is_turned r o os) (sym c.if-right.false) (turned-left c.args.parts.now c.args.index c.follows-else-right.result o os c.follows-else-right.ensures e)
