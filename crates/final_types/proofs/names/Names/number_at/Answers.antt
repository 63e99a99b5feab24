use Rattle.std.proofs.Common.{arith}
use Rattle.final_types.proofs.Numbering.{number-there, number-not}
use Rattle.final_types.proofs.names.Names.number_at.Goals as goal
use Rattle.final_types.proofs.names.Names.number_at.Goals.{else-k-self-via-then-k-self+else-self-k, else-k-self-via-else-k-self}

pub returns-then-self-k : goal.returns-then-self-k
returns-then-self-k c = number-there c.args.self.now.namings.now c.args.k c.args.stamp c.requires.names.ordered c.if-k-self.true c.if-self-k.true

pub returns-else-k-self : goal.returns-else-k-self
returns-else-k-self c =
    number-not c.args.self.now.namings.now c.args.k c.args.stamp c.requires.names.ordered c.requires.early
    (elim c.else-k-self.branch [ else-k-self-via-then-k-self+else-self-k w ↦ λ lt e. w.if-self-k.false e | else-k-self-via-else-k-self w ↦ λ lt e. absurd (omega (arith, lt, w.if-k-self.false)) ])
