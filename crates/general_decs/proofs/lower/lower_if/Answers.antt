use Rattle.general_decs.proofs.Lowering.{live-at}
use Rattle.general_decs.proofs.lower.lower_if.Goals as goal

pub lower_one-requires-clause-live : goal.lower_one-requires-clause-live
lower_one-requires-clause-live c = live-at c.args.state.now c.args.variable c.index.result.now c.requires.held c.index.ensures c.if-reach-ge18446744073709551615.false
