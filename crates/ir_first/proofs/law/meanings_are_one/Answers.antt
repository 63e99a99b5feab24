use Rattle.ir_first.proofs.Settled.{meanings-are-one, meanings-are-one-unless-wrong}
use Rattle.ir_first.proofs.law.meanings_are_one.Goals as goal

pub returns-clause-whole : goal.returns-clause-whole
returns-clause-whole c = meanings-are-one

pub returns-clause-unless_wrong : goal.returns-clause-unless_wrong
returns-clause-unless_wrong c = meanings-are-one-unless-wrong
