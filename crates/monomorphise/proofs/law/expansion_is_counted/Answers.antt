use Rattle.monomorphise.proofs.Limited.{is-made, is-counted, is-refused}
use Rattle.monomorphise.proofs.law.expansion_is_counted.Goals as goal

pub returns-clause-made : goal.returns-clause-made
returns-clause-made c p q e = is-made p q e

pub returns-clause-counted : goal.returns-clause-counted
returns-clause-counted c p q e = is-counted p q e

pub returns-clause-refused : goal.returns-clause-refused
returns-clause-refused c p e = is-refused p e
