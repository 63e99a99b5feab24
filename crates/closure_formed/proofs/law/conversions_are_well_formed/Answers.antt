use Rattle.closure_formed.proofs.Formed.{converted-well-formed, rising-are-orderly, without-functions-well-formed}
use Rattle.closure_formed.proofs.law.conversions_are_well_formed.Goals as goal

pub returns-clause-explicit : goal.returns-clause-explicit
returns-clause-explicit c = converted-well-formed

pub returns-clause-any : goal.returns-clause-any
returns-clause-any c = without-functions-well-formed

pub returns-clause-rising : goal.returns-clause-rising
returns-clause-rising c = rising-are-orderly
