use Rattle.mlc_runs.proofs.RefineLaws.{from-agree, fail-refines, then_do-refines, or_handle-refines, take_turn-refines, outcome_of-refines}
use Rattle.mlc_runs.proofs.law.runs_refine.Goals as goal

pub returns-clause-agree : goal.returns-clause-agree
returns-clause-agree g c r r' agree = from-agree _ _ agree

pub returns-clause-fails : goal.returns-clause-fails
returns-clause-fails g c w r' = fail-refines _ _ w r'

pub returns-clause-go_on : goal.returns-clause-go_on
returns-clause-go_on g c r r' go go' refines each = then_do-refines _ _ _ go go' refines each

pub returns-clause-handle : goal.returns-clause-handle
returns-clause-handle g c r r' go go' refines each = or_handle-refines _ _ go go' refines each

pub returns-clause-turn : goal.returns-clause-turn
returns-clause-turn g c place w u go go' same each = take_turn-refines _ _ place w u go go' same each

pub returns-clause-one_outcome : goal.returns-clause-one_outcome
returns-clause-one_outcome g c name name' r r' each refines never = outcome_of-refines _ _ name name' each refines never
