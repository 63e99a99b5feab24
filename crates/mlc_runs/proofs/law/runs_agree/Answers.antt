use Rattle.mlc_runs.proofs.RunLaws.{start-same, then_do-agree, or_handle-agree, take_turn-agree, outcome_of-agree}
use Rattle.mlc_runs.proofs.law.runs_agree.Goals as goal

pub returns-clause-begin : goal.returns-clause-begin
returns-clause-begin g c = start-same _

pub returns-clause-go_on : goal.returns-clause-go_on
returns-clause-go_on g c r r' go go' agree each = then_do-agree _ _ _ go go' agree each

pub returns-clause-handle : goal.returns-clause-handle
returns-clause-handle g c r r' go go' agree each = or_handle-agree _ _ go go' agree each

pub returns-clause-turn : goal.returns-clause-turn
returns-clause-turn g c place w u go go' same each = take_turn-agree _ _ place w u go go' same each

pub returns-clause-one_outcome : goal.returns-clause-one_outcome
returns-clause-one_outcome g c name name' r r' each agree = outcome_of-agree _ _ name name' each agree
