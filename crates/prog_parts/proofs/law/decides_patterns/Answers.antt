use Rattle.prog_parts.proofs.Holding.{head-holds, record-holds, chain-holds}
use Rattle.prog_parts.proofs.law.decides_patterns.Goals as goal

pub returns-clause-heads : goal.returns-clause-heads
returns-clause-heads c = head-holds

pub returns-clause-records : goal.returns-clause-records
returns-clause-records c = record-holds

pub returns-clause-chains : goal.returns-clause-chains
returns-clause-chains c = chain-holds
