use Rattle.ir_mono.proofs.Bound.{well-formed-bound}
use Rattle.ir_mono.proofs.Sound.{well-formed-never-wrong}
use Rattle.ir_mono.proofs.law.well_formed_programs_never_go_wrong.Goals as goal

pub returns-clause-never_wrong : goal.returns-clause-never_wrong
returns-clause-never_wrong c = well-formed-never-wrong

pub returns-clause-bound : goal.returns-clause-bound
returns-clause-bound c = well-formed-bound
