use Rattle.closure_whole.proofs.Whole.{converted-same}
use Rattle.closure_whole.proofs.law.explicit_programs_are_converted.Goals as goal

pub returns : goal.returns
returns c = converted-same
