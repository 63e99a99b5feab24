use Rattle.closure_whole.proofs.Whole.{without-functions-same}
use Rattle.closure_whole.proofs.law.programs_are_converted.Goals as goal

pub returns : goal.returns
returns c = without-functions-same
