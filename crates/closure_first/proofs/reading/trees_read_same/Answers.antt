use Rattle.closure_first.proofs.Strings.{trees-read-same}
use Rattle.closure_first.proofs.reading.trees_read_same.Goals as goal

pub returns : goal.returns
returns c = trees-read-same
