use Rattle.closure_convert.proofs.Numbered.{captures-are-right}
use Rattle.closure_convert.proofs.law.captures_are_right.Goals as goal

pub returns : goal.returns
returns c = captures-are-right
