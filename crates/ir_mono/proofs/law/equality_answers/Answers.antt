use Rattle.ir_mono.proofs.Comparing.{equality-answers}
use Rattle.ir_mono.proofs.law.equality_answers.Goals as goal

pub returns : goal.returns
returns c = equality-answers
