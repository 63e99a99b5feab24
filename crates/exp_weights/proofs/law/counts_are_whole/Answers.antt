use Rattle.exp_weights.proofs.Whole.{counts_are_whole}
use Rattle.exp_weights.proofs.law.counts_are_whole.Goals as goal

pub returns : goal.returns
returns c = counts_are_whole
