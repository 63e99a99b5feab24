use Rattle.mono_bound.proofs.Agree.{bound-is-bound}
use Rattle.mono_bound.proofs.law.bound_is_bound.Goals as goal

pub returns : goal.returns
returns c = bound-is-bound
