use Rattle.refusal_causes.proofs.Typed.{none-is-broken}
use Rattle.refusal_causes.proofs.law.none_is_broken.Goals as goal

pub returns : goal.returns
returns c = none-is-broken
