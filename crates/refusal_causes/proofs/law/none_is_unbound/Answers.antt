use Rattle.refusal_causes.proofs.Typed.{none-is-unbound}
use Rattle.refusal_causes.proofs.law.none_is_unbound.Goals as goal

pub returns : goal.returns
returns c = none-is-unbound
