use Rattle.core_rules.proofs.Bound.{unbound-have-no-typing}
use Rattle.core_rules.proofs.law.unbound_have_no_typing.Goals as goal

pub returns : goal.returns
returns c = unbound-have-no-typing
