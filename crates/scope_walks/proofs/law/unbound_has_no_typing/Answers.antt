use Rattle.scope_walks.proofs.Typed.{unbound-has-no-typing}
use Rattle.scope_walks.proofs.law.unbound_has_no_typing.Goals as goal

pub returns : goal.returns
returns c = unbound-has-no-typing
