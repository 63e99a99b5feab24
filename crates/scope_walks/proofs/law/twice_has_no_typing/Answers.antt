use Rattle.scope_walks.proofs.Typed.{twice-behind-has-no-typing}
use Rattle.scope_walks.proofs.law.twice_has_no_typing.Goals as goal

pub returns : goal.returns
returns c = twice-behind-has-no-typing
