use Rattle.name_scopes.specs.declared.sought.What.TheVariants as whats
use Rattle.name_scopes.proofs.TwiceNodes.{asks-rest}
use Rattle.name_scopes.proofs.twice.is_fun_at.Goals as goal

pub returns : goal.returns
returns c u = asks-rest c.args.sought.now whats.Twice c.args.place _ (c.is_function_at.ensures u)
