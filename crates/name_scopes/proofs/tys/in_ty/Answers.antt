use Rattle.std.proofs.Common.{[], sym, subst}
use Rattle.name_scopes.specs.Types.{AreNamed}
use Rattle.name_scopes.proofs.Abbreviating.{as-written, none-named}
use Rattle.name_scopes.proofs.tys.in_ty.Goals as goal

pub returns : goal.returns
returns c u e k = as-written c.args.sought.now e c.args.ty.now (c.in_written.ensures u [] e (subst (AreNamed []) (sym c.new-none.ensures) none-named) k)
