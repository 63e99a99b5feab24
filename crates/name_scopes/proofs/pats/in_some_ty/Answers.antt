use Rattle.name_scopes.proofs.PatParts.{some-ty-at}
use Rattle.name_scopes.proofs.pats.in_some_ty.Goals as goal

pub returns-in-Some : goal.returns-in-Some
returns-in-Some c u e k = some-ty-at c.args.sought.now e c.args.ty.now c.in-Some.ty c.in-Some.is (c.in_ty.ensures u e k)
