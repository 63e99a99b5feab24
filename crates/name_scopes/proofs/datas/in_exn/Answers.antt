use Rattle.std.proofs.Common.{refl}
use Rattle.name_scopes.proofs.Declaring.{exn-New, exn-Same}
use Rattle.name_scopes.proofs.datas.in_exn.Goals as goal

pub returns-in-New : goal.returns-in-New
returns-in-New c u e h = exn-New c.args.sought.now e c.args.bind.now c.in-New.field-0 c.in-New.field-1 c.in-New.ty c.in-New.is (c.in_some_ty.ensures u e h)

pub returns-then-is_at : goal.returns-then-is_at
returns-then-is_at c u e h =
    exn-Same c.args.sought.now e c.args.bind.now c.in-Same.field-0 c.in-Same.field-1 c.in-Same.at c.in-Same.long c.in-Same.is (c.if-is_at.ensures refl) (c.is_unbound_value.ensures u e h)
