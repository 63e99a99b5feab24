use Rattle.std.proofs.Common.{◌≡◌, take}
use Rattle.general_decs.specs.Outside.{types_found}
use Rattle.general_decs.proofs.outside.tyvars_at.Given as goal

abbrev pub invariant-loop-i : goal.invariant-loop-i
invariant-loop-i l = l.types.items ≡ types_found l.scope.tyvars (take l.i l.tyvars)
