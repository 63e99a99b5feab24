use Rattle.std.proofs.Common.{◌≡◌, take}
use Rattle.general_decs.specs.Outside.{tyvars_onto}
use Rattle.general_decs.proofs.outside.bind_again.Given as goal

abbrev pub invariant-loop-i : goal.invariant-loop-i
invariant-loop-i l = record {
  tyvars : l.scope.tyvars ≡ tyvars_onto l.fn.scope.tyvars (take l.i l.tyvars) (take l.i l.types);
  types : l.scope.types ≡ l.fn.scope.types;
}
