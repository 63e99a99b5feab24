use Rattle.std.proofs.Common.{◌≡◌, take}
use Rattle.general_decs.specs.Scoped.{tyvar_parameters}
use Rattle.general_decs.proofs.finish.are_led.Given as goal

abbrev pub invariant-loop-i : goal.invariant-loop-i
invariant-loop-i l = take l.i l.parameters ≡ tyvar_parameters l.first (take l.i l.scoped)
