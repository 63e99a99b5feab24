use Rattle.std.proofs.Common.{◌≡◌, take}
use Rattle.elab_types.specs.Building.{numbered_from}
use Rattle.elab_types.proofs.build.number_parts.Given as goal

abbrev pub invariant-loop-i : goal.invariant-loop-i
invariant-loop-i l = l.fields.items ≡ numbered_from 1 (take l.i l.parts)
