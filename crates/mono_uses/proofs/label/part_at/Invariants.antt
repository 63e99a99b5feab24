use Rattle.std.proofs.Common.{◌≡◌, drop}
use Rattle.ir_mono.specs.Types.{part}
use Rattle.mono_uses.proofs.label.part_at.Given as goal

abbrev pub invariant-loop-i : goal.invariant-loop-i
invariant-loop-i l = part l.label l.labels l.parts ≡ part l.label (drop l.i l.labels) (drop l.i l.parts)
