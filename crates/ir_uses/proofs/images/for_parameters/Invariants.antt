use Rattle.std.proofs.Common.{◌≡◌, ℕ, nat_eq, take}
use Rattle.std.specs.Map.{lookup}
use Rattle.ir_uses.specs.Puts.{put_for}
use Rattle.ir_uses.proofs.images.for_parameters.Given as goal

abbrev pub invariant-loop-i : goal.invariant-loop-i
invariant-loop-i l = (v : ℕ) → lookup (nat_eq v) l.images ≡ put_for (take l.i l.parameters) (take l.i l.types) v
