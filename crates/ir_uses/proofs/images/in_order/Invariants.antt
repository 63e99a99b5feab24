use Rattle.std.proofs.Common.{◌≡◌, ℕ, nat_eq, slice_get, take}
use Rattle.std.specs.Map.{lookup}
use Rattle.ir_uses.proofs.images.in_order.Given as goal

abbrev pub invariant-loop-i : goal.invariant-loop-i
invariant-loop-i l = (v : ℕ) → lookup (nat_eq v) l.images ≡ slice_get (take l.i l.types) v
