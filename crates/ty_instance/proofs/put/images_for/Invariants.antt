use Rattle.std.proofs.Common.{◌≡◌, ℕ, nat_eq, take}
use Rattle.indexmap.specs.IndexMap.{get}
use Rattle.ty_instance.specs.Put.{first_at}
use Rattle.ty_instance.proofs.put.images_for.Given as goal

abbrev pub invariant-loop-i : goal.invariant-loop-i
invariant-loop-i l = (v : ℕ) → get nat_eq l.found v ≡ first_at (take l.i l.parameters) (take l.i l.images) v
