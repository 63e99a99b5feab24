use Rattle.std.proofs.Common.{nat_eq}
use Rattle.indexmap.specs.IndexMap.{get}
use Rattle.ty_solve.specs.Places.{AreNoted}
use Rattle.ty_solve.proofs.places.all_places.Given as goal

abbrev pub invariant-loop-i : goal.invariant-loop-i
invariant-loop-i l = AreNoted l.labels l.i (get nat_eq l.places)
