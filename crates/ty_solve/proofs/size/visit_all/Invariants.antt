use Rattle.std.proofs.Common.{◌≡◌, ◌++◌, map, take}
use Rattle.ty_solve.specs.declared.size.Tally.TheVariants.{Visit}
use Rattle.ty_solve.proofs.size.visit_all.Given as goal

abbrev pub invariant-loop-t : goal.invariant-loop-t
invariant-loop-t l = l.tasks.items ≡ l.fn.tasks.items ++ map Visit (take l.t-index l.types)
