use Rattle.std.proofs.Common.{◌≡◌, ◌<◌, ℕ, List, Some, slice_get}
use Rattle.ty_table.specs.TypeAt.{AllBelow}
use Rattle.mono_number.proofs.apart.lists_within.Given as goal

abbrev pub invariant-loop-k : goal.invariant-loop-k
invariant-loop-k l = (k : ℕ) (m : List ℕ) → k < l.k → slice_get l.lists k ≡ Some m → AllBelow l.limit m
