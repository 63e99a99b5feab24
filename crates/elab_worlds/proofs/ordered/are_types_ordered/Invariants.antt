use Rattle.std.proofs.Common.{◌≡◌, ◌<◌, ℕ, true}
use Rattle.ty_table.specs.TypeAt.{type_at}
use Rattle.elab_steps.specs.Ordered.{is_ordered}
use Rattle.elab_worlds.proofs.ordered.are_types_ordered.Given as goal

abbrev pub invariant-loop-k : goal.invariant-loop-k
invariant-loop-k l = (j : ℕ) → j < l.k → is_ordered (type_at l.types j) ≡ true
