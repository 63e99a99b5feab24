use Rattle.std.proofs.Common.{ℕ, List, take}
use Rattle.ty_core.specs.Types.{Typ}
use Rattle.datatype_equality.specs.Holding.{Rested}
use Rattle.datatype_equality.proofs.equality.rest_on.Given as goal

abbrev pub invariant-loop-part : goal.invariant-loop-part
invariant-loop-part l = (ts : List Typ) (first : ℕ) → Rested ts first l.fn.count l.fn.graph l.graph (take l.part-index l.fn.parts) l.fn.v l.fn.pending.items l.pending.items
