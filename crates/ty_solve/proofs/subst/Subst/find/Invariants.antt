use Rattle.std.proofs.Common.{◌≡◌, ◌<◌, ◌≤◌, ℕ, true, length}
use Rattle.std.proofs.Common.{◌≡◌, ◌≤◌, ℕ, true, length}
use Rattle.ty_table.specs.of_ty_core.Types.{Typ}
use Rattle.ty_table.specs.TypeAt.{type_at}
use Rattle.ty_solve.specs.Substitution.{Fits, sub, is_below}
use Rattle.ty_solve.specs.SlotsOf.{seen}
use Rattle.ty_solve.specs.Weight.{weight}
use Rattle.ty_solve.specs.Forces.{Problem, Forces, Met, IsForced}
use Rattle.ty_solve.proofs.subst.Subst.find.Given as goal

abbrev pub invariant-loop-next : goal.invariant-loop-next
invariant-loop-next l = record {
  held : l.t < length l.self.types → l.found < length l.self.types;
  same : (f : ℕ → Typ) → Fits f (seen l.self.types l.self.slots.items) → sub f (type_at l.self.types l.t) ≡ sub f (type_at l.self.types l.found);
  in_bounds : is_below (length l.self.slots.items) (type_at l.self.types l.t) ≡ true → is_below (length l.self.slots.items) (type_at l.self.types l.found) ≡ true;
  lighter : weight l.self.acyclic.0 (type_at l.self.types l.found) ≤ weight l.self.acyclic.0 (type_at l.self.types l.t);
  forced : (p : Problem) → IsForced p (seen l.self.types l.self.slots.items) → Forces p (type_at l.self.types l.t) (type_at l.self.types l.found);
  met : (p : Problem) → IsForced p (seen l.self.types l.self.slots.items) → Met p (type_at l.self.types l.t) → Met p (type_at l.self.types l.found);
}

abbrev pub decreases-loop-next : goal.decreases-loop-next
decreases-loop-next l = weight l.self.acyclic.0 (type_at l.self.types l.found)
