-- Numbers that a table of n types has.
use Rattle.std.specs.Prelude.{◌<◌, ℕ, List, [], ◌∷◌, Option, Some, None, ⊤}
use Rattle.ty_solve.specs.declared.subst.Slot.{Slot}
use Rattle.ty_table.specs.TypeAt.{AllBelow}
use Rattle.ty_solve.specs.declared.subst.Slot.TheVariants.{Open, Partial, Full}
use Rattle.ty_solve.specs.declared.task.Todo.{Todo}
use Rattle.ty_solve.specs.declared.task.Move.{Move}
use Rattle.ty_solve.specs.declared.task.Todo.TheVariants as todo
use Rattle.ty_solve.specs.declared.task.Move.TheVariants as move

abbrev pub IsHeld : ℕ → Slot → Type 0
IsHeld n (Open k) = ⊤
IsHeld n (Partial r) = AllBelow n r.types.items
IsHeld n (Full t) = t < n

abbrev pub AreHeld : ℕ → List Slot → Type 0
AreHeld n [] = ⊤
AreHeld n (o ∷ os) = IsHeld n o × AreHeld n os

abbrev pub IsHeldTask : ℕ → Todo → Type 0
IsHeldTask n (todo.Equal a b) = (a < n) × (b < n)
IsHeldTask n (todo.Admit k t) = t < n

abbrev pub AreHeldTasks : ℕ → List Todo → Type 0
AreHeldTasks n [] = ⊤
AreHeldTasks n (x ∷ l) = IsHeldTask n x × AreHeldTasks n l

abbrev pub IsHeldMove : ℕ → Option Move → Type 0
IsHeldMove n None = ⊤
IsHeldMove n (Some (move.Bind v t)) = t < n
IsHeldMove n (Some (move.Remark v k)) = ⊤
IsHeldMove n (Some (move.Further v)) = ⊤

-- a task among others leaves tasks and a change whose numbers the table has
abbrev pub KeepsHeld : ℕ → List Todo → Todo → List Todo → Option Move → Type 0
KeepsHeld n old task new w = AreHeldTasks n old → IsHeldTask n task → AreHeldTasks n new × IsHeldMove n w
