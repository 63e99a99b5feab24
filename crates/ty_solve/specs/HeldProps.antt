-- That a table has the numbers of slots is one fact.
use Rattle.std.specs.Prelude.{ℕ, List, [], ◌∷◌}
use Rattle.std.proofs.Props.{props}
use mathlib.Core.HLevel.{×_prop, Unit-prop}
use Rattle.ty_solve.specs.declared.subst.Slot.{Slot}
use Rattle.ty_solve.specs.declared.subst.Slot.TheVariants.{Open, Partial, Full}
use Rattle.ty_table.specs.TypeAt.{AllBelow}
use Rattle.ty_solve.specs.Held.{IsHeld, AreHeld}

AllBelow-prop : (n : ℕ) (l : List ℕ) → IsProp (AllBelow n l)
AllBelow-prop n [] = Unit-prop
AllBelow-prop n (k ∷ l) = ×_prop (hlevel props) (AllBelow-prop n l)

IsHeld-prop : (n : ℕ) (o : Slot) → IsProp (IsHeld n o)
IsHeld-prop n (Open k) = Unit-prop
IsHeld-prop n (Partial r) = AllBelow-prop n r.types.items
IsHeld-prop n (Full t) = hlevel props

pub AreHeld-prop : (n : ℕ) (os : List Slot) → IsProp (AreHeld n os)
AreHeld-prop n [] = Unit-prop
AreHeld-prop n (o ∷ os) = ×_prop (IsHeld-prop n o) (AreHeld-prop n os)
