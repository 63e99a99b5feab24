-- What the routine that compares two values does.
use Rattle.std.specs.Prelude.{◌≡◌, ℕ, ◌<◌, ◌≤◌, List, ◌∷◌, ◌++◌, length, Bool, Some, get_or}
use Rattle.ir_code.specs.declared.instr.Instr.{Instr}
use Rattle.ir_code.specs.Words.{one_if}
use Rattle.ir_code.specs.Machine.{State}
use Rattle.first_values.specs.Values.{Value}
use Rattle.first_values.specs.Equality.{Shape, opaque, equal_at}
use Rattle.machine_routines.specs.Layout.{Word, Is, Shows}
use Rattle.machine_routines.specs.EqualCode.{offset_of, place, equal_code}
use Rattle.machine_routines.specs.Runs.{HasAt, Frame, inside, returned, Leads, RunsOut}

-- the words of its frame
abbrev pub words : ℕ → ℕ → List ℕ → ℕ → ℕ → ℕ → ℕ → ℕ → List ℕ
words back frame above a b p l r = back ∷ frame ∷ a ∷ b ∷ p ∷ l ∷ r ∷ above

-- it returns whether the two are equal, perhaps with more of the heap in use, or the heap is exhausted
pub data Answers (code : List Instr) (f : Frame) (back frame : ℕ) (s : State) (m : List ℕ) (q : Bool) : Type 0 where
  returns : (rest new free : List ℕ) → Leads code s (returned f back frame (one_if q) (back ∷ frame ∷ rest) (m ++ new) free) → Answers code f back frame s m q
  exhausts : RunsOut code s → Answers code f back frame s m q

-- From the code of the type t on, with nothing pending and the two values in their slots: 1 or 0.
abbrev pub EqualLaw : Type 0
EqualLaw =
    (shapes : List Shape) (start most : ℕ) (code : List Instr) → length code ≤ most → HasAt code start (equal_code shapes start most) →
    (lay : List Word) (f : Frame) → 0 < f.base → (back frame : ℕ) (above : List ℕ) (v u : Value) (t : ℕ) (q : Bool) (a b l r : ℕ) (m free : List ℕ) →
    Shows lay m → f.base ≤ length m → Is lay v l → Is lay u r → equal_at shapes (get_or shapes t opaque) v u ≡ Some q →
    Answers code f back frame (inside f (place shapes start most (offset_of shapes t)) (words back frame above a b 0 l r) m free) m q
