-- What the code that goes to the place of a tag does.
use Rattle.std.specs.Prelude.{◌≡◌, ℕ, suc, ◌<◌, List, ◌∷◌, ◌++◌, length, Some, true, false}
use Rattle.ir_code.specs.declared.instr.Instr.{Instr}
use Rattle.ir_code.specs.Machine.{State}
use Rattle.machine_routines.specs.Runs.{HasAt, Frame, inside, Leads}
use Rattle.machine_routines.specs.FindCode.{Target, member_at, or_place, Rises, Below, way_of, way_code}

-- it comes to a state, in some steps, whatever word it leaves in the free slot
pub record ComesTo (code : List Instr) (s : State) (there : ℕ → State) : Type 0 where
  pub word : ℕ
  pub leads : Leads code s (there word)
  pub some : 0 < leads.steps

-- With a tag in slot k and a free word after it, where the tags rise and are below n: any tag goes to its member's place, or to p where there is none.
abbrev pub FindLaw : Type 0
FindLaw =
    (code : List Instr) (f : Frame) (front above m free : List ℕ) (t k : ℕ) → length front ≡ k → (p : ℕ) (set : List Target) (n pc x : ℕ) → Rises 0 set
    → Below n set
    → HasAt code pc (way_code set pc k (suc k) p (way_of true p n set))
    → ComesTo code (inside f pc (front ++ (t ∷ x ∷ above)) m free) (λ y. inside f (or_place (member_at t set) p) (front ++ (t ∷ y ∷ above)) m free)

-- with no tests a tag of the set goes to its member's place
abbrev pub FindMemberLaw : Type 0
FindMemberLaw =
    (code : List Instr) (f : Frame) (front above m free : List ℕ) (t k : ℕ) → length front ≡ k → (p : ℕ) (set : List Target) (n pc x q : ℕ) → Rises 0 set
    → Below n set → member_at t set ≡ Some q → HasAt code pc (way_code set pc k (suc k) p (way_of false p n set))
    → ComesTo code (inside f pc (front ++ (t ∷ x ∷ above)) m free) (λ y. inside f q (front ++ (t ∷ y ∷ above)) m free)
