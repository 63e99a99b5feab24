-- What is seen of a type's first node.
use Rattle.std.specs.Prelude.{◌≡◌, ℕ, Bool, true, false, List}
use Rattle.ty_core.specs.Types.{var}
use Rattle.ty_table.specs.TypeAt.{type_at}
use Rattle.ty_solve.specs.Said.{said}
use Rattle.ty_solve.specs.Substitution.{is_open}
use Rattle.ty_solve.specs.Walk.{Looks, LooksInRow}
use Rattle.ty_solve.specs.declared.solver.Solver.{Solver}
use Rattle.open_variables.specs.Open.{is_done_in}

-- the type k is no open variable but one that is done with, and what it stands for or its parts were put on
pub record IsPassed (M : Solver) (k : ℕ) (old new : List ℕ) : Type 0 where
  pub looks : Looks M.subst.types (said M.subst) k old new
  pub done : (v : ℕ) → type_at M.subst.types k ≡ var v → is_open (said M.subst v) ≡ true → is_done_in M v ≡ true

-- it is an open variable that isn't done with
pub record IsLeft (M : Solver) (k : ℕ) : Type 0 where
  pub variable : ℕ
  pub is : type_at M.subst.types k ≡ var variable
  pub open_still : is_open (said M.subst variable) ≡ true
  pub left : is_done_in M variable ≡ false

abbrev pub Sees : Solver → ℕ → List ℕ → List ℕ → Bool → Type 0
Sees M k old new true = IsPassed M k old new
Sees M k old new false = IsLeft M k

-- the same of an open variable
pub record IsDoneOpen (M : Solver) (v : ℕ) (old new : List ℕ) : Type 0 where
  pub looks : LooksInRow M.subst.types (said M.subst) v old new
  pub done : is_done_in M v ≡ true

abbrev pub SeesOpen : Solver → ℕ → List ℕ → List ℕ → Bool → Type 0
SeesOpen M v old new true = IsDoneOpen M v old new
SeesOpen M v old new false = is_done_in M v ≡ false
