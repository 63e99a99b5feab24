-- What numbers type names have in the program. The source gives the number of a name back at the end of a `let`, the program never; so each declaration of a
-- type name makes a naming of the one before it. With none, each name has its own number, as those of the initial basis do.
use Rattle.std.specs.Prelude.{ℕ, ◌<◌, ◌≤◌, List, [], ◌∷◌, ◌++◌, Option, Some, None, nat_eq, slice_get, slice_index_or, if◌then◌else◌, ⊤}
use Rattle.ty_basis.specs.Types.{name_count}
use Rattle.elab_state.specs.declared.naming.Naming.{Naming}

-- the numbers of a naming, where those of all rows are known
abbrev pub numbers_at : List (ℕ → ℕ) → Option ℕ → ℕ → ℕ
numbers_at fs None n = n
numbers_at fs (Some k) n = slice_index_or fs k (λ x. x) n

-- the row's name has its number, each other what it had before
abbrev pub numbers_of : List (ℕ → ℕ) → Naming → ℕ → ℕ
numbers_of fs r n = if nat_eq r.stamp n then r.number else numbers_at fs r.before n

-- the numbers of further rows, each after those of the rows before it
abbrev pub numbers_after : List (ℕ → ℕ) → List Naming → List (ℕ → ℕ)
numbers_after fs [] = fs
numbers_after fs (r ∷ rs) = numbers_after (fs ++ numbers_of fs r ∷ []) rs

-- the number that a name has in a naming
abbrev pub number_in : List Naming → Option ℕ → ℕ → ℕ
number_in rs = numbers_at (numbers_after [] rs)

abbrev pub IsAbove : ℕ → Option Naming → Type 0
IsAbove stamp None = ⊥
IsAbove stamp (Some r) = r.stamp < stamp

-- a naming that there is, whose own name came before this one
abbrev pub ComesBefore : List Naming → Option ℕ → ℕ → Type 0
ComesBefore rs None stamp = ⊤
ComesBefore rs (Some k) stamp = IsAbove stamp (slice_get rs k)

-- a row that may come after others: of a name that the basis doesn't have, and that is later than those of the naming before
pub record IsNext (rs : List Naming) (r : Naming) : Type 0 where
  pub beyond : name_count ≤ r.stamp
  pub later : ComesBefore rs r.before r.stamp

abbrev pub AreNext : List Naming → List Naming → Type 0
AreNext rs [] = ⊤
AreNext rs (r ∷ qs) = IsNext rs r × AreNext (rs ++ r ∷ []) qs

abbrev pub AreNamings : List Naming → Type 0
AreNamings = AreNext []

-- a naming among so many
abbrev pub IsAmong : ℕ → Option ℕ → Type 0
IsAmong count None = ⊤
IsAmong count (Some k) = k < count
