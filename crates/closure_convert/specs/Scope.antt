-- Where a body finds the variables that it uses, and of which pieces a closure is made.
use Rattle.std.specs.Prelude.{◌≡◌, ℕ, zero, suc, Bool, true, false, ◌||◌, List, [], ◌∷◌, ◌++◌, length, nat_eq, if◌then◌else◌, ⊤}
use Rattle.flow_sets.specs.Member.{is_in}

-- a function of a group: the variable that it is bound to, and its number
pub record Member : Type 0 where
  pub name : ℕ
  pub number : ℕ

abbrev pub names : List Member → List ℕ
names [] = []
names (m ∷ ms) = m.name ∷ names ms

-- In the body of a function a variable is bound in it, is a function of its group, or was captured. A function alone has no group.
pub record Scope : Type 0 where
  pub locals : List ℕ
  pub group : List Member
  pub captured : List ℕ

abbrev pub add : ℕ → Scope → Scope
add x s = record s { locals = x ∷ s.locals }

abbrev pub add_all : List ℕ → Scope → Scope
add_all [] s = s
add_all (x ∷ xs) s = add x (add_all xs s)

-- how a variable comes from the group: not, as the first, whose closure has what the group captured, or made anew with that closure
pub data Way : Type 0 where
  no_way : Way
  leads : Way
  follows : (k : ℕ) → Way

abbrev pub way_in : ℕ → List Member → Way
way_in x [] = no_way
way_in x (m ∷ ms) = if nat_eq x m.name then follows m.number else way_in x ms

abbrev pub way : ℕ → List Member → Way
way x [] = no_way
way x (m ∷ ms) = if nat_eq x m.name then leads else way_in x ms

abbrev pub is_way : Way → Bool
is_way no_way = false
is_way leads = true
is_way (follows k) = true

-- the variable is found in the body
abbrev pub reaches : Scope → ℕ → Bool
reaches s x = is_in x s.locals || (is_way (way x s.group) || is_in x s.captured)

-- the place of x, and the length where x is not there
abbrev pub index_of : ℕ → List ℕ → ℕ
index_of x [] = zero
index_of x (y ∷ ys) = if nat_eq x y then zero else suc (index_of x ys)

-- What a closure is made of: variables one by one, and runs of what the function around captured.
pub data Piece : Type 0 where
  alone : (y : ℕ) → Piece
  those : (from count : ℕ) → Piece

-- it is read from what the function around captured
pub record IsOuter (s : Scope) (x : ℕ) : Type 0 where
  pub not_local : is_in x s.locals ≡ false
  pub not_group : way x s.group ≡ no_way
  pub captured : is_in x s.captured ≡ true

-- these stand there from this place on
abbrev pub InRow : Scope → (from : ℕ) → List ℕ → Type 0
InRow s i [] = ⊤
InRow s i (x ∷ xs) = IsOuter s x × ((index_of x s.captured ≡ i) × InRow s (suc i) xs)

-- the pieces make the values of these variables
pub data Makes (s : Scope) : List Piece → List ℕ → Type 0 where
  makes_none : Makes s [] []
  makes_one : (y : ℕ) {ps : List Piece} {xs : List ℕ} → reaches s y ≡ true → Makes s ps xs → Makes s (alone y ∷ ps) (y ∷ xs)
  makes_run : (from y : ℕ) (ys : List ℕ) {ps : List Piece} {xs : List ℕ} → InRow s from (y ∷ ys) → Makes s ps xs
      → Makes s (those from (suc (length ys)) ∷ ps) (y ∷ (ys ++ xs))

-- by the number of a function alone, or of the first of a group: which variables it captures, and the pieces of its closure
pub record Table : Type 0 where
  pub captured : ℕ → List ℕ
  pub pieces : ℕ → List Piece

abbrev pub top : Scope
top = record { locals = []; group = []; captured = [] }
