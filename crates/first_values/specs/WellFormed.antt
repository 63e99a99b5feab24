-- What may stand where: which operands an operation takes, and that all that it names is there.
use Rattle.std.specs.Prelude.{◌≡◌, ℕ, suc, Bool, true, false, ◌||◌, List, [], ◌∷◌, length, Some, nat_eq, nat_lt, slice_get, ⊤}
use Rattle.std.specs.List.{AllByRecursion}
use Rattle.first_values.specs.Values.{Piece, one, run}
use Rattle.first_values.specs.Equality.{Shape, cells}
use Rattle.first_values.specs.Operations.{Member, Tables, Constant, a_text, Plain, same, constant, field, refer, content, assign, exception, initial, pack, argument, compute, equal, print, Test, is, is_of, holds, Callee, known, one_of}
use Rattle.first_values.specs.Raising.{may_raise}

abbrev pub is_among : ℕ → List ℕ → Bool
is_among x [] = false
is_among x (y ∷ ys) = nat_eq x y || is_among x ys

-- a variable in scope
abbrev pub IsIn : List ℕ → ℕ → Type 0
IsIn xs x = is_among x xs ≡ true

abbrev pub AreIn : List ℕ → List ℕ → Type 0
AreIn xs ys = AllByRecursion (IsIn xs) ys

abbrev pub PieceIn : List ℕ → Piece → Type 0
PieceIn xs (one x) = IsIn xs x
PieceIn xs (run x i n) = IsIn xs x

abbrev pub PiecesIn : List ℕ → List Piece → Type 0
PiecesIn xs ps = AllByRecursion (PieceIn xs) ps

-- the number of a row
abbrev pub IsRow : {A : Type 0} → List A → ℕ → Type 0
IsRow rows n = nat_lt n (length rows) ≡ true

module _ (T : Tables) where
  abbrev pub IsConstant : Constant → Type 0
  IsConstant (a_text i) = IsRow T.strings i
  IsConstant c = ⊤

  -- an operation on so many operands
  abbrev pub IsPlain : Plain → ℕ → Type 0
  IsPlain same n = n ≡ 1
  IsPlain (constant c) n = IsConstant c × (n ≡ 0)
  IsPlain (field i) n = n ≡ 1
  IsPlain refer n = n ≡ 1
  IsPlain content n = n ≡ 1
  IsPlain assign n = n ≡ 2
  IsPlain (exception i) n = n ≡ 0
  IsPlain (initial i) n = IsRow T.initial i × (n ≡ 0)
  IsPlain pack n = n ≡ 2
  IsPlain argument n = n ≡ 1
  IsPlain (compute k p) n = may_raise k p ≡ false
  IsPlain (equal t) n = IsRow T.types t × (n ≡ 2)
  IsPlain print n = n ≡ 1

  abbrev pub IsTest : Test → ℕ → Type 0
  IsTest (is c) n = IsConstant c × (n ≡ 1)
  IsTest is_of n = n ≡ 2
  IsTest (holds k p) n = may_raise k p ≡ false

  -- functions with so many parameters each
  module _ (arities : List ℕ) where
    abbrev pub Takes : ℕ → ℕ → Type 0
    Takes n f = slice_get arities f ≡ Some n

    -- a function that takes n arguments, or a set all of whose functions take one more
    abbrev pub IsCallee : List ℕ → Callee → ℕ → Type 0
    IsCallee xs (known f) n = Takes n f
    IsCallee xs (one_of s x) n = IsIn xs x × ((set : List Member) × (slice_get T.sets s ≡ Some set) × AllByRecursion (λ m. Takes (suc n) m.function) set)

-- a type whose parts are types of the table
abbrev pub IsShape : List Shape → Shape → Type 0
IsShape types (cells parts) = AllByRecursion (AllByRecursion (IsRow types)) parts
IsShape types shape = ⊤

-- tags rise along a set
abbrev pub Rise : List Member → Type 0
Rise [] = ⊤
Rise (m ∷ []) = ⊤
Rise (m ∷ n ∷ ms) = (nat_lt m.tag n.tag ≡ true) × Rise (n ∷ ms)

-- The seven exceptions of the initial basis are there, strings are of bytes, types of types; tags rise along each set.
pub record AreTables (T : Tables) : Type 0 where
  pub initial : length T.initial ≡ 7
  pub strings : AllByRecursion (AllByRecursion (λ b. nat_lt b 256 ≡ true)) T.strings
  pub types : AllByRecursion (IsShape T.types) T.types
  pub sets : AllByRecursion Rise T.sets
