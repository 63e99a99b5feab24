-- What the mark of a variable asks of its type.
use Rattle.std.specs.Prelude.{◌≡◌, ℕ, zero, suc, ◌+◌, Bool, true, false, ◌||◌, ⊤}
use Rattle.ty_core.specs.Types.{Typ, con, name, none, admits}
use Rattle.ty_core.specs.declared.name.TyName.{TyName}
use Rattle.ty_core.specs.declared.name.Equality.TheVariants.{Always}
use Rattle.ty_core.specs.declared.mark.Class.{Class}
use Rattle.ty_core.specs.declared.mark.Mark.{Mark}

-- the overloaded types are int, word, char and string, the type names of the numbers 0 to 3
abbrev pub overloaded : ℕ → TyName
overloaded k = record { stamp = k; arity = 0; equality = Always }

abbrev pub has : Class → ℕ → Bool
has c zero = c.int
has c (suc zero) = c.word
has c (suc (suc zero)) = c.char
has c (suc (suc (suc zero))) = c.string
has c (suc (suc (suc (suc k)))) = false

-- t is a type of the class
pub record IsOf (c : Class) (t : Typ) : Type 0 where
  pub number : ℕ
  pub is : t ≡ con (name (overloaded number)) none
  pub held : has c number ≡ true

-- t is a type that the mark allows, where m says which variables admit equality
abbrev pub Allows : Mark → (ℕ → Bool) → Typ → Type 0
Allows Mark.Any m t = ⊤
Allows Mark.Equality m t = admits m t ≡ true
Allows (Mark.Class c) m t = IsOf c t

-- a class has a type
abbrev pub is_inhabited : Mark → Bool
is_inhabited Mark.Any = true
is_inhabited Mark.Equality = true
is_inhabited (Mark.Class c) = c.int || (c.word || (c.char || c.string))

abbrev pub one : Bool → ℕ
one true = 1
one false = 0

-- the less a mark allows, the lower it stands
abbrev pub rank_of : Mark → ℕ
rank_of Mark.Any = 7
rank_of Mark.Equality = 6
rank_of (Mark.Class c) = suc (one c.int + (one c.word + (one c.char + one c.string)))

-- r allows what both j and k allow
pub record IsMeet (j k r : Mark) : Type 0 where
  pub left : (m : ℕ → Bool) (t : Typ) → Allows r m t → Allows j m t
  pub right : (m : ℕ → Bool) (t : Typ) → Allows r m t → Allows k m t
  pub both : (m : ℕ → Bool) (t : Typ) → Allows j m t → Allows k m t → Allows r m t
