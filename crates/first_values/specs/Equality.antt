-- Equality of two values at a type: of parts, left to right up to the first difference; of references by identity. Values of other types have none.
use Rattle.std.specs.Prelude.{ℕ, Bool, true, false, List, [], ◌∷◌, Option, Some, None, nat_eq, if◌then◌else◌, get_or}
use Rattle.ir_values.specs.of_mlc_prims.LitOf.{Literal, int, word, char, string, truth}
use Rattle.ir_values.specs.of_mlc_prims.Table.{literal_eq}
use Rattle.first_values.specs.Values.{Value, literal, cell, reference, Values, no_values, value}

-- how the values of a type are compared: a cell by the types of the parts at each tag
pub data Shape : Type 0 where
  -- integers, words or characters
  numbers : Shape
  texts : Shape
  cells : List (List ℕ) → Shape
  references : Shape
  -- not at all
  opaque : Shape

abbrev pub is_text : Literal → Bool
is_text (int z) = false
is_text (word n) = false
is_text (char n) = false
is_text (string s) = true
is_text (truth b) = false

abbrev pub unless : {A : Type 0} → Bool → Option A → Option A
unless true o = None
unless false o = o

abbrev pub when : {A : Type 0} → Bool → Option A → Option A
when true o = o
when false o = None

abbrev pub unless_different : Option Bool → Option Bool → Option Bool
unless_different None more = None
unless_different (Some true) more = more
unless_different (Some false) more = Some false

-- whether two values of a type are equal; none where one isn't of the type
abbrev mutual
  pub equal_at : List Shape → Shape → Value → Value → Option Bool
  equal_at types numbers (literal l) (literal k) = unless (is_text l) (literal_eq l k)
  equal_at types texts (literal l) (literal k) = when (is_text l) (literal_eq l k)
  equal_at types (cells parts) (cell i us) (cell j vs) = if nat_eq i j then equal_parts types (get_or parts i []) us vs else Some false
  equal_at types references (reference a) (reference b) = Some (nat_eq a b)
  equal_at types shape u v = None

  pub equal_parts : List Shape → List ℕ → Values → Values → Option Bool
  equal_parts types [] no_values no_values = Some true
  equal_parts types (t ∷ ts) (value a us) (value b vs) = unless_different (equal_at types (get_or types t opaque) a b) (equal_parts types ts us vs)
  equal_parts types ts us vs = None
