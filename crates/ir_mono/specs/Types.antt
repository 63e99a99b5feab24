-- Closed types as numbers in a table. A type is a head with parts, which are types of the table: the arrow, labels of a record, or a type name. A datatype
-- stands there by instance, with those of its constructors that the program uses.
use Rattle.std.specs.Prelude.{◌≡◌, ℕ, suc, Bool, true, false, List, [], ◌∷◌, Option, Some, None, option_map, option_and_then, nat_eq, nat_lt, if◌then◌else◌}
use Rattle.std.specs.Map.{lookup}
use Rattle.std.specs.Prelude.{slice_get}
use Rattle.ir_poly.specs.of_mlc_names.declared.label.Label.{Label}
use Rattle.ir_poly.specs.of_mlc_names.declared.label.Label.TheVariants.{Number}
use Rattle.ir_poly.specs.of_mlc_prims.LitOf.{Literal, int, word, char, string, truth}
use Rattle.ir_poly.specs.of_ty_core.Types.{Symbol, arrow, labels, name, Typ, var, con, Typs, none, more}
use Rattle.ir_poly.specs.of_ty_core.declared.name.TyName.{TyName}
use Rattle.ir_poly.specs.of_ir_values.Tags.{Tagging}
use Rattle.ir_poly.specs.of_ir_values.Values.{same_label, truth_number}
use Rattle.ir_poly.specs.Types.{int_name, word_name, char_name, string_name, ref_name, exn_name, bool_name}

pub data Node : Type 0 where
  node : Symbol → List ℕ → Node

-- a constructor has a number, and the type of its argument, if it has one
pub record Row : Type 0 where
  pub type : Node
  pub constructors : List (ℕ × Option ℕ)
  -- whether two values of the type can be compared
  pub equality : Bool

-- the types of unit and of truth values have the first numbers
abbrev pub unit_number : ℕ
unit_number = 0

abbrev pub bool_number : ℕ
bool_number = 1

abbrev pub node_at : List Row → ℕ → Option Node
node_at types n = option_map (λ r. r.type) (slice_get types n)

abbrev pub constructor_at : List Row → ℕ → ℕ → Option (Option ℕ)
constructor_at types n c = option_and_then (λ r. lookup (nat_eq c) r.constructors) (slice_get types n)

abbrev pub flag : Option Row → Bool
flag None = false
flag (Some r) = r.equality

abbrev pub admits : List Row → ℕ → Bool
admits types n = flag (slice_get types n)

-- the part with this label
abbrev pub part : Label → List Label → List ℕ → Option ℕ
part l [] ps = None
part l (k ∷ ls) [] = None
part l (k ∷ ls) (p ∷ ps) = if same_label l k then Some p else part l ls ps

abbrev pub part_of : Label → Node → Option ℕ
part_of l (node (labels ls) ps) = part l ls ps
part_of l (node arrow ps) = None
part_of l (node (name y) ps) = None

abbrev pub is_named : TyName → Node → Bool
is_named y (node (name z) ps) = nat_eq z.stamp y.stamp
is_named y (node arrow ps) = false
is_named y (node (labels ls) ps) = false

abbrev pub holds : (Node → Bool) → Option Node → Bool
holds test None = false
holds test (Some k) = test k

abbrev pub has_literal : Node → Literal → Bool
has_literal k (int z) = is_named int_name k
has_literal k (word n) = is_named word_name k
has_literal k (char n) = is_named char_name k
has_literal k (string s) = is_named string_name k
has_literal k (truth b) = false

-- what is made keeps the number of its type
abbrev pub by_number : List Row → Tagging
by_number types = record {
  Tag = ℕ;
  same = nat_eq;
  of_unit = unit_number;
  of_bool = bool_number;
  has_literal = λ n l. holds (λ k. has_literal k l) (node_at types n);
  has_references = λ n. holds (is_named ref_name) (node_at types n);
  field = λ n l. option_and_then (part_of l) (node_at types n);
  argument = λ n c. option_and_then (λ o. o) (constructor_at types n c);
}

-- no two of the labels are one
pub data IsOther (l : Label) : List Label → Type 0 where
  other_none : IsOther l []
  other_more : {k : Label} {ls : List Label} → same_label k l ≡ false → IsOther l ls → IsOther l (k ∷ ls)

pub data AreDistinct : List Label → Type 0 where
  distinct_none : AreDistinct []
  distinct_more : {l : Label} {ls : List Label} → IsOther l ls → AreDistinct ls → AreDistinct (l ∷ ls)

module _ (types : List Row) where
  abbrev pub Is : ℕ → Symbol → List ℕ → Type 0
  Is n h ps = node_at types n ≡ Some (node h ps)

  abbrev pub IsFunction : ℕ → ℕ → ℕ → Type 0
  IsFunction n a b = Is n arrow (a ∷ b ∷ [])

  abbrev pub IsRef : ℕ → ℕ → Type 0
  IsRef n a = Is n (name ref_name) (a ∷ [])

  abbrev pub IsExn : ℕ → Type 0
  IsExn n = Is n (name exn_name) []

  pub data HasLiteral : Literal → ℕ → Type 0 where
    has_int : {n : ℕ} (z : _) → Is n (name int_name) [] → HasLiteral (int z) n
    has_word : {n : ℕ} (k : ℕ) → Is n (name word_name) [] → HasLiteral (word k) n
    has_char : {n : ℕ} (k : ℕ) → Is n (name char_name) [] → HasLiteral (char k) n
    has_string : {n : ℕ} (s : List ℕ) → Is n (name string_name) [] → HasLiteral (string s) n

  -- a number is that of a type, where the type's variables have the numbers s
  mutual
    pub data Stands (s : ℕ → ℕ) : ℕ → Typ → Type 0 where
      stands_var : {v : ℕ} → Stands s (s v) (var v)
      stands_con : {n : ℕ} {h : Symbol} {ns : List ℕ} {ts : Typs} → Is n h ns → AllStand s ns ts → Stands s n (con h ts)

    pub data AllStand (s : ℕ → ℕ) : List ℕ → Typs → Type 0 where
      stand_none : AllStand s [] none
      stand_more : {n : ℕ} {ns : List ℕ} {t : Typ} {ts : Typs} → Stands s n t → AllStand s ns ts → AllStand s (n ∷ ns) (more t ts)

  pub data AllAdmit : List ℕ → Type 0 where
    admit_none : AllAdmit []
    admit_more : {n : ℕ} {ns : List ℕ} → admits types n ≡ true → AllAdmit ns → AllAdmit (n ∷ ns)

  -- what can be compared: records of what can, and constants, references and constructions, whose arguments can; so all that has a type name, but packets
  pub data IsComparable (n : ℕ) : Type 0 where
    records_are : {ls : List Label} {ps : List ℕ} → Is n (labels ls) ps → AllAdmit ps → IsComparable n
    named_are : {y : TyName} {ps : List ℕ} → Is n (name y) ps → (y ≡ exn_name → ⊥)
        → ((c a : ℕ) → constructor_at types n c ≡ Some (Some a) → admits types a ≡ true) → IsComparable n

-- Each type stands there once. Only datatypes have constructors: their names are not among those of the basis that come before.
pub record IsTable (types : List Row) : Type 0 where
  pub once : (n m : ℕ) (k : Node) → node_at types n ≡ Some k → node_at types m ≡ Some k → n ≡ m
  pub unit : Is types unit_number (labels []) []
  pub bool : Is types bool_number (name bool_name) []
  pub truths : (b : Bool) → constructor_at types bool_number (truth_number b) ≡ Some None
  pub datatypes : (n c : ℕ) (a : Option ℕ) → constructor_at types n c ≡ Some a
      → (y : TyName) × (ps : List ℕ) × Is types n (name y) ps × (nat_lt 5 y.stamp ≡ true)
  pub comparable : (n : ℕ) → admits types n ≡ true → IsComparable types n

-- the labels 1, 2, .. of so many parts
abbrev pub numbered : ℕ → List ℕ → List Label
numbered k [] = []
numbered k (p ∷ ps) = Number k ∷ numbered (suc k) ps

-- a primitive as a function takes its argument, or a tuple of them
pub data IsTuple (types : List Row) : List ℕ → ℕ → Type 0 where
  nothing : {n : ℕ} → Is types n (labels []) [] → IsTuple types [] n
  alone : {a : ℕ} → IsTuple types (a ∷ []) a
  together : {n a b : ℕ} {ps : List ℕ} → Is types n (labels (numbered 1 (a ∷ b ∷ ps))) (a ∷ b ∷ ps) → IsTuple types (a ∷ b ∷ ps) n
