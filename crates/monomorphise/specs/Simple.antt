-- Copies in simple types: variables are numbers, and types the numbers of closed types in a table.
use Rattle.std.specs.Prelude.{◌≡◌, ℕ, zero, suc, Bool, true, ◌&&◌, List, [], ◌∷◌, ◌++◌, Option, Some, None, nat_eq, slice_set}
use Rattle.ty_core.specs.Types.{Symbol, name, Typ, attribute, allowed}
use Rattle.ty_core.specs.declared.name.TyName.{TyName}
use Rattle.ir_mono.specs.of_ir_poly.Types.{Constructor, find}
use Rattle.ir_mono.specs.Growing.{IsNewRow, IsNewConstructor, with_constructor}
use Rattle.ir_mono.specs.Types.{Row, Node, node, node_at, unit_number, constructor_at, admits, by_number, Is, IsExn, Stands, IsTable}
use Rattle.monomorphise.specs.Copies.{Target}

-- the number of a closed type; a variable, which none has, would stand for unit
abbrev pub IsType : List Row → ℕ → Typ → Type 0
IsType types n t = Stands types (λ v. unit_number) n t

abbrev pub simple : List Row → Target
simple types = record {
  Name = ℕ;
  same = nat_eq;
  Type_of = ℕ;
  tags = by_number types;
  tag_of = λ n. n;
  Is = IsType types;
  Has = λ n c. (a : Option ℕ) × (constructor_at types n c ≡ Some a);
}

-- the types of arguments
pub data SameArgument (types : List Row) : Option Typ → Option ℕ → Type 0 where
  no_argument : SameArgument types None None
  an_argument : {t : Typ} {n : ℕ} → IsType types n t → SameArgument types (Some t) (Some n)

abbrev pub all_flagged : List Row → List ℕ → Bool
all_flagged types [] = true
all_flagged types (p ∷ ps) = admits types p && all_flagged types ps

pub data AllThere (types : List Row) : List ℕ → Type 0 where
  none_there : AllThere types []
  one_there : {p : ℕ} {ps : List ℕ} (k : Node) → node_at types p ≡ Some k → AllThere types ps → AllThere types (p ∷ ps)

-- what the parameters of a datatype stand for
abbrev pub nth_part : List ℕ → ℕ → ℕ
nth_part [] i = unit_number
nth_part (p ∷ ps) zero = p
nth_part (p ∷ ps) (suc i) = nth_part ps i

-- a constructor's argument in the datatype at these types
pub data ArgumentIs (types : List Row) (ps : List ℕ) : Option Typ → Option ℕ → Type 0 where
  argument_is_none : ArgumentIs types ps None None
  argument_is : {t : Typ} {n : ℕ} → Stands types (nth_part ps) n t → ArgumentIs types ps (Some t) (Some n)

-- The table is that of a program with these constructors: parts are there, what admits equality is said to, and constructors have the arguments that they have
-- in the program.
pub record IsTableOf (constructors : List Constructor) (types : List Row) : Type 0 where
  pub sound : IsTable types
  pub exceptions : (n : ℕ) × IsExn types n
  pub closed : (n : ℕ) (h : Symbol) (ps : List ℕ) → Is types n h ps → AllThere types ps
  pub equality : (n : ℕ) (h : Symbol) (ps : List ℕ) → Is types n h ps → allowed (attribute h) (all_flagged types ps) ≡ true → admits types n ≡ true
  pub arguments : (n c : ℕ) (y : TyName) (ps : List ℕ) (k : Constructor) (a : Option ℕ) → Is types n (name y) ps → find constructors y c ≡ Some k
      → k.datatype ≡ y
      → constructor_at types n c ≡ Some a → ArgumentIs types ps k.argument a

-- What such a table may be given.

pub record IsNewTypeOf (types : List Row) (r : Row) : Type 0 where
  pub row : IsNewRow types r
  pub parts : (h : Symbol) (ps : List ℕ) → r.type ≡ node h ps → AllThere types ps
  pub equality : (h : Symbol) (ps : List ℕ) → r.type ≡ node h ps → allowed (attribute h) (all_flagged types ps) ≡ true → r.equality ≡ true

pub record IsNewConstructorOf (constructors : List Constructor) (types : List Row) (n : ℕ) (r : Row) (c : ℕ) (a : Option ℕ) : Type 0 where
  pub row : IsNewConstructor types n r c a
  pub argument : (y : TyName) (ps : List ℕ) (k : Constructor) → r.type ≡ node (name y) ps → find constructors y c ≡ Some k → k.datatype ≡ y
      → ArgumentIs types ps k.argument a

abbrev pub TypesArePushed : Type 0
TypesArePushed =
    (constructors : List Constructor) (types : List Row) (r : Row) → IsTableOf constructors types → IsNewTypeOf types r
    → IsTableOf constructors (types ++ r ∷ [])

abbrev pub ConstructorsAreAdded : Type 0
ConstructorsAreAdded =
    (constructors : List Constructor) (types : List Row) (n : ℕ) (r : Row) (c : ℕ) (a : Option ℕ) → IsTableOf constructors types
    → IsNewConstructorOf constructors types n r c a → IsTableOf constructors (slice_set types n (with_constructor r c a))
