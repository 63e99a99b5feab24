-- Laws of the type names and of the types of primitives.
use Rattle.std.specs.Prelude.{◌≡◌, ◌≢◌, ℕ, List, map, Option, Some, None, slice_get, ⊤}
use Rattle.mlc_prims.specs.LitOf.{Literal, int, word, char, string, truth}
use Rattle.mlc_prims.specs.PrimOf.{Gives, made, raised}
use Rattle.mlc_prims.specs.Table.{row_of}
use Rattle.mlc_prims.specs.declared.basis.BasisPrimitive.{BasisPrimitive}
use Rattle.mlc_prims.specs.declared.basis.BasisPrimitive.TheVariants.{Print}
use Rattle.ty_core.specs.Types.{Typ, no_variable}
use Rattle.ty_core.specs.Marks.{Allows, overloaded}
use Rattle.ty_core.specs.Statics.{replace}
use Rattle.ty_core.specs.declared.name.TyName.{TyName}
use Rattle.ty_basis.specs.Types.{names, int_name, word_name, char_name, string_name, int_type, word_type, char_type, string_type, bool_type}
use Rattle.ty_basis.specs.Primitives.{prim_type}

-- each name stands at the place of its number
abbrev pub NamesAreNumbered : Type 0
NamesAreNumbered = (k : ℕ) (n : TyName) → slice_get names k ≡ Some n → n.stamp ≡ k

-- the overloaded types are the first four
abbrev pub OverloadedComeFirst : Type 0
OverloadedComeFirst = (int_name ≡ overloaded 0) × ((word_name ≡ overloaded 1) × ((char_name ≡ overloaded 2) × (string_name ≡ overloaded 3)))

abbrev pub type_of : Literal → Typ
type_of (int z) = int_type
type_of (word n) = word_type
type_of (char n) = char_type
type_of (string s) = string_type
type_of (truth b) = bool_type

-- there is a row, and what it makes has this type
abbrev pub GivesType : Typ → Option Gives → Type 0
GivesType t None = ⊥
GivesType t (Some (made l)) = type_of l ≡ t
GivesType t (Some (raised e)) = ⊤

-- The table has a row for all values of the types that a primitive takes, and it makes values of the type that it gives. (`print` has none: it changes the
-- state.)
abbrev pub RowsHaveTheirTypes : Type 0
RowsHaveTheirTypes = (q : BasisPrimitive) (t : Typ) (args : List Literal) → q ≢ Print → Allows (prim_type q).mark no_variable t →
    map type_of args ≡ map (replace (λ v. t)) (prim_type q).arguments → GivesType (replace (λ v. t) (prim_type q).result) (row_of q args)
