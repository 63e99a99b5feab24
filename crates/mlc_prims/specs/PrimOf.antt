-- What a primitive gives, and the table of the primitives that compile today.
use Rattle.std.specs.Prelude.{◌≡◌, ℕ, ◌+◌, ◌^◌, ◌≤◌, ℤ, pos, negsuc, ◌+ℤ◌, ◌-ℤ◌, ◌*ℤ◌, Bool, nat_lt, nat_le, if◌then◌else◌, List, ◌++◌, length, Option, Some, None, option_map, ⊤}
use Rattle.std.specs.List.{AllByRecursion}
use Rattle.mlc_prims.specs.LitOf.{Literal, int, string, word, char, truth, lit_of, ints_in, strings_in}
use Rattle.mlc_prims.specs.declared.prim.Primitive.{Primitive}
use Rattle.mlc_prims.specs.declared.prim.Primitive.TheVariants.{Add, Sub, Mul, Cat, Print}
use Rattle.mlc_prims.specs.declared.prim.PrimExn.{PrimExn}
use Rattle.mlc_prims.specs.declared.prim.PrimExn.TheVariants.{Overflow, Size}
use Rattle.mlc_prims.specs.declared.applied.Applied.{Applied}
use Rattle.mlc_prims.specs.declared.applied.Applied.TheVariants.{Made, Raises, Memory}

-- what a primitive gives: a value, or an exception
pub data Gives : Type 0 where
  made : Literal → Gives
  raised : PrimExn → Gives

-- whether an integer has 32 bits with its sign
abbrev pub fits_int : ℤ → Bool
fits_int (pos n) = nat_lt n (2 ^ 31)
fits_int (negsuc n) = nat_lt n (2 ^ 31)

abbrev pub fitting : ℤ → Option ℤ
fitting z = if fits_int z then Some z else None

-- an exact result, or Overflow
abbrev pub exact : Option ℤ → Gives
exact None = raised Overflow
exact (Some z) = made (int z)

abbrev pub int_result : ℤ → Gives
int_result z = exact (fitting z)

-- the most bytes of a string
abbrev pub max_size : ℕ
max_size = 268435455

-- a concatenation, or Size
abbrev pub joined : List ℕ → List ℕ → Gives
joined s t = if nat_le (length s + length t) max_size then made (string (s ++ t)) else raised Size

-- The table, one row a primitive; overloaded ones have a row for each kind of value. No row is that of `print`, which changes the state, or of other values.
abbrev pub prim_of : Primitive → List Literal → Option Gives
prim_of Add args = option_map (λ p. int_result (p.0 +ℤ p.1)) (ints_in args)
prim_of Sub args = option_map (λ p. int_result (p.0 -ℤ p.1)) (ints_in args)
prim_of Mul args = option_map (λ p. int_result (p.0 *ℤ p.1)) (ints_in args)
prim_of Cat args = option_map (λ p. joined p.0 p.1) (strings_in args)
prim_of Print args = None

abbrev pub IsShort : Literal → Type 0
IsShort (int z) = ⊤
IsShort (word n) = ⊤
IsShort (char n) = ⊤
IsShort (string s) = length s ≤ max_size
IsShort (truth b) = ⊤

-- no string among them has too many bytes
abbrev pub AreShort : List Literal → Type 0
AreShort = AllByRecursion IsShort

abbrev pub IsString : Literal → Type 0
IsString (int z) = ⊥
IsString (word n) = ⊥
IsString (char n) = ⊥
IsString (string s) = ⊤
IsString (truth b) = ⊥

abbrev pub GivesString : Gives → Type 0
GivesString (made l) = IsString l
GivesString (raised e) = ⊥

-- an answer is what the table gives; or want of memory, where that is a string
abbrev pub Meets : Applied → Gives → Type 0
Meets (Made v) g = g ≡ made (lit_of v)
Meets (Raises e) g = g ≡ raised e
Meets Memory g = GivesString g

-- the same of an answer that may be none, and a row that may not be there
abbrev pub MeetsRow : Option Applied → Option Gives → Type 0
MeetsRow None None = ⊤
MeetsRow None (Some g) = ⊥
MeetsRow (Some a) None = ⊥
MeetsRow (Some a) (Some g) = Meets a g
