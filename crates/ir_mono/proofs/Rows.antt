-- Each primitive of the table has a row for constants of its types, and gives one of its result's type or raises.
use Rattle.std.proofs.Common.{◌≡◌, ℕ, zero, suc, Bool, true, false, List, [], ◌∷◌, Option, Some, None, if◌then◌else◌, refl, ℤ, pos, negsuc}
use Rattle.std.specs.Prelude.{◌==◌, ◌+ℤ◌, ◌-ℤ◌, ◌*ℤ◌, neg_ℤ, int_lt, int_div, nat_lt}
use Rattle.word_arithmetic.specs.Arithmetic.{floor_div}
use Rattle.ir_poly.specs.of_mlc_prims.LitOf.{Literal, int, word, char, string, truth}
use Rattle.ir_poly.specs.of_mlc_prims.PrimOf.{Gives, made, raised, exact, int_result, fits_int, joined}
use Rattle.ir_poly.specs.of_mlc_prims.Table.{row_of, unless_zero, unless_none, or_subscript, character, byte_at, bytes_from}
use Rattle.ir_poly.specs.of_mlc_prims.declared.prim.PrimExn.{PrimExn}
use Rattle.ir_poly.specs.of_mlc_prims.declared.basis.BasisPrimitive.{BasisPrimitive}
use Rattle.ir_poly.specs.of_mlc_prims.declared.basis.BasisPrimitive.TheVariants.{Add, Subtract, Multiply, Divide, Modulo, Negate, Absolute, Less, LessEqual, Greater, GreaterEqual, Equals, Assign, Quotient, Remainder, BitsAnd, BitsOr, BitsXor, BitsNot, ShiftLeft, ShiftRight, ShiftSigned, ToInt, ToIntSigned, FromInt, CharCode, CharOf, TextOf, SizeOf, CharAt, PartOf, Concat, StringOf, Print}
use Rattle.ir_poly.specs.of_ty_core.Types.{Typ, var, name}
use Rattle.ir_poly.specs.of_ty_core.Marks.{has, overloaded}
use Rattle.ir_poly.specs.of_ty_core.declared.mark.Class.{Class}
use Rattle.ir_poly.specs.of_ir_values.Primitives.{sort_of, computes}
use Rattle.ir_poly.specs.Types.{of_name, bool_name, prim_type}
use Rattle.ir_mono.specs.Types.{Row, Is}
use Rattle.ir_mono.specs.Typing.{IsOf, Allows}

-- the types of constants
pub data Base : Type 0 where
  integers : Base
  words : Base
  characters : Base
  strings : Base

abbrev pub number_of : Base → ℕ
number_of integers = 0
number_of words = 1
number_of characters = 2
number_of strings = 3

pub data IsBase : Base → Literal → Type 0 where
  is_int : (z : ℤ) → IsBase integers (int z)
  is_word : (n : ℕ) → IsBase words (word n)
  is_char : (n : ℕ) → IsBase characters (char n)
  is_string : (s : List ℕ) → IsBase strings (string s)

pub data AllBase : List Base → List Literal → Type 0 where
  all_none : AllBase [] []
  all_more : {b : Base} {bs : List Base} {l : Literal} {ls : List Literal} → IsBase b l → AllBase bs ls → AllBase (b ∷ bs) (l ∷ ls)

-- a type that is the parameter, which stands for one of the types of constants, or one of these
pub data Shape (o : Option Base) : Base → Typ → Type 0 where
  the_parameter : {b : Base} {v : ℕ} → o ≡ Some b → Shape o b (var v)
  the_base : (b : Base) → Shape o b (of_name (overloaded (number_of b)))

pub data Shapes (o : Option Base) : List Base → List Typ → Type 0 where
  shapes_none : Shapes o [] []
  shapes_more : {b : Base} {bs : List Base} {t : Typ} {ts : List Typ} → Shape o b t → Shapes o bs ts → Shapes o (b ∷ bs) (t ∷ ts)

pub data Result (o : Option Base) : Option Base → Typ → Type 0 where
  a_constant : {b : Base} {t : Typ} → Shape o b t → Result o (Some b) t
  a_truth : Result o None (of_name bool_name)

-- what is given: a constant of the type, or a truth value where there is none; or an exception is raised
pub data GivesTyped : Option Base → Gives → Type 0 where
  made_constant : {b : Base} {l : Literal} → IsBase b l → GivesTyped (Some b) (made l)
  made_truth : (b : Bool) → GivesTyped None (made (truth b))
  was_raised : {k : Option Base} (e : PrimExn) → GivesTyped k (raised e)

pub data RowGives (k : Option Base) : Option Gives → Type 0 where
  row_gives : {g : Gives} → GivesTyped k g → RowGives k (Some g)

if-typed : (b : Bool) {k : Option Base} {g h : Gives} → GivesTyped k g → GivesTyped k h → GivesTyped k (if b then g else h)
if-typed true p q = p
if-typed false p q = q

result-typed : (z : ℤ) → GivesTyped (Some integers) (int_result z)
result-typed z = go (fits_int z)
  where
    go : (b : Bool) → GivesTyped (Some integers) (exact (if b then Some z else None))
    go true = made_constant (is_int z)
    go false = was_raised _

zero-typed : (b : ℤ) {k : Option Base} {g : Gives} → GivesTyped k g → GivesTyped k (unless_zero b g)
zero-typed (pos n) h = if-typed (n == 0) (was_raised _) h
zero-typed (negsuc n) h = h

none-typed : (n : ℕ) {k : Option Base} {g : Gives} → GivesTyped k g → GivesTyped k (unless_none n g)
none-typed n h = if-typed (n == 0) (was_raised _) h

character-typed : (z : ℤ) → GivesTyped (Some characters) (character z)
character-typed (pos n) = if-typed (nat_lt n 256) (made_constant (is_char n)) (was_raised _)
character-typed (negsuc n) = was_raised _

char-at-typed : (o : Option ℕ) → GivesTyped (Some characters) (or_subscript char o)
char-at-typed None = was_raised _
char-at-typed (Some c) = made_constant (is_char c)

part-typed : (o : Option (List ℕ)) → GivesTyped (Some strings) (or_subscript string o)
part-typed None = was_raised _
part-typed (Some s) = made_constant (is_string s)

joined-typed : (s t : List ℕ) → GivesTyped (Some strings) (joined s t)
joined-typed s t = if-typed _ (made_constant (is_string _)) (was_raised _)

-- arguments of these types
module _ (f : List Literal → Option Gives) {k : Option Base} where
  one-int : ((a : ℤ) → RowGives k (f (int a ∷ []))) → {ls : List Literal} → AllBase (integers ∷ []) ls → RowGives k (f ls)
  one-int h (all_more (is_int a) all_none) = h a

  one-word : ((a : ℕ) → RowGives k (f (word a ∷ []))) → {ls : List Literal} → AllBase (words ∷ []) ls → RowGives k (f ls)
  one-word h (all_more (is_word a) all_none) = h a

  one-char : ((a : ℕ) → RowGives k (f (char a ∷ []))) → {ls : List Literal} → AllBase (characters ∷ []) ls → RowGives k (f ls)
  one-char h (all_more (is_char a) all_none) = h a

  one-string : ((a : List ℕ) → RowGives k (f (string a ∷ []))) → {ls : List Literal} → AllBase (strings ∷ []) ls → RowGives k (f ls)
  one-string h (all_more (is_string a) all_none) = h a

  two-ints : ((a b : ℤ) → RowGives k (f (int a ∷ int b ∷ []))) → {ls : List Literal} → AllBase (integers ∷ integers ∷ []) ls → RowGives k (f ls)
  two-ints h (all_more (is_int a) (all_more (is_int b) all_none)) = h a b

  two-words : ((a b : ℕ) → RowGives k (f (word a ∷ word b ∷ []))) → {ls : List Literal} → AllBase (words ∷ words ∷ []) ls → RowGives k (f ls)
  two-words h (all_more (is_word a) (all_more (is_word b) all_none)) = h a b

  two-chars : ((a b : ℕ) → RowGives k (f (char a ∷ char b ∷ []))) → {ls : List Literal} → AllBase (characters ∷ characters ∷ []) ls → RowGives k (f ls)
  two-chars h (all_more (is_char a) (all_more (is_char b) all_none)) = h a b

  two-strings : ((a b : List ℕ) → RowGives k (f (string a ∷ string b ∷ []))) → {ls : List Literal} → AllBase (strings ∷ strings ∷ []) ls → RowGives k (f ls)
  two-strings h (all_more (is_string a) (all_more (is_string b) all_none)) = h a b

  string-int : ((s : List ℕ) (a : ℤ) → RowGives k (f (string s ∷ int a ∷ []))) → {ls : List Literal} → AllBase (strings ∷ integers ∷ []) ls → RowGives k (f ls)
  string-int h (all_more (is_string s) (all_more (is_int a) all_none)) = h s a

  string-ints : ((s : List ℕ) (a b : ℤ) → RowGives k (f (string s ∷ int a ∷ int b ∷ []))) → {ls : List Literal} → AllBase (strings ∷ integers ∷ integers ∷ []) ls → RowGives k (f ls)
  string-ints h (all_more (is_string s) (all_more (is_int a) (all_more (is_int b) all_none))) = h s a b

-- a primitive's row, where its parameter stands for this type of constants
pub record HasRow (p : BasisPrimitive) (o : Option Base) : Type 0 where
  pub bases : List Base
  pub arguments : Shapes o bases (prim_type p).arguments
  pub kind : Option Base
  pub result : Result o kind (prim_type p).result
  pub row : {ls : List Literal} → AllBase bases ls → RowGives kind (row_of p ls)

abbrev number_class : Class
number_class = record { int = true; word = true; char = false; string = false }

abbrev ordered_class : Class
ordered_class = record { int = true; word = true; char = true; string = true }

module _ (types : List Row) where
  -- what the parameter stands for
  pub data ParameterIs (u : ℕ) : Option Base → Type 0 where
    any_type : ParameterIs u None
    a_base : (b : Base) → Is types u (name (overloaded (number_of b))) [] → ParameterIs u (Some b)

  pub record Performs (p : BasisPrimitive) (u : ℕ) : Type 0 where
    pub parameter : Option Base
    pub is : ParameterIs u parameter
    pub has_row : HasRow p parameter

  at-number : {p : BasisPrimitive} {u : ℕ} → IsOf types number_class u → HasRow p (Some integers) → HasRow p (Some words) → Performs p u
  at-number {p} {u} h i w = go h.number h.is h.held
    where
      go : (n : ℕ) → Is types u (name (overloaded n)) [] → has number_class n ≡ true → Performs p u
      go zero e k = record { parameter = Some integers; is = a_base integers e; has_row = i }
      go (suc zero) e k = record { parameter = Some words; is = a_base words e; has_row = w }
      go (suc (suc zero)) e k = absurd (cc)
      go (suc (suc (suc zero))) e k = absurd (cc)
      go (suc (suc (suc (suc n)))) e k = absurd (cc)

  at-ordered : {p : BasisPrimitive} {u : ℕ} → IsOf types ordered_class u → HasRow p (Some integers) → HasRow p (Some words) → HasRow p (Some characters) → HasRow p (Some strings) → Performs p u
  at-ordered {p} {u} h i w c s = go h.number h.is h.held
    where
      go : (n : ℕ) → Is types u (name (overloaded n)) [] → has ordered_class n ≡ true → Performs p u
      go zero e k = record { parameter = Some integers; is = a_base integers e; has_row = i }
      go (suc zero) e k = record { parameter = Some words; is = a_base words e; has_row = w }
      go (suc (suc zero)) e k = record { parameter = Some characters; is = a_base characters e; has_row = c }
      go (suc (suc (suc zero))) e k = record { parameter = Some strings; is = a_base strings e; has_row = s }
      go (suc (suc (suc (suc n)))) e k = absurd (cc)

  plain : {p : BasisPrimitive} {u : ℕ} → HasRow p None → Performs p u
  plain h = record { parameter = None; is = any_type; has_row = h }

  abbrev one : {o : Option Base} {b : Base} {t : Typ} → Shape o b t → Shapes o (b ∷ []) (t ∷ [])
  one s = shapes_more s shapes_none

  abbrev two : {o : Option Base} {b c : Base} {t u : Typ} → Shape o b t → Shape o c u → Shapes o (b ∷ c ∷ []) (t ∷ u ∷ [])
  two s r = shapes_more s (one r)

  abbrev the : {b : Base} {v : ℕ} → Shape (Some b) b (var v)
  the = the_parameter refl

  ints-binary : (p : BasisPrimitive) → (prim_type p ≡ prim_type Add) → ((a b : ℤ) → RowGives (Some integers) (row_of p (int a ∷ int b ∷ []))) → HasRow p (Some integers)
  ints-binary p e h = record { bases = integers ∷ integers ∷ []; arguments = rw e (two the the); kind = Some integers; result = rw e (a_constant the); row = two-ints (row_of p) h }

  words-binary : (p : BasisPrimitive) → (prim_type p ≡ prim_type Add) → ((a b : ℕ) → RowGives (Some words) (row_of p (word a ∷ word b ∷ []))) → HasRow p (Some words)
  words-binary p e h = record { bases = words ∷ words ∷ []; arguments = rw e (two the the); kind = Some words; result = rw e (a_constant the); row = two-words (row_of p) h }

  compares : (p : BasisPrimitive) {u : ℕ} → (prim_type p ≡ prim_type Less) → ((a b : ℤ) → RowGives None (row_of p (int a ∷ int b ∷ []))) → ((a b : ℕ) → RowGives None (row_of p (word a ∷ word b ∷ []))) → ((a b : ℕ) → RowGives None (row_of p (char a ∷ char b ∷ [])))
      → ((a b : List ℕ) → RowGives None (row_of p (string a ∷ string b ∷ []))) → IsOf types ordered_class u → Performs p u
  compares p e i w c s h =
      at-ordered h (record { bases = integers ∷ integers ∷ []; arguments = rw e (two the the); kind = None; result = rw e a_truth; row = two-ints (row_of p) i })
      (record { bases = words ∷ words ∷ []; arguments = rw e (two the the); kind = None; result = rw e a_truth; row = two-words (row_of p) w })
      (record { bases = characters ∷ characters ∷ []; arguments = rw e (two the the); kind = None; result = rw e a_truth; row = two-chars (row_of p) c })
      (record { bases = strings ∷ strings ∷ []; arguments = rw e (two the the); kind = None; result = rw e a_truth; row = two-strings (row_of p) s })

  abbrev number : {z : ℤ} → RowGives (Some integers) (Some (made (int z)))
  number {z} = row_gives (made_constant (is_int z))

  abbrev a_word : {n : ℕ} → RowGives (Some words) (Some (made (word n)))
  a_word {n} = row_gives (made_constant (is_word n))

  abbrev says : {b : Bool} → RowGives None (Some (made (truth b)))
  says {b} = row_gives (made_truth b)

  words-plain : (p : BasisPrimitive) → (prim_type p ≡ prim_type BitsAnd) → ((a b : ℕ) → RowGives (Some words) (row_of p (word a ∷ word b ∷ []))) → HasRow p None
  words-plain p e h = record { bases = words ∷ words ∷ []; arguments = rw e (two (the_base words) (the_base words)); kind = Some words; result = rw e (a_constant (the_base words)); row = two-words (row_of p) h }

  ints-plain : (p : BasisPrimitive) → (prim_type p ≡ prim_type Quotient) → ((a b : ℤ) → RowGives (Some integers) (row_of p (int a ∷ int b ∷ []))) → HasRow p None
  ints-plain p e h = record { bases = integers ∷ integers ∷ []; arguments = rw e (two (the_base integers) (the_base integers)); kind = Some integers; result = rw e (a_constant (the_base integers)); row = two-ints (row_of p) h }

  pub performs : (p : BasisPrimitive) → sort_of p ≡ computes → {u : ℕ} → Allows types (prim_type p).mark u → Performs p u
  performs Add e h = at-number h (ints-binary Add refl (λ a b. row_gives (result-typed (a +ℤ b)))) (words-binary Add refl (λ a b. a_word))
  performs Subtract e h = at-number h (ints-binary Subtract refl (λ a b. row_gives (result-typed (a -ℤ b)))) (words-binary Subtract refl (λ a b. a_word))
  performs Multiply e h = at-number h (ints-binary Multiply refl (λ a b. row_gives (result-typed (a *ℤ b)))) (words-binary Multiply refl (λ a b. a_word))
  performs Divide e h = at-number h (ints-binary Divide refl (λ a b. row_gives (zero-typed b (result-typed (floor_div a b))))) (words-binary Divide refl (λ a b. row_gives (none-typed b (made_constant (is_word _)))))
  performs Modulo e h = at-number h (ints-binary Modulo refl (λ a b. row_gives (zero-typed b (made_constant (is_int _))))) (words-binary Modulo refl (λ a b. row_gives (none-typed b (made_constant (is_word _)))))
  performs Negate e h =
      at-number h (record { bases = integers ∷ []; arguments = one the; kind = Some integers; result = a_constant the; row = one-int (row_of Negate) (λ a. row_gives (result-typed (neg_ℤ a))) })
      (record { bases = words ∷ []; arguments = one the; kind = Some words; result = a_constant the; row = one-word (row_of Negate) (λ a. a_word) })
  performs Absolute e h = plain (record { bases = integers ∷ []; arguments = one (the_base integers); kind = Some integers; result = a_constant (the_base integers); row = one-int (row_of Absolute) (λ a. row_gives (result-typed (if int_lt a (pos 0) then neg_ℤ a else a))) })
  performs Less e h = compares Less refl (λ a b. says) (λ a b. says) (λ a b. says) (λ a b. says) h
  performs LessEqual e h = compares LessEqual refl (λ a b. says) (λ a b. says) (λ a b. says) (λ a b. says) h
  performs Greater e h = compares Greater refl (λ a b. says) (λ a b. says) (λ a b. says) (λ a b. says) h
  performs GreaterEqual e h = compares GreaterEqual refl (λ a b. says) (λ a b. says) (λ a b. says) (λ a b. says) h
  performs Equals e h = absurd (cc)
  performs Assign e h = absurd (cc)
  performs Print e h = absurd (cc)
  performs Quotient e h = plain (ints-plain Quotient refl (λ a b. row_gives (zero-typed b (result-typed (int_div a b)))))
  performs Remainder e h = plain (ints-plain Remainder refl (λ a b. row_gives (zero-typed b (made_constant (is_int _)))))
  performs BitsAnd e h = plain (words-plain BitsAnd refl (λ a b. a_word))
  performs BitsOr e h = plain (words-plain BitsOr refl (λ a b. a_word))
  performs BitsXor e h = plain (words-plain BitsXor refl (λ a b. a_word))
  performs BitsNot e h = plain (record { bases = words ∷ []; arguments = one (the_base words); kind = Some words; result = a_constant (the_base words); row = one-word (row_of BitsNot) (λ a. a_word) })
  performs ShiftLeft e h = plain (words-plain ShiftLeft refl (λ a b. a_word))
  performs ShiftRight e h = plain (words-plain ShiftRight refl (λ a b. a_word))
  performs ShiftSigned e h = plain (words-plain ShiftSigned refl (λ a b. a_word))
  performs ToInt e h = plain (record { bases = words ∷ []; arguments = one (the_base words); kind = Some integers; result = a_constant (the_base integers); row = one-word (row_of ToInt) (λ a. row_gives (result-typed (pos a))) })
  performs ToIntSigned e h = plain (record { bases = words ∷ []; arguments = one (the_base words); kind = Some integers; result = a_constant (the_base integers); row = one-word (row_of ToIntSigned) (λ a. number) })
  performs FromInt e h = plain (record { bases = integers ∷ []; arguments = one (the_base integers); kind = Some words; result = a_constant (the_base words); row = one-int (row_of FromInt) (λ a. a_word) })
  performs CharCode e h = plain (record { bases = characters ∷ []; arguments = one (the_base characters); kind = Some integers; result = a_constant (the_base integers); row = one-char (row_of CharCode) (λ a. number) })
  performs CharOf e h = plain (record { bases = integers ∷ []; arguments = one (the_base integers); kind = Some characters; result = a_constant (the_base characters); row = one-int (row_of CharOf) (λ a. row_gives (character-typed a)) })
  performs TextOf e h = plain (record { bases = integers ∷ []; arguments = one (the_base integers); kind = Some strings; result = a_constant (the_base strings); row = one-int (row_of TextOf) (λ a. row_gives (made_constant (is_string _))) })
  performs SizeOf e h = plain (record { bases = strings ∷ []; arguments = one (the_base strings); kind = Some integers; result = a_constant (the_base integers); row = one-string (row_of SizeOf) (λ a. number) })
  performs CharAt e h =
      plain (record { bases = strings ∷ integers ∷ []; arguments = two (the_base strings) (the_base integers); kind = Some characters; result = a_constant (the_base characters); row = string-int (row_of CharAt) (λ s i. row_gives (char-at-typed (byte_at s i))) })
  performs PartOf e h =
      plain (record {
        bases = strings ∷ integers ∷ integers ∷ [];
        arguments = shapes_more (the_base strings) (two (the_base integers) (the_base integers));
        kind = Some strings;
        result = a_constant (the_base strings);
        row = string-ints (row_of PartOf) (λ s i n. row_gives (part-typed (bytes_from s i n)));
      })
  performs Concat e h =
      plain (record { bases = strings ∷ strings ∷ []; arguments = two (the_base strings) (the_base strings); kind = Some strings; result = a_constant (the_base strings); row = two-strings (row_of Concat) (λ s t. row_gives (joined-typed s t)) })
  performs StringOf e h = plain (record { bases = characters ∷ []; arguments = one (the_base characters); kind = Some strings; result = a_constant (the_base strings); row = one-char (row_of StringOf) (λ a. row_gives (made_constant (is_string _))) })
