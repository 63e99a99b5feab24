-- Rows of the table on values of the types that their primitives take.
use Rattle.std.proofs.Common.{◌≡◌, ℕ, zero, suc, Bool, true, false, ℤ, pos, negsuc, neg_ℤ, ◌+ℤ◌, ◌-ℤ◌, ◌*ℤ◌, int_lt, int_div, List, [], ◌∷◌, Option, Some, None, refl, sym, ap, subst, map, nat_eq, ◌∙◌}
use Rattle.std.specs.Prelude.{if◌then◌else◌, nat_le, length, ◌+◌, ◌++◌}
use Rattle.mlc_prims.specs.of_word_arithmetic.Arithmetic.{floor_div}
use Rattle.mlc_prims.specs.LitOf.{Literal, int, word, char, string, truth}
use Rattle.mlc_prims.specs.PrimOf.{Gives, made, raised, int_result, exact, fitting, joined, max_size}
use Rattle.mlc_prims.specs.Table.{row_of, unless_zero, unless_none, or_subscript, byte_at, bytes_from, character}
use Rattle.mlc_prims.specs.declared.basis.BasisPrimitive.{BasisPrimitive}
use Rattle.mlc_prims.specs.declared.basis.BasisPrimitive.TheVariants.{Add, Subtract, Multiply, Divide, Modulo, Negate, Absolute, Less, LessEqual, Greater, GreaterEqual, Equals, Assign, Quotient, Remainder, BitsAnd, BitsOr, BitsXor, BitsNot, ShiftLeft, ShiftRight, ShiftSigned, ToInt, ToIntSigned, FromInt, CharCode, CharOf, TextOf, SizeOf, CharAt, PartOf, Concat, StringOf, Print}
use Rattle.ty_core.specs.Types.{Typ, var, con, none, name, arrow, labels}
use Rattle.ty_core.specs.Marks.{IsOf, overloaded}
use Rattle.ty_basis.specs.Types.{int_type, word_type, char_type, string_type, bool_type, ref_type}
use Rattle.ty_basis.specs.Laws.{type_of, GivesType, RowsHaveTheirTypes}

abbrev Holds : Bool → Type 0
Holds true = Unit {0}
Holds false = ⊥

-- the number of a type's name
abbrev number_of : Typ → ℕ
number_of (var v) = 9
number_of (con arrow ts) = 9
number_of (con (labels ls) ts) = 9
number_of (con (name n) ts) = n.stamp

-- a value of another type isn't one of this
other : {A : Type 0} {t : Typ} (k : ℕ) → Holds (nat_eq (number_of t) k) → (u : Typ) → u ≡ t → (Holds (nat_eq (number_of u) k) → ⊥) → A
other k h u e not = absurd (not (subst (λ t. Holds (nat_eq (number_of t) k)) (sym e) h))

int-of : (l : Literal) → type_of l ≡ int_type → (z : ℤ) × (l ≡ int z)
int-of (int z) e = (z, refl)
int-of (word n) e = other 0 tt word_type e (λ x. x)
int-of (char n) e = other 0 tt char_type e (λ x. x)
int-of (string s) e = other 0 tt string_type e (λ x. x)
int-of (truth b) e = other 0 tt bool_type e (λ x. x)

word-of : (l : Literal) → type_of l ≡ word_type → (n : ℕ) × (l ≡ word n)
word-of (int z) e = other 1 tt int_type e (λ x. x)
word-of (word n) e = (n, refl)
word-of (char n) e = other 1 tt char_type e (λ x. x)
word-of (string s) e = other 1 tt string_type e (λ x. x)
word-of (truth b) e = other 1 tt bool_type e (λ x. x)

char-of : (l : Literal) → type_of l ≡ char_type → (n : ℕ) × (l ≡ char n)
char-of (int z) e = other 2 tt int_type e (λ x. x)
char-of (word n) e = other 2 tt word_type e (λ x. x)
char-of (char n) e = (n, refl)
char-of (string s) e = other 2 tt string_type e (λ x. x)
char-of (truth b) e = other 2 tt bool_type e (λ x. x)

string-of : (l : Literal) → type_of l ≡ string_type → (s : List ℕ) × (l ≡ string s)
string-of (int z) e = other 3 tt int_type e (λ x. x)
string-of (word n) e = other 3 tt word_type e (λ x. x)
string-of (char n) e = other 3 tt char_type e (λ x. x)
string-of (string s) e = (s, refl)
string-of (truth b) e = other 3 tt bool_type e (λ x. x)

truth-of : (l : Literal) → type_of l ≡ bool_type → (b : Bool) × (l ≡ truth b)
truth-of (int z) e = other 6 tt int_type e (λ x. x)
truth-of (word n) e = other 6 tt word_type e (λ x. x)
truth-of (char n) e = other 6 tt char_type e (λ x. x)
truth-of (string s) e = other 6 tt string_type e (λ x. x)
truth-of (truth b) e = (b, refl)

-- no value is a reference
no-reference : {A : Type 0} (l : Literal) (t : Typ) → type_of l ≡ ref_type t → A
no-reference (int z) t e = other 4 tt int_type e (λ x. x)
no-reference (word n) t e = other 4 tt word_type e (λ x. x)
no-reference (char n) t e = other 4 tt char_type e (λ x. x)
no-reference (string s) t e = other 4 tt string_type e (λ x. x)
no-reference (truth b) t e = other 4 tt bool_type e (λ x. x)

-- Lists of types, by their length

abbrev Long : ℕ → List Typ → Type 0
Long zero [] = Unit {0}
Long zero (t ∷ ts) = ⊥
Long (suc n) [] = ⊥
Long (suc n) (t ∷ ts) = Long n ts

abbrev nth : ℕ → List Typ → Typ
nth n [] = var 0
nth zero (t ∷ ts) = t
nth (suc n) (t ∷ ts) = nth n ts

module _ (P : List Literal → Type 0) {A B C : Type 0} (f : A → Literal) (g : B → Literal) (h : C → Literal) {t u w : Typ}
    (of-t : (l : Literal) → type_of l ≡ t → (a : A) × (l ≡ f a)) (of-u : (l : Literal) → type_of l ≡ u → (b : B) × (l ≡ g b)) (of-w : (l : Literal) → type_of l ≡ w → (c : C) × (l ≡ h c)) where
  one : ((a : A) → P (f a ∷ [])) → (ls : List Literal) → map type_of ls ≡ t ∷ [] → P ls
  one k [] e = absurd (subst (Long 1) (sym e) tt)
  one k (a ∷ []) e = let x = of-t a (ap (nth 0) e) in subst (λ a. P (a ∷ [])) (sym x.1) (k x.0)
  one k (a ∷ b ∷ ls) e = absurd (subst (Long 1) (sym e) tt)

  two : ((a : A) (b : B) → P (f a ∷ g b ∷ [])) → (ls : List Literal) → map type_of ls ≡ t ∷ u ∷ [] → P ls
  two k [] e = absurd (subst (Long 2) (sym e) tt)
  two k (a ∷ []) e = absurd (subst (Long 2) (sym e) tt)
  two k (a ∷ b ∷ []) e = let x = of-t a (ap (nth 0) e) in let y = of-u b (ap (nth 1) e) in subst (λ a. P (a ∷ b ∷ [])) (sym x.1) (subst (λ b. P (f x.0 ∷ b ∷ [])) (sym y.1) (k x.0 y.0))
  two k (a ∷ b ∷ c ∷ ls) e = absurd (subst (Long 2) (sym e) tt)

  three : ((a : A) (b : B) (c : C) → P (f a ∷ g b ∷ h c ∷ [])) → (ls : List Literal) → map type_of ls ≡ t ∷ u ∷ w ∷ [] → P ls
  three k [] e = absurd (subst (Long 3) (sym e) tt)
  three k (a ∷ []) e = absurd (subst (Long 3) (sym e) tt)
  three k (a ∷ b ∷ []) e = absurd (subst (Long 3) (sym e) tt)
  three k (a ∷ b ∷ c ∷ []) e =
      let x = of-t a (ap (nth 0) e) in let y = of-u b (ap (nth 1) e) in let z = of-w c (ap (nth 2) e) in
      subst (λ a. P (a ∷ b ∷ c ∷ [])) (sym x.1) (subst (λ b. P (f x.0 ∷ b ∷ c ∷ [])) (sym y.1) (subst (λ c. P (f x.0 ∷ g y.0 ∷ c ∷ [])) (sym z.1) (k x.0 y.0 z.0)))
  three k (a ∷ b ∷ c ∷ d ∷ ls) e = absurd (subst (Long 3) (sym e) tt)

-- What rows give

int-result : (z : ℤ) → GivesType int_type (Some (int_result z))
int-result z = by (fitting z)
  where
    by : (o : Option ℤ) → GivesType int_type (Some (exact o))
    by None = tt
    by (Some z) = refl

zero-or : (t : Typ) (z : ℤ) (g : Gives) → GivesType t (Some g) → GivesType t (Some (unless_zero z g))
zero-or t (pos n) g h = by (nat_eq n 0)
  where
    by : (b : Bool) → GivesType t (Some (if b then raised Rattle.mlc_prims.specs.declared.prim.PrimExn.TheVariants.Div else g))
    by true = tt
    by false = h
zero-or t (negsuc n) g h = h

none-or : (t : Typ) (n : ℕ) (g : Gives) → GivesType t (Some g) → GivesType t (Some (unless_none n g))
none-or t n g h = by (nat_eq n 0)
  where
    by : (b : Bool) → GivesType t (Some (if b then raised Rattle.mlc_prims.specs.declared.prim.PrimExn.TheVariants.Div else g))
    by true = tt
    by false = h

there-or : {A : Type 0} (t : Typ) (f : A → Literal) (o : Option A) → ((a : A) → type_of (f a) ≡ t) → GivesType t (Some (or_subscript f o))
there-or t f None h = tt
there-or t f (Some a) h = h a

character-or : (z : ℤ) → GivesType char_type (Some (character z))
character-or (pos n) = by (Rattle.std.specs.Prelude.nat_lt n 256)
  where
    by : (b : Bool) → GivesType char_type (Some (if b then made (char n) else raised Rattle.mlc_prims.specs.declared.prim.PrimExn.TheVariants.Chr))
    by true = refl
    by false = tt
character-or (negsuc n) = tt

joined-or : (s t : List ℕ) → GivesType string_type (Some (joined s t))
joined-or s t = by (nat_le (length s + length t) max_size)
  where
    by : (b : Bool) → GivesType string_type (Some (if b then made (string (s ++ t)) else raised Rattle.mlc_prims.specs.declared.prim.PrimExn.TheVariants.Size))
    by true = refl
    by false = tt

-- the overloaded types, one by one
by-class : (P : Typ → Type 0) {c : Rattle.ty_core.specs.declared.mark.Class.Class} (t : Typ) → IsOf c t → (Holds c.int → P int_type) → (Holds c.word → P word_type) → (Holds c.char → P char_type) → (Holds c.string → P string_type) → P t
by-class P {c} t i of-int of-word of-char of-string = subst P (sym i.is) (by i.number i.held)
  where
    by : (n : ℕ) → Rattle.ty_core.specs.Marks.has c n ≡ true → P (con (name (overloaded n)) none)
    by zero h = of-int (subst Holds (sym h) tt)
    by (suc zero) h = of-word (subst Holds (sym h) tt)
    by (suc (suc zero)) h = of-char (subst Holds (sym h) tt)
    by (suc (suc (suc zero))) h = of-string (subst Holds (sym h) tt)
    by (suc (suc (suc (suc n)))) h = absurd (subst Holds (sym h) tt)

-- a row for two values of one of the types
abbrev Row : BasisPrimitive → Typ → List Literal → Type 0
Row q r ls = GivesType r (row_of q ls)

arithmetic : (q : BasisPrimitive) (t : Typ) (ls : List Literal) → ((a b : ℤ) → Row q int_type (int a ∷ int b ∷ [])) → ((a b : ℕ) → Row q word_type (word a ∷ word b ∷ [])) → IsOf (record { int = true; word = true; char = false; string = false }) t →
    map type_of ls ≡ t ∷ t ∷ [] → Row q t ls
arithmetic q t ls k j i = by-class (λ t. map type_of ls ≡ t ∷ t ∷ [] → Row q t ls) t i
    (λ x. two (Row q int_type) int int int int-of int-of int-of k ls) (λ x. two (Row q word_type) word word word word-of word-of word-of j ls) (λ x. absurd x) (λ x. absurd x)

tests : (q : BasisPrimitive) (t : Typ) (ls : List Literal) → ((a b : ℤ) → Row q bool_type (int a ∷ int b ∷ [])) → ((a b : ℕ) → Row q bool_type (word a ∷ word b ∷ [])) → ((a b : ℕ) → Row q bool_type (char a ∷ char b ∷ [])) →
    ((a b : List ℕ) → Row q bool_type (string a ∷ string b ∷ [])) → IsOf (record { int = true; word = true; char = true; string = true }) t → map type_of ls ≡ t ∷ t ∷ [] → Row q bool_type ls
tests q t ls k j l m i = by-class (λ t. map type_of ls ≡ t ∷ t ∷ [] → Row q bool_type ls) t i
    (λ x. two (Row q bool_type) int int int int-of int-of int-of k ls) (λ x. two (Row q bool_type) word word word word-of word-of word-of j ls)
    (λ x. two (Row q bool_type) char char char char-of char-of char-of l ls) (λ x. two (Row q bool_type) string string string string-of string-of string-of m ls)

negates : (t : Typ) (ls : List Literal) → IsOf (record { int = true; word = true; char = false; string = false }) t → map type_of ls ≡ t ∷ [] → Row Negate t ls
negates t ls i = by-class (λ t. map type_of ls ≡ t ∷ [] → Row Negate t ls) t i
    (λ x. one (Row Negate int_type) int int int int-of int-of int-of (λ a. int-result (neg_ℤ a)) ls) (λ x. one (Row Negate word_type) word word word word-of word-of word-of (λ a. refl) ls) (λ x. absurd x) (λ x. absurd x)

-- two literals of one type, whatever it is
equals : (t : Typ) (ls : List Literal) → map type_of ls ≡ t ∷ t ∷ [] → Row Equals bool_type ls
equals t [] e = absurd (subst (Long 2) (sym e) tt)
equals t (a ∷ []) e = absurd (subst (Long 2) (sym e) tt)
equals t (int a ∷ b ∷ []) e = let x = int-of b (ap (nth 1) e ∙ sym (ap (nth 0) e)) in subst (λ b. Row Equals bool_type (int a ∷ b ∷ [])) (sym x.1) refl
equals t (word a ∷ b ∷ []) e = let x = word-of b (ap (nth 1) e ∙ sym (ap (nth 0) e)) in subst (λ b. Row Equals bool_type (word a ∷ b ∷ [])) (sym x.1) refl
equals t (char a ∷ b ∷ []) e = let x = char-of b (ap (nth 1) e ∙ sym (ap (nth 0) e)) in subst (λ b. Row Equals bool_type (char a ∷ b ∷ [])) (sym x.1) refl
equals t (string a ∷ b ∷ []) e = let x = string-of b (ap (nth 1) e ∙ sym (ap (nth 0) e)) in subst (λ b. Row Equals bool_type (string a ∷ b ∷ [])) (sym x.1) refl
equals t (truth a ∷ b ∷ []) e = let x = truth-of b (ap (nth 1) e ∙ sym (ap (nth 0) e)) in subst (λ b. Row Equals bool_type (truth a ∷ b ∷ [])) (sym x.1) refl
equals t (a ∷ b ∷ c ∷ ls) e = absurd (subst (Long 2) (sym e) tt)

assigns : (t : Typ) (ls : List Literal) {A : Type 0} → map type_of ls ≡ ref_type t ∷ t ∷ [] → A
assigns t [] e = absurd (subst (Long 2) (sym e) tt)
assigns t (a ∷ ls) e = no-reference a t (ap (nth 0) e)

pub rows-have-their-types : RowsHaveTheirTypes
rows-have-their-types Add t ls n i e = arithmetic Add t ls (λ a b. int-result (a +ℤ b)) (λ a b. refl) i e
rows-have-their-types Subtract t ls n i e = arithmetic Subtract t ls (λ a b. int-result (a -ℤ b)) (λ a b. refl) i e
rows-have-their-types Multiply t ls n i e = arithmetic Multiply t ls (λ a b. int-result (a *ℤ b)) (λ a b. refl) i e
rows-have-their-types Divide t ls n i e = arithmetic Divide t ls (λ a b. zero-or int_type b _ (int-result (floor_div a b))) (λ a b. none-or word_type b _ refl) i e
rows-have-their-types Modulo t ls n i e = arithmetic Modulo t ls (λ a b. zero-or int_type b _ refl) (λ a b. none-or word_type b _ refl) i e
rows-have-their-types Negate t ls n i e = negates t ls i e
rows-have-their-types Absolute t ls n i e = one (Row Absolute int_type) int int int int-of int-of int-of (λ a. int-result (if int_lt a (pos 0) then neg_ℤ a else a)) ls e
rows-have-their-types Less t ls n i e = tests Less t ls (λ a b. refl) (λ a b. refl) (λ a b. refl) (λ a b. refl) i e
rows-have-their-types LessEqual t ls n i e = tests LessEqual t ls (λ a b. refl) (λ a b. refl) (λ a b. refl) (λ a b. refl) i e
rows-have-their-types Greater t ls n i e = tests Greater t ls (λ a b. refl) (λ a b. refl) (λ a b. refl) (λ a b. refl) i e
rows-have-their-types GreaterEqual t ls n i e = tests GreaterEqual t ls (λ a b. refl) (λ a b. refl) (λ a b. refl) (λ a b. refl) i e
rows-have-their-types Equals t ls n i e = equals t ls e
rows-have-their-types Assign t ls n i e = assigns t ls e
rows-have-their-types Quotient t ls n i e = two (Row Quotient int_type) int int int int-of int-of int-of (λ a b. zero-or int_type b _ (int-result (int_div a b))) ls e
rows-have-their-types Remainder t ls n i e = two (Row Remainder int_type) int int int int-of int-of int-of (λ a b. zero-or int_type b _ refl) ls e
rows-have-their-types BitsAnd t ls n i e = two (Row BitsAnd word_type) word word word word-of word-of word-of (λ a b. refl) ls e
rows-have-their-types BitsOr t ls n i e = two (Row BitsOr word_type) word word word word-of word-of word-of (λ a b. refl) ls e
rows-have-their-types BitsXor t ls n i e = two (Row BitsXor word_type) word word word word-of word-of word-of (λ a b. refl) ls e
rows-have-their-types BitsNot t ls n i e = one (Row BitsNot word_type) word word word word-of word-of word-of (λ a. refl) ls e
rows-have-their-types ShiftLeft t ls n i e = two (Row ShiftLeft word_type) word word word word-of word-of word-of (λ a b. refl) ls e
rows-have-their-types ShiftRight t ls n i e = two (Row ShiftRight word_type) word word word word-of word-of word-of (λ a b. refl) ls e
rows-have-their-types ShiftSigned t ls n i e = two (Row ShiftSigned word_type) word word word word-of word-of word-of (λ a b. refl) ls e
rows-have-their-types ToInt t ls n i e = one (Row ToInt int_type) word word word word-of word-of word-of (λ a. int-result (pos a)) ls e
rows-have-their-types ToIntSigned t ls n i e = one (Row ToIntSigned int_type) word word word word-of word-of word-of (λ a. refl) ls e
rows-have-their-types FromInt t ls n i e = one (Row FromInt word_type) int int int int-of int-of int-of (λ a. refl) ls e
rows-have-their-types CharCode t ls n i e = one (Row CharCode int_type) char char char char-of char-of char-of (λ a. refl) ls e
rows-have-their-types CharOf t ls n i e = one (Row CharOf char_type) int int int int-of int-of int-of (λ a. character-or a) ls e
rows-have-their-types TextOf t ls n i e = one (Row TextOf string_type) int int int int-of int-of int-of (λ a. refl) ls e
rows-have-their-types SizeOf t ls n i e = one (Row SizeOf int_type) string string string string-of string-of string-of (λ a. refl) ls e
rows-have-their-types CharAt t ls n i e = two (Row CharAt char_type) string int int string-of int-of int-of (λ s a. there-or char_type char (byte_at s a) (λ x. refl)) ls e
rows-have-their-types PartOf t ls n i e = three (Row PartOf string_type) string int int string-of int-of int-of (λ s a b. there-or string_type string (bytes_from s a b) (λ x. refl)) ls e
rows-have-their-types Concat t ls n i e = two (Row Concat string_type) string string string string-of string-of string-of (λ s u. joined-or s u) ls e
rows-have-their-types StringOf t ls n i e = one (Row StringOf string_type) char char char char-of char-of char-of (λ a. refl) ls e
rows-have-their-types Print t ls n i e = absurd (n refl)
