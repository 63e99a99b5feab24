-- Every row of the table, and every test.
use Rattle.std.proofs.Common.{◌≡◌, ℕ, ◌+◌, ◌-◌, ◌*◌, ◌/◌, ◌%◌, ◌^◌, List, [], ◌∷◌, ◌++◌, length, Option, Some, None, Bool, true, false, refl}
use Rattle.std.specs.Prelude.{ℤ, pos, negsuc, neg_ℤ, ◌+ℤ◌, ◌-ℤ◌, ◌*ℤ◌, int_lt, int_div, int_rem, bit_and, bit_or, bit_xor, nat_lt, nat_le, option_map, if◌then◌else◌, ◌==◌}
use Rattle.std.specs.Option.{option_or}
use Rattle.std.specs.Int.{w32, cast_signed, cast_unsigned}
use Rattle.word_arithmetic.specs.Arithmetic.{word_for, floor_div, floor_mod, shift_left, shift_right, shift_signed, signed_text}
use Rattle.mlc_prims.specs.LitOf.{Literal, int, word, char, string, truth, int_in, word_in, char_in, string_in, both, two_in, one_in}
use Rattle.mlc_prims.specs.PrimOf.{Gives, made, raised, fits_int, exact, int_result, joined, max_size}
use Rattle.mlc_prims.specs.Table.{one, two, numbers, row_of, wrapped, unless_zero, unless_none, character, or_subscript, string_place, string_part, byte_at, bytes_from}
use Rattle.mlc_prims.specs.declared.basis.BasisPrimitive.{BasisPrimitive}
use Rattle.mlc_prims.specs.declared.basis.BasisPrimitive.TheVariants.{Add, Subtract, Multiply, Divide, Modulo, Negate, Absolute, Less, LessEqual, Greater, GreaterEqual, Equals, Assign, Quotient, Remainder, BitsAnd, BitsOr, BitsXor, BitsNot, ShiftLeft, ShiftRight, ShiftSigned, ToInt, ToIntSigned, FromInt, CharCode, CharOf, TextOf, SizeOf, CharAt, PartOf, Concat, StringOf, Print}
use Rattle.mlc_prims.specs.declared.prim.PrimExn.TheVariants.{Div, Chr, Size}
use Rattle.first_values.specs.Operations.{Operands, ints, words, chars, texts, is_at, row_at}
use Rattle.machine_primitives.specs.of_machine_code.Rows.{AreRight}
use Rattle.machine_primitives.specs.RowLaws.{LateIsRight, RowIsRight, TestIsRight}
use Rattle.machine_primitives.specs.Laws.{SumsAreRight, WordQuotientsAreRight, IntRowsAreRight, DivisionsAreRight, BitsAreRight, ConversionsAreRight, TruthsAreRight, LimitsAreRight, SizesAreRight, ContrariesAreRight, ComparisonsAreRight, TextOrdersAreRight, TextsAreRight}
use Rattle.machine_rows.specs.Table.{int_row, word_row, char_row, text_row, int_test, word_test, text_test, no_row, no_test, rows}

-- Primitives that take no such operands.

absent : (k : Operands) (p : BasisPrimitive) → ((l : Literal) (ls : List Literal) → is_at k l ≡ true → row_of p (l ∷ ls) ≡ None) → (ls : List Literal) (g : Gives) → row_at k p ls ≡ Some g → ⊥
absent k p none [] g e = absurd (cc)
absent k p none (l ∷ ls) g e = by (is_at k l) refl e
  where
    by : (b : Bool) → is_at k l ≡ b → (if b then row_of p (l ∷ ls) else None) ≡ Some g → ⊥
    by true q h = let n : row_of p (l ∷ ls) ≡ None = none l ls q in absurd (cc)
    by false q h = absurd (cc)

absent_row : (k : Operands) (p : BasisPrimitive) → ((l : Literal) (ls : List Literal) → is_at k l ≡ true → row_of p (l ∷ ls) ≡ None) → RowIsRight k p 0 no_row.code
absent_row k p none = record {
  long = λ packets pc d other xs. refl;
  does = λ code f lay front above mem free ready xs ls g hold row packets are pc other has. absurd (absent k p none ls g row);
}

absent_int : (p : BasisPrimitive) → ((z : ℤ) (ls : List Literal) → row_of p (int z ∷ ls) ≡ None) → RowIsRight ints p 0 no_row.code
absent_int p none = absent_row ints p by
  where
    by : (l : Literal) (ls : List Literal) → is_at ints l ≡ true → row_of p (l ∷ ls) ≡ None
    by (int z) ls e = none z ls
    by (word n) ls e = absurd (cc)
    by (char n) ls e = absurd (cc)
    by (string s) ls e = absurd (cc)
    by (truth b) ls e = absurd (cc)

absent_word : (p : BasisPrimitive) → ((n : ℕ) (ls : List Literal) → row_of p (word n ∷ ls) ≡ None) → RowIsRight words p 0 no_row.code
absent_word p none = absent_row words p by
  where
    by : (l : Literal) (ls : List Literal) → is_at words l ≡ true → row_of p (l ∷ ls) ≡ None
    by (int z) ls e = absurd (cc)
    by (word n) ls e = none n ls
    by (char n) ls e = absurd (cc)
    by (string s) ls e = absurd (cc)
    by (truth b) ls e = absurd (cc)

absent_char : (p : BasisPrimitive) → ((n : ℕ) (ls : List Literal) → row_of p (char n ∷ ls) ≡ None) → RowIsRight chars p 0 no_row.code
absent_char p none = absent_row chars p by
  where
    by : (l : Literal) (ls : List Literal) → is_at chars l ≡ true → row_of p (l ∷ ls) ≡ None
    by (int z) ls e = absurd (cc)
    by (word n) ls e = absurd (cc)
    by (char n) ls e = none n ls
    by (string s) ls e = absurd (cc)
    by (truth b) ls e = absurd (cc)

absent_text : (p : BasisPrimitive) → ((s : List ℕ) (ls : List Literal) → row_of p (string s ∷ ls) ≡ None) → RowIsRight texts p 0 no_row.code
absent_text p none = absent_row texts p by
  where
    by : (l : Literal) (ls : List Literal) → is_at texts l ≡ true → row_of p (l ∷ ls) ≡ None
    by (int z) ls e = absurd (cc)
    by (word n) ls e = absurd (cc)
    by (char n) ls e = absurd (cc)
    by (string s) ls e = none s ls
    by (truth b) ls e = absurd (cc)

mapped_none : {A : Type 0} (f : A → Gives) (o : Option A) → o ≡ None → option_map f o ≡ None
mapped_none f None e = refl
mapped_none f (Some a) e = absurd (cc)

both_none : {A : Type 0} (o q : Option A) → o ≡ None → both o q ≡ None
both_none None q e = refl
both_none (Some a) q e = absurd (cc)

-- the first operand is of another kind
one_none : {A : Type 0} (kind : Literal → Option A) (f : A → Gives) (l : Literal) (ls : List Literal) → kind l ≡ None → one kind f (l ∷ ls) ≡ None
one_none kind f l [] e = mapped_none f (kind l) e
one_none kind f l (k ∷ ls) e = refl

two_none : {A : Type 0} (kind : Literal → Option A) (f : A → A → Gives) (l : Literal) (ls : List Literal) → kind l ≡ None → two kind f (l ∷ ls) ≡ None
two_none kind f l [] e = refl
two_none kind f l (k ∷ []) e = mapped_none (λ p. f p.0 p.1) (both (kind l) (kind k)) (both_none (kind l) (kind k) e)
two_none kind f l (k ∷ m ∷ ls) e = refl

or_none : {a b : Option Gives} → a ≡ None → b ≡ None → option_or a b ≡ None
or_none {a = None} e h = h
or_none {a = Some g} e h = absurd (cc)

numbers_none : (f : ℤ → ℤ → Gives) (g : ℕ → ℕ → Gives) (l : Literal) (ls : List Literal) → int_in l ≡ None → word_in l ≡ None → numbers f g (l ∷ ls) ≡ None
numbers_none f g l ls e h = or_none (two_none int_in f l ls e) (two_none word_in g l ls h)

-- Primitives that give no truth value.

abbrev NoTruth : Gives → Type 0
NoTruth g = (b : Bool) → g ≡ made (truth b) → ⊥

abbrev Other : Option Gives → Type 0
Other o = (b : Bool) → o ≡ Some (made (truth b)) → ⊥

mapped_other : {A : Type 0} (f : A → Gives) → ((a : A) → NoTruth (f a)) → (o : Option A) → Other (option_map f o)
mapped_other f never None b e = absurd (cc)
mapped_other f never (Some a) b e = let q : f a ≡ made (truth b) = cc in never a b q

or_other : (a c : Option Gives) → Other a → Other c → Other (option_or a c)
or_other None c h k = k
or_other (Some g) c h k = h

word_made : (n : ℕ) → NoTruth (made (word n))
word_made n b e = absurd (cc)

int_made : (z : ℤ) → NoTruth (made (int z))
int_made z b e = absurd (cc)

text_made : (s : List ℕ) → NoTruth (made (string s))
text_made s b e = absurd (cc)

int_other : (z : ℤ) → NoTruth (int_result z)
int_other z b e = by (fits_int z) e
  where
    by : (c : Bool) → exact (if c then Some z else None) ≡ made (truth b) → ⊥
    by true h = absurd (cc)
    by false h = absurd (cc)

zero_other : (d : ℤ) (g : Gives) → NoTruth g → NoTruth (unless_zero d g)
zero_other (pos n) g never b e = by (n == 0) e
  where
    by : (c : Bool) → (if c then raised Div else g) ≡ made (truth b) → ⊥
    by true h = absurd (cc)
    by false h = never b h
zero_other (negsuc n) g never b e = never b e

none_other : (n : ℕ) (g : Gives) → NoTruth g → NoTruth (unless_none n g)
none_other n g never b e = by (n == 0) e
  where
    by : (c : Bool) → (if c then raised Div else g) ≡ made (truth b) → ⊥
    by true h = absurd (cc)
    by false h = never b h

character_other : (z : ℤ) → NoTruth (character z)
character_other (pos n) b e = by (nat_lt n 256) e
  where
    by : (c : Bool) → (if c then made (char n) else raised Chr) ≡ made (truth b) → ⊥
    by true h = absurd (cc)
    by false h = absurd (cc)
character_other (negsuc n) b e = absurd (cc)

char_other : (o : Option ℕ) → NoTruth (or_subscript char o)
char_other None b e = absurd (cc)
char_other (Some a) b e = absurd (cc)

text_other : (o : Option (List ℕ)) → NoTruth (or_subscript string o)
text_other None b e = absurd (cc)
text_other (Some a) b e = absurd (cc)

joined_other : (s t : List ℕ) → NoTruth (joined s t)
joined_other s t b e = by (nat_le (length s + length t) max_size) e
  where
    by : (c : Bool) → (if c then made (string (s ++ t)) else raised Size) ≡ made (truth b) → ⊥
    by true h = absurd (cc)
    by false h = absurd (cc)

one_other : {A : Type 0} (kind : Literal → Option A) (f : A → Gives) → ((a : A) → NoTruth (f a)) → (ls : List Literal) → Other (one kind f ls)
one_other kind f never ls = mapped_other f never (one_in kind ls)

two_other : {A : Type 0} (kind : Literal → Option A) (f : A → A → Gives) → ((a b : A) → NoTruth (f a b)) → (ls : List Literal) → Other (two kind f ls)
two_other kind f never ls = mapped_other (λ p. f p.0 p.1) (λ p. never p.0 p.1) (two_in kind ls)

numbers_other : (f : ℤ → ℤ → Gives) (g : ℕ → ℕ → Gives) → ((a b : ℤ) → NoTruth (f a b)) → ((a b : ℕ) → NoTruth (g a b)) → (ls : List Literal) → Other (numbers f g ls)
numbers_other f g never also ls = or_other (two int_in f ls) (two word_in g ls) (two_other int_in f never ls) (two_other word_in g also ls)

place_other : (f : List ℕ → ℤ → Gives) → ((s : List ℕ) (z : ℤ) → NoTruth (f s z)) → (ls : List Literal) → Other (string_place f ls)
place_other f never [] b e = absurd (cc)
place_other f never (int z ∷ ls) b e = absurd (cc)
place_other f never (word n ∷ ls) b e = absurd (cc)
place_other f never (char n ∷ ls) b e = absurd (cc)
place_other f never (string s ∷ ls) b e = one_other int_in (f s) (never s) ls b e
place_other f never (truth c ∷ ls) b e = absurd (cc)

part_other : (f : List ℕ → ℤ → ℤ → Gives) → ((s : List ℕ) (y z : ℤ) → NoTruth (f s y z)) → (ls : List Literal) → Other (string_part f ls)
part_other f never [] b e = absurd (cc)
part_other f never (int z ∷ ls) b e = absurd (cc)
part_other f never (word n ∷ ls) b e = absurd (cc)
part_other f never (char n ∷ ls) b e = absurd (cc)
part_other f never (string s ∷ ls) b e = two_other int_in (f s) (never s) ls b e
part_other f never (truth c ∷ ls) b e = absurd (cc)

absent_test : (k : Operands) (p : BasisPrimitive) → ((ls : List Literal) → Other (row_of p ls)) → TestIsRight k p 0 no_test.code
absent_test k p never = record {
  long = λ pc d other xs. refl;
  tests = λ code f lay front above mem free ready xs ls b hold row pc other has. absurd (at_row ls b row);
}
  where
    by : (c : Bool) (l : Literal) (ls : List Literal) (b : Bool) → (if c then row_of p (l ∷ ls) else None) ≡ Some (made (truth b)) → ⊥
    by true l ls b h = never (l ∷ ls) b h
    by false l ls b h = absurd (cc)

    at_row : (ls : List Literal) (b : Bool) → row_at k p ls ≡ Some (made (truth b)) → ⊥
    at_row [] b e = absurd (cc)
    at_row (l ∷ ls) b e = by (is_at k l) l ls b e

abbrev gives_truth : BasisPrimitive → Bool
gives_truth Less = true
gives_truth LessEqual = true
gives_truth Greater = true
gives_truth GreaterEqual = true
gives_truth Equals = true
gives_truth p = false

other_row : (p : BasisPrimitive) → gives_truth p ≡ false → (ls : List Literal) → Other (row_of p ls)
other_row Add h ls = numbers_other (λ a b. int_result (a +ℤ b)) (λ a b. wrapped (a + b)) (λ a b. int_other (a +ℤ b)) (λ a b. word_made (word_for (a + b))) ls
other_row Subtract h ls = numbers_other (λ a b. int_result (a -ℤ b)) (λ a b. wrapped (a + (2 ^ 32 - b))) (λ a b. int_other (a -ℤ b)) (λ a b. word_made (word_for (a + (2 ^ 32 - b)))) ls
other_row Multiply h ls = numbers_other (λ a b. int_result (a *ℤ b)) (λ a b. wrapped (a * b)) (λ a b. int_other (a *ℤ b)) (λ a b. word_made (word_for (a * b))) ls
other_row Divide h ls = numbers_other (λ a b. unless_zero b (int_result (floor_div a b))) (λ a b. unless_none b (made (word (a / b)))) (λ a b. zero_other b (int_result (floor_div a b)) (int_other (floor_div a b))) (λ a b. none_other b (made (word (a / b))) (word_made (a / b))) ls
other_row Modulo h ls = numbers_other (λ a b. unless_zero b (made (int (floor_mod a b)))) (λ a b. unless_none b (made (word (a % b)))) (λ a b. zero_other b (made (int (floor_mod a b))) (int_made (floor_mod a b))) (λ a b. none_other b (made (word (a % b))) (word_made (a % b))) ls
other_row Negate h ls = or_other (one int_in (λ a. int_result (neg_ℤ a)) ls) (one word_in (λ a. wrapped (2 ^ 32 - a)) ls) (one_other int_in (λ a. int_result (neg_ℤ a)) (λ a. int_other (neg_ℤ a)) ls) (one_other word_in (λ a. wrapped (2 ^ 32 - a)) (λ a. word_made (word_for (2 ^ 32 - a))) ls)
other_row Absolute h ls = one_other int_in (λ a. int_result (if int_lt a (pos 0) then neg_ℤ a else a)) (λ a. int_other (if int_lt a (pos 0) then neg_ℤ a else a)) ls
other_row Less h ls = absurd (cc)
other_row LessEqual h ls = absurd (cc)
other_row Greater h ls = absurd (cc)
other_row GreaterEqual h ls = absurd (cc)
other_row Equals h ls = absurd (cc)
other_row Assign h ls = λ b e. absurd (cc)
other_row Quotient h ls = two_other int_in (λ a b. unless_zero b (int_result (int_div a b))) (λ a b. zero_other b (int_result (int_div a b)) (int_other (int_div a b))) ls
other_row Remainder h ls = two_other int_in (λ a b. unless_zero b (made (int (int_rem a b)))) (λ a b. zero_other b (made (int (int_rem a b))) (int_made (int_rem a b))) ls
other_row BitsAnd h ls = two_other word_in (λ a b. made (word (bit_and a b))) (λ a b. word_made (bit_and a b)) ls
other_row BitsOr h ls = two_other word_in (λ a b. made (word (bit_or a b))) (λ a b. word_made (bit_or a b)) ls
other_row BitsXor h ls = two_other word_in (λ a b. made (word (bit_xor a b))) (λ a b. word_made (bit_xor a b)) ls
other_row BitsNot h ls = one_other word_in (λ a. made (word (2 ^ 32 - 1 - a))) (λ a. word_made (2 ^ 32 - 1 - a)) ls
other_row ShiftLeft h ls = two_other word_in (λ a b. made (word (shift_left a b))) (λ a b. word_made (shift_left a b)) ls
other_row ShiftRight h ls = two_other word_in (λ a b. made (word (shift_right a b))) (λ a b. word_made (shift_right a b)) ls
other_row ShiftSigned h ls = two_other word_in (λ a b. made (word (shift_signed a b))) (λ a b. word_made (shift_signed a b)) ls
other_row ToInt h ls = one_other word_in (λ a. int_result (pos a)) (λ a. int_other (pos a)) ls
other_row ToIntSigned h ls = one_other word_in (λ a. made (int (cast_signed w32 a))) (λ a. int_made (cast_signed w32 a)) ls
other_row FromInt h ls = one_other int_in (λ a. made (word (cast_unsigned w32 a))) (λ a. word_made (cast_unsigned w32 a)) ls
other_row CharCode h ls = one_other char_in (λ a. made (int (pos a))) (λ a. int_made (pos a)) ls
other_row CharOf h ls = one_other int_in character character_other ls
other_row TextOf h ls = one_other int_in (λ a. made (string (signed_text a))) (λ a. text_made (signed_text a)) ls
other_row SizeOf h ls = one_other string_in (λ s. made (int (pos (length s)))) (λ s. int_made (pos (length s))) ls
other_row CharAt h ls = place_other (λ s z. or_subscript char (byte_at s z)) (λ s z. char_other (byte_at s z)) ls
other_row PartOf h ls = part_other (λ s y z. or_subscript string (bytes_from s y z)) (λ s y z. text_other (bytes_from s y z)) ls
other_row Concat h ls = two_other string_in joined joined_other ls
other_row StringOf h ls = one_other char_in (λ a. made (string (a ∷ []))) (λ a. text_made (a ∷ [])) ls
other_row Print h ls = λ b e. absurd (cc)

-- The laws of the rows, all together.
pub record AllRows : Type 0 where
  pub sums : SumsAreRight
  pub word_quotients : WordQuotientsAreRight
  pub int_rows : IntRowsAreRight
  pub divisions : DivisionsAreRight
  pub bits : BitsAreRight
  pub conversions : ConversionsAreRight
  pub limits : LimitsAreRight
  pub sizes : SizesAreRight
  pub truths : TruthsAreRight
  pub contraries : ContrariesAreRight
  pub comparisons : ComparisonsAreRight
  pub text_orders : TextOrdersAreRight
  pub text_rows : TextsAreRight

module _ (S : AllRows) where
  int_right : (p : BasisPrimitive) → LateIsRight (int_row p).late ints p (int_row p).size (int_row p).code
  int_right Add = S.sums.int_add
  int_right Subtract = S.sums.int_subtract
  int_right Multiply = S.sums.int_multiply
  int_right Divide = S.divisions.divide
  int_right Modulo = S.divisions.modulo
  int_right Negate = S.int_rows.negate
  int_right Absolute = S.divisions.absolute
  int_right Less = S.truths.int_less
  int_right LessEqual = S.contraries.int_less_equal
  int_right Greater = S.truths.int_greater
  int_right GreaterEqual = S.contraries.int_greater_equal
  int_right Equals = S.truths.int_equals
  int_right Assign = absent_int Assign (λ z ls. refl)
  int_right Quotient = S.divisions.quotient
  int_right Remainder = S.int_rows.remainder
  int_right BitsAnd = absent_int BitsAnd (λ z ls. two_none word_in _ (int z) ls refl)
  int_right BitsOr = absent_int BitsOr (λ z ls. two_none word_in _ (int z) ls refl)
  int_right BitsXor = absent_int BitsXor (λ z ls. two_none word_in _ (int z) ls refl)
  int_right BitsNot = absent_int BitsNot (λ z ls. one_none word_in _ (int z) ls refl)
  int_right ShiftLeft = absent_int ShiftLeft (λ z ls. two_none word_in _ (int z) ls refl)
  int_right ShiftRight = absent_int ShiftRight (λ z ls. two_none word_in _ (int z) ls refl)
  int_right ShiftSigned = absent_int ShiftSigned (λ z ls. two_none word_in _ (int z) ls refl)
  int_right ToInt = absent_int ToInt (λ z ls. one_none word_in _ (int z) ls refl)
  int_right ToIntSigned = absent_int ToIntSigned (λ z ls. one_none word_in _ (int z) ls refl)
  int_right FromInt = S.conversions.from_int
  int_right CharCode = absent_int CharCode (λ z ls. one_none char_in _ (int z) ls refl)
  int_right CharOf = S.limits.char_of
  int_right TextOf = S.text_rows.text_of
  int_right SizeOf = absent_int SizeOf (λ z ls. one_none string_in _ (int z) ls refl)
  int_right CharAt = absent_int CharAt (λ z ls. refl)
  int_right PartOf = absent_int PartOf (λ z ls. refl)
  int_right Concat = absent_int Concat (λ z ls. two_none string_in _ (int z) ls refl)
  int_right StringOf = absent_int StringOf (λ z ls. one_none char_in _ (int z) ls refl)
  int_right Print = absent_int Print (λ z ls. refl)

  word_right : (p : BasisPrimitive) → LateIsRight (word_row p).late words p (word_row p).size (word_row p).code
  word_right Add = S.sums.word_add
  word_right Subtract = S.sums.word_subtract
  word_right Multiply = S.sums.word_multiply
  word_right Divide = S.word_quotients.divide
  word_right Modulo = S.word_quotients.modulo
  word_right Negate = S.bits.negate
  word_right Absolute = absent_word Absolute (λ n ls. one_none int_in _ (word n) ls refl)
  word_right Less = S.truths.word_less
  word_right LessEqual = S.contraries.word_less_equal
  word_right Greater = S.truths.word_greater
  word_right GreaterEqual = S.contraries.word_greater_equal
  word_right Equals = S.truths.word_equals
  word_right Assign = absent_word Assign (λ n ls. refl)
  word_right Quotient = absent_word Quotient (λ n ls. two_none int_in _ (word n) ls refl)
  word_right Remainder = absent_word Remainder (λ n ls. two_none int_in _ (word n) ls refl)
  word_right BitsAnd = S.bits.bits_and
  word_right BitsOr = S.bits.bits_or
  word_right BitsXor = S.bits.bits_xor
  word_right BitsNot = S.bits.bits_not
  word_right ShiftLeft = S.bits.left
  word_right ShiftRight = S.bits.right
  word_right ShiftSigned = S.bits.signed
  word_right ToInt = S.limits.to_int
  word_right ToIntSigned = S.limits.to_int_signed
  word_right FromInt = absent_word FromInt (λ n ls. one_none int_in _ (word n) ls refl)
  word_right CharCode = absent_word CharCode (λ n ls. one_none char_in _ (word n) ls refl)
  word_right CharOf = absent_word CharOf (λ n ls. one_none int_in _ (word n) ls refl)
  word_right TextOf = absent_word TextOf (λ n ls. one_none int_in _ (word n) ls refl)
  word_right SizeOf = absent_word SizeOf (λ n ls. one_none string_in _ (word n) ls refl)
  word_right CharAt = absent_word CharAt (λ n ls. refl)
  word_right PartOf = absent_word PartOf (λ n ls. refl)
  word_right Concat = absent_word Concat (λ n ls. two_none string_in _ (word n) ls refl)
  word_right StringOf = absent_word StringOf (λ n ls. one_none char_in _ (word n) ls refl)
  word_right Print = absent_word Print (λ n ls. refl)

  char_right : (p : BasisPrimitive) → LateIsRight (char_row p).late chars p (char_row p).size (char_row p).code
  char_right Add = absent_char Add (λ n ls. numbers_none _ _ (char n) ls refl refl)
  char_right Subtract = absent_char Subtract (λ n ls. numbers_none _ _ (char n) ls refl refl)
  char_right Multiply = absent_char Multiply (λ n ls. numbers_none _ _ (char n) ls refl refl)
  char_right Divide = absent_char Divide (λ n ls. numbers_none _ _ (char n) ls refl refl)
  char_right Modulo = absent_char Modulo (λ n ls. numbers_none _ _ (char n) ls refl refl)
  char_right Negate = absent_char Negate (λ n ls. or_none (one_none int_in _ (char n) ls refl) (one_none word_in _ (char n) ls refl))
  char_right Absolute = absent_char Absolute (λ n ls. one_none int_in _ (char n) ls refl)
  char_right Less = S.truths.char_less
  char_right LessEqual = S.contraries.char_less_equal
  char_right Greater = S.truths.char_greater
  char_right GreaterEqual = S.contraries.char_greater_equal
  char_right Equals = S.truths.char_equals
  char_right Assign = absent_char Assign (λ n ls. refl)
  char_right Quotient = absent_char Quotient (λ n ls. two_none int_in _ (char n) ls refl)
  char_right Remainder = absent_char Remainder (λ n ls. two_none int_in _ (char n) ls refl)
  char_right BitsAnd = absent_char BitsAnd (λ n ls. two_none word_in _ (char n) ls refl)
  char_right BitsOr = absent_char BitsOr (λ n ls. two_none word_in _ (char n) ls refl)
  char_right BitsXor = absent_char BitsXor (λ n ls. two_none word_in _ (char n) ls refl)
  char_right BitsNot = absent_char BitsNot (λ n ls. one_none word_in _ (char n) ls refl)
  char_right ShiftLeft = absent_char ShiftLeft (λ n ls. two_none word_in _ (char n) ls refl)
  char_right ShiftRight = absent_char ShiftRight (λ n ls. two_none word_in _ (char n) ls refl)
  char_right ShiftSigned = absent_char ShiftSigned (λ n ls. two_none word_in _ (char n) ls refl)
  char_right ToInt = absent_char ToInt (λ n ls. one_none word_in _ (char n) ls refl)
  char_right ToIntSigned = absent_char ToIntSigned (λ n ls. one_none word_in _ (char n) ls refl)
  char_right FromInt = absent_char FromInt (λ n ls. one_none int_in _ (char n) ls refl)
  char_right CharCode = S.conversions.char_code
  char_right CharOf = absent_char CharOf (λ n ls. one_none int_in _ (char n) ls refl)
  char_right TextOf = absent_char TextOf (λ n ls. one_none int_in _ (char n) ls refl)
  char_right SizeOf = absent_char SizeOf (λ n ls. one_none string_in _ (char n) ls refl)
  char_right CharAt = absent_char CharAt (λ n ls. refl)
  char_right PartOf = absent_char PartOf (λ n ls. refl)
  char_right Concat = absent_char Concat (λ n ls. two_none string_in _ (char n) ls refl)
  char_right StringOf = S.text_rows.string_of
  char_right Print = absent_char Print (λ n ls. refl)

  text_right : (p : BasisPrimitive) → LateIsRight (text_row p).late texts p (text_row p).size (text_row p).code
  text_right Add = absent_text Add (λ s ls. numbers_none _ _ (string s) ls refl refl)
  text_right Subtract = absent_text Subtract (λ s ls. numbers_none _ _ (string s) ls refl refl)
  text_right Multiply = absent_text Multiply (λ s ls. numbers_none _ _ (string s) ls refl refl)
  text_right Divide = absent_text Divide (λ s ls. numbers_none _ _ (string s) ls refl refl)
  text_right Modulo = absent_text Modulo (λ s ls. numbers_none _ _ (string s) ls refl refl)
  text_right Negate = absent_text Negate (λ s ls. or_none (one_none int_in _ (string s) ls refl) (one_none word_in _ (string s) ls refl))
  text_right Absolute = absent_text Absolute (λ s ls. one_none int_in _ (string s) ls refl)
  text_right Less = S.text_orders.less
  text_right LessEqual = S.text_orders.less_equal
  text_right Greater = S.text_orders.greater
  text_right GreaterEqual = S.text_orders.greater_equal
  text_right Equals = S.text_orders.equals
  text_right Assign = absent_text Assign (λ s ls. refl)
  text_right Quotient = absent_text Quotient (λ s ls. two_none int_in _ (string s) ls refl)
  text_right Remainder = absent_text Remainder (λ s ls. two_none int_in _ (string s) ls refl)
  text_right BitsAnd = absent_text BitsAnd (λ s ls. two_none word_in _ (string s) ls refl)
  text_right BitsOr = absent_text BitsOr (λ s ls. two_none word_in _ (string s) ls refl)
  text_right BitsXor = absent_text BitsXor (λ s ls. two_none word_in _ (string s) ls refl)
  text_right BitsNot = absent_text BitsNot (λ s ls. one_none word_in _ (string s) ls refl)
  text_right ShiftLeft = absent_text ShiftLeft (λ s ls. two_none word_in _ (string s) ls refl)
  text_right ShiftRight = absent_text ShiftRight (λ s ls. two_none word_in _ (string s) ls refl)
  text_right ShiftSigned = absent_text ShiftSigned (λ s ls. two_none word_in _ (string s) ls refl)
  text_right ToInt = absent_text ToInt (λ s ls. one_none word_in _ (string s) ls refl)
  text_right ToIntSigned = absent_text ToIntSigned (λ s ls. one_none word_in _ (string s) ls refl)
  text_right FromInt = absent_text FromInt (λ s ls. one_none int_in _ (string s) ls refl)
  text_right CharCode = absent_text CharCode (λ s ls. one_none char_in _ (string s) ls refl)
  text_right CharOf = absent_text CharOf (λ s ls. one_none int_in _ (string s) ls refl)
  text_right TextOf = absent_text TextOf (λ s ls. one_none int_in _ (string s) ls refl)
  text_right SizeOf = S.sizes.size_of
  text_right CharAt = S.text_rows.char_at
  text_right PartOf = S.text_rows.part
  text_right Concat = S.text_rows.concat
  text_right StringOf = absent_text StringOf (λ s ls. one_none char_in _ (string s) ls refl)
  text_right Print = absent_text Print (λ s ls. refl)

  int_decided : (p : BasisPrimitive) → TestIsRight ints p (int_test p).size (int_test p).code
  int_decided Add = absent_test ints Add (other_row Add refl)
  int_decided Subtract = absent_test ints Subtract (other_row Subtract refl)
  int_decided Multiply = absent_test ints Multiply (other_row Multiply refl)
  int_decided Divide = absent_test ints Divide (other_row Divide refl)
  int_decided Modulo = absent_test ints Modulo (other_row Modulo refl)
  int_decided Negate = absent_test ints Negate (other_row Negate refl)
  int_decided Absolute = absent_test ints Absolute (other_row Absolute refl)
  int_decided Less = S.comparisons.int_less
  int_decided LessEqual = S.comparisons.int_less_equal
  int_decided Greater = S.comparisons.int_greater
  int_decided GreaterEqual = S.comparisons.int_greater_equal
  int_decided Equals = S.comparisons.int_equals
  int_decided Assign = absent_test ints Assign (other_row Assign refl)
  int_decided Quotient = absent_test ints Quotient (other_row Quotient refl)
  int_decided Remainder = absent_test ints Remainder (other_row Remainder refl)
  int_decided BitsAnd = absent_test ints BitsAnd (other_row BitsAnd refl)
  int_decided BitsOr = absent_test ints BitsOr (other_row BitsOr refl)
  int_decided BitsXor = absent_test ints BitsXor (other_row BitsXor refl)
  int_decided BitsNot = absent_test ints BitsNot (other_row BitsNot refl)
  int_decided ShiftLeft = absent_test ints ShiftLeft (other_row ShiftLeft refl)
  int_decided ShiftRight = absent_test ints ShiftRight (other_row ShiftRight refl)
  int_decided ShiftSigned = absent_test ints ShiftSigned (other_row ShiftSigned refl)
  int_decided ToInt = absent_test ints ToInt (other_row ToInt refl)
  int_decided ToIntSigned = absent_test ints ToIntSigned (other_row ToIntSigned refl)
  int_decided FromInt = absent_test ints FromInt (other_row FromInt refl)
  int_decided CharCode = absent_test ints CharCode (other_row CharCode refl)
  int_decided CharOf = absent_test ints CharOf (other_row CharOf refl)
  int_decided TextOf = absent_test ints TextOf (other_row TextOf refl)
  int_decided SizeOf = absent_test ints SizeOf (other_row SizeOf refl)
  int_decided CharAt = absent_test ints CharAt (other_row CharAt refl)
  int_decided PartOf = absent_test ints PartOf (other_row PartOf refl)
  int_decided Concat = absent_test ints Concat (other_row Concat refl)
  int_decided StringOf = absent_test ints StringOf (other_row StringOf refl)
  int_decided Print = absent_test ints Print (other_row Print refl)

  word_decided : (p : BasisPrimitive) → TestIsRight words p (word_test p).size (word_test p).code
  word_decided Add = absent_test words Add (other_row Add refl)
  word_decided Subtract = absent_test words Subtract (other_row Subtract refl)
  word_decided Multiply = absent_test words Multiply (other_row Multiply refl)
  word_decided Divide = absent_test words Divide (other_row Divide refl)
  word_decided Modulo = absent_test words Modulo (other_row Modulo refl)
  word_decided Negate = absent_test words Negate (other_row Negate refl)
  word_decided Absolute = absent_test words Absolute (other_row Absolute refl)
  word_decided Less = S.comparisons.word_less
  word_decided LessEqual = S.comparisons.word_less_equal
  word_decided Greater = S.comparisons.word_greater
  word_decided GreaterEqual = S.comparisons.word_greater_equal
  word_decided Equals = S.comparisons.word_equals
  word_decided Assign = absent_test words Assign (other_row Assign refl)
  word_decided Quotient = absent_test words Quotient (other_row Quotient refl)
  word_decided Remainder = absent_test words Remainder (other_row Remainder refl)
  word_decided BitsAnd = absent_test words BitsAnd (other_row BitsAnd refl)
  word_decided BitsOr = absent_test words BitsOr (other_row BitsOr refl)
  word_decided BitsXor = absent_test words BitsXor (other_row BitsXor refl)
  word_decided BitsNot = absent_test words BitsNot (other_row BitsNot refl)
  word_decided ShiftLeft = absent_test words ShiftLeft (other_row ShiftLeft refl)
  word_decided ShiftRight = absent_test words ShiftRight (other_row ShiftRight refl)
  word_decided ShiftSigned = absent_test words ShiftSigned (other_row ShiftSigned refl)
  word_decided ToInt = absent_test words ToInt (other_row ToInt refl)
  word_decided ToIntSigned = absent_test words ToIntSigned (other_row ToIntSigned refl)
  word_decided FromInt = absent_test words FromInt (other_row FromInt refl)
  word_decided CharCode = absent_test words CharCode (other_row CharCode refl)
  word_decided CharOf = absent_test words CharOf (other_row CharOf refl)
  word_decided TextOf = absent_test words TextOf (other_row TextOf refl)
  word_decided SizeOf = absent_test words SizeOf (other_row SizeOf refl)
  word_decided CharAt = absent_test words CharAt (other_row CharAt refl)
  word_decided PartOf = absent_test words PartOf (other_row PartOf refl)
  word_decided Concat = absent_test words Concat (other_row Concat refl)
  word_decided StringOf = absent_test words StringOf (other_row StringOf refl)
  word_decided Print = absent_test words Print (other_row Print refl)

  char_decided : (p : BasisPrimitive) → TestIsRight chars p (word_test p).size (word_test p).code
  char_decided Add = absent_test chars Add (other_row Add refl)
  char_decided Subtract = absent_test chars Subtract (other_row Subtract refl)
  char_decided Multiply = absent_test chars Multiply (other_row Multiply refl)
  char_decided Divide = absent_test chars Divide (other_row Divide refl)
  char_decided Modulo = absent_test chars Modulo (other_row Modulo refl)
  char_decided Negate = absent_test chars Negate (other_row Negate refl)
  char_decided Absolute = absent_test chars Absolute (other_row Absolute refl)
  char_decided Less = S.comparisons.char_less
  char_decided LessEqual = S.comparisons.char_less_equal
  char_decided Greater = S.comparisons.char_greater
  char_decided GreaterEqual = S.comparisons.char_greater_equal
  char_decided Equals = S.comparisons.char_equals
  char_decided Assign = absent_test chars Assign (other_row Assign refl)
  char_decided Quotient = absent_test chars Quotient (other_row Quotient refl)
  char_decided Remainder = absent_test chars Remainder (other_row Remainder refl)
  char_decided BitsAnd = absent_test chars BitsAnd (other_row BitsAnd refl)
  char_decided BitsOr = absent_test chars BitsOr (other_row BitsOr refl)
  char_decided BitsXor = absent_test chars BitsXor (other_row BitsXor refl)
  char_decided BitsNot = absent_test chars BitsNot (other_row BitsNot refl)
  char_decided ShiftLeft = absent_test chars ShiftLeft (other_row ShiftLeft refl)
  char_decided ShiftRight = absent_test chars ShiftRight (other_row ShiftRight refl)
  char_decided ShiftSigned = absent_test chars ShiftSigned (other_row ShiftSigned refl)
  char_decided ToInt = absent_test chars ToInt (other_row ToInt refl)
  char_decided ToIntSigned = absent_test chars ToIntSigned (other_row ToIntSigned refl)
  char_decided FromInt = absent_test chars FromInt (other_row FromInt refl)
  char_decided CharCode = absent_test chars CharCode (other_row CharCode refl)
  char_decided CharOf = absent_test chars CharOf (other_row CharOf refl)
  char_decided TextOf = absent_test chars TextOf (other_row TextOf refl)
  char_decided SizeOf = absent_test chars SizeOf (other_row SizeOf refl)
  char_decided CharAt = absent_test chars CharAt (other_row CharAt refl)
  char_decided PartOf = absent_test chars PartOf (other_row PartOf refl)
  char_decided Concat = absent_test chars Concat (other_row Concat refl)
  char_decided StringOf = absent_test chars StringOf (other_row StringOf refl)
  char_decided Print = absent_test chars Print (other_row Print refl)

  text_decided : (p : BasisPrimitive) → TestIsRight texts p (text_test p).size (text_test p).code
  text_decided Add = absent_test texts Add (other_row Add refl)
  text_decided Subtract = absent_test texts Subtract (other_row Subtract refl)
  text_decided Multiply = absent_test texts Multiply (other_row Multiply refl)
  text_decided Divide = absent_test texts Divide (other_row Divide refl)
  text_decided Modulo = absent_test texts Modulo (other_row Modulo refl)
  text_decided Negate = absent_test texts Negate (other_row Negate refl)
  text_decided Absolute = absent_test texts Absolute (other_row Absolute refl)
  text_decided Less = S.text_orders.is_less
  text_decided LessEqual = S.text_orders.is_less_equal
  text_decided Greater = S.text_orders.is_greater
  text_decided GreaterEqual = S.text_orders.is_greater_equal
  text_decided Equals = S.text_orders.are_equal
  text_decided Assign = absent_test texts Assign (other_row Assign refl)
  text_decided Quotient = absent_test texts Quotient (other_row Quotient refl)
  text_decided Remainder = absent_test texts Remainder (other_row Remainder refl)
  text_decided BitsAnd = absent_test texts BitsAnd (other_row BitsAnd refl)
  text_decided BitsOr = absent_test texts BitsOr (other_row BitsOr refl)
  text_decided BitsXor = absent_test texts BitsXor (other_row BitsXor refl)
  text_decided BitsNot = absent_test texts BitsNot (other_row BitsNot refl)
  text_decided ShiftLeft = absent_test texts ShiftLeft (other_row ShiftLeft refl)
  text_decided ShiftRight = absent_test texts ShiftRight (other_row ShiftRight refl)
  text_decided ShiftSigned = absent_test texts ShiftSigned (other_row ShiftSigned refl)
  text_decided ToInt = absent_test texts ToInt (other_row ToInt refl)
  text_decided ToIntSigned = absent_test texts ToIntSigned (other_row ToIntSigned refl)
  text_decided FromInt = absent_test texts FromInt (other_row FromInt refl)
  text_decided CharCode = absent_test texts CharCode (other_row CharCode refl)
  text_decided CharOf = absent_test texts CharOf (other_row CharOf refl)
  text_decided TextOf = absent_test texts TextOf (other_row TextOf refl)
  text_decided SizeOf = absent_test texts SizeOf (other_row SizeOf refl)
  text_decided CharAt = absent_test texts CharAt (other_row CharAt refl)
  text_decided PartOf = absent_test texts PartOf (other_row PartOf refl)
  text_decided Concat = absent_test texts Concat (other_row Concat refl)
  text_decided StringOf = absent_test texts StringOf (other_row StringOf refl)
  text_decided Print = absent_test texts Print (other_row Print refl)

  row_right : (k : Operands) (p : BasisPrimitive) → LateIsRight (rows.late k p) k p (rows.size k p) (rows.code k p)
  row_right ints p = int_right p
  row_right words p = word_right p
  row_right chars p = char_right p
  row_right texts p = text_right p

  test_right : (k : Operands) (p : BasisPrimitive) → TestIsRight k p (rows.test_size k p) (rows.test_code k p)
  test_right ints p = int_decided p
  test_right words p = word_decided p
  test_right chars p = char_decided p
  test_right texts p = text_decided p

  pub all_right : AreRight rows
  all_right = record {
    long = λ k p packets pc d other xs. (row_right k p).long packets pc d other xs;
    test_long = λ k p pc d other xs. (test_right k p).long pc d other xs;
    does = λ code f lay front above mem free ready k p xs ls g hold row packets are pc other has.
        (row_right k p).does code f lay front above mem free ready xs ls g hold row packets are pc other has;
    tests = λ code f lay front above mem free ready k p xs ls b hold row pc other has.
        (test_right k p).tests code f lay front above mem free ready xs ls b hold row pc other has;
  }
