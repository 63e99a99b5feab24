-- Only the primitives that are said to raise do: row by row.
use Rattle.std.proofs.Common.{◌≡◌, ℕ, ◌+◌, ◌-◌, ◌*◌, ◌^◌, Bool, true, false, ◌||◌, List, [], ◌∷◌, length, Option, Some, None, refl}
use Rattle.std.specs.Prelude.{ℤ, pos, option_map, bit_and, bit_or, bit_xor}
use Rattle.std.specs.Int.{cast_signed, cast_unsigned, w32}
use Rattle.std.specs.Option.{option_or}
use Rattle.std.specs.Ordering.{is_lt, is_le, is_gt, is_ge}
use Rattle.std.specs.declared.cmp.Ordering.{Ordering}
use Rattle.word_arithmetic.specs.Arithmetic.{word_for, shift_left, shift_right, shift_signed, signed_text}
use Rattle.ir_values.specs.of_mlc_prims.LitOf.{Literal, int, word, char, string, truth, int_in, word_in, char_in, string_in, one_in, two_in, both}
use Rattle.ir_values.specs.of_mlc_prims.PrimOf.{Gives, made, raised}
use Rattle.ir_values.specs.of_mlc_prims.Table.{row_of, literal_cmp, literal_eq, tested, compared, one, two}
use Rattle.ir_values.specs.of_mlc_prims.declared.basis.BasisPrimitive.{BasisPrimitive}
use Rattle.ir_values.specs.of_mlc_prims.declared.basis.BasisPrimitive.TheVariants.{Add, Subtract, Multiply, Divide, Modulo, Negate, Absolute, Less, LessEqual, Greater, GreaterEqual, Equals, Assign, Quotient, Remainder, BitsAnd, BitsOr, BitsXor, BitsNot, ShiftLeft, ShiftRight, ShiftSigned, ToInt, ToIntSigned, FromInt, CharCode, CharOf, TextOf, SizeOf, CharAt, PartOf, Concat, StringOf, Print}
use Rattle.ir_values.specs.of_mlc_prims.declared.prim.PrimExn.{PrimExn}
use Rattle.first_values.specs.Operations.{Operands, ints, words, chars, texts, row_at}
use Rattle.first_values.specs.Raising.{raises_at_ints, raises_at_words, raises_at_texts, may_raise}
use Rattle.first_values.specs.Laws.{OnlyTheseRaise}

-- not an exception
abbrev Quiet : Option Gives → Type 0
Quiet o = (e : PrimExn) → o ≡ Some (raised e) → ⊥

nothing : Quiet None
nothing e h = absurd (cc)

mapped : {A : Type 0} (f : A → Literal) (o : Option A) → Quiet (option_map (λ a. made (f a)) o)
mapped f None e h = absurd (cc)
mapped f (Some a) e h = absurd (cc)

tested-quiet : (test : Literal → Literal → Option Bool) (ls : List Literal) → Quiet (tested test ls)
tested-quiet test [] = nothing
tested-quiet test (a ∷ []) = nothing
tested-quiet test (a ∷ b ∷ []) = mapped truth (test a b)
tested-quiet test (a ∷ b ∷ c ∷ ls) = nothing

compared-quiet : (test : Ordering → Bool) (ls : List Literal) → Quiet (compared test ls)
compared-quiet test ls = tested-quiet (λ a b. option_map test (literal_cmp a b)) ls

or-quiet : {a b : Option Gives} → Quiet a → Quiet b → Quiet (option_or a b)
or-quiet {a = None} h k = k
or-quiet {a = Some g} h k = h

none-mapped : {A : Type 0} (f : A → Gives) (o : Option A) → o ≡ None → Quiet (option_map f o)
none-mapped f None h = nothing
none-mapped f (Some a) h = absurd (cc)

none-both : {A : Type 0} (f : A × A → Gives) (o q : Option A) → o ≡ None → Quiet (option_map f (both o q))
none-both f None q h = nothing
none-both f (Some a) q h = absurd (cc)

-- a row whose first operand is of another kind
one-none : {A : Type 0} (kind : Literal → Option A) (f : A → Gives) (l : Literal) (ls : List Literal) → kind l ≡ None → Quiet (one kind f (l ∷ ls))
one-none kind f l [] h = none-mapped f (kind l) h
one-none kind f l (b ∷ ls) h = nothing

two-none : {A : Type 0} (kind : Literal → Option A) (f : A → A → Gives) (l : Literal) (ls : List Literal) → kind l ≡ None → Quiet (two kind f (l ∷ ls))
two-none kind f l [] h = nothing
two-none kind f l (b ∷ []) h = none-both (λ p. f p.0 p.1) (kind l) (kind b) h
two-none kind f l (b ∷ c ∷ ls) h = nothing

-- those that raise at no operands
quiet-row : (p : BasisPrimitive) (ls : List Literal) → (raises_at_ints p || raises_at_words p || raises_at_texts p) ≡ false → Quiet (row_of p ls)
quiet-row Add ls h = absurd (cc)
quiet-row Subtract ls h = absurd (cc)
quiet-row Multiply ls h = absurd (cc)
quiet-row Divide ls h = absurd (cc)
quiet-row Modulo ls h = absurd (cc)
quiet-row Negate ls h = absurd (cc)
quiet-row Absolute ls h = absurd (cc)
quiet-row Less ls h = compared-quiet is_lt ls
quiet-row LessEqual ls h = compared-quiet is_le ls
quiet-row Greater ls h = compared-quiet is_gt ls
quiet-row GreaterEqual ls h = compared-quiet is_ge ls
quiet-row Equals ls h = tested-quiet literal_eq ls
quiet-row Assign ls h = nothing
quiet-row Quotient ls h = absurd (cc)
quiet-row Remainder ls h = absurd (cc)
quiet-row BitsAnd ls h = mapped (λ q. word (bit_and q.0 q.1)) (two_in word_in ls)
quiet-row BitsOr ls h = mapped (λ q. word (bit_or q.0 q.1)) (two_in word_in ls)
quiet-row BitsXor ls h = mapped (λ q. word (bit_xor q.0 q.1)) (two_in word_in ls)
quiet-row BitsNot ls h = mapped (λ a. word (2 ^ 32 - 1 - a)) (one_in word_in ls)
quiet-row ShiftLeft ls h = mapped (λ q. word (shift_left q.0 q.1)) (two_in word_in ls)
quiet-row ShiftRight ls h = mapped (λ q. word (shift_right q.0 q.1)) (two_in word_in ls)
quiet-row ShiftSigned ls h = mapped (λ q. word (shift_signed q.0 q.1)) (two_in word_in ls)
quiet-row ToInt ls h = absurd (cc)
quiet-row ToIntSigned ls h = mapped (λ a. int (cast_signed w32 a)) (one_in word_in ls)
quiet-row FromInt ls h = mapped (λ a. word (cast_unsigned w32 a)) (one_in int_in ls)
quiet-row CharCode ls h = mapped (λ a. int (pos a)) (one_in char_in ls)
quiet-row CharOf ls h = absurd (cc)
quiet-row TextOf ls h = mapped (λ a. string (signed_text a)) (one_in int_in ls)
quiet-row SizeOf ls h = mapped (λ s. int (pos (length s))) (one_in string_in ls)
quiet-row CharAt ls h = absurd (cc)
quiet-row PartOf ls h = absurd (cc)
quiet-row Concat ls h = absurd (cc)
quiet-row StringOf ls h = mapped (λ a. string (a ∷ [])) (one_in char_in ls)
quiet-row Print ls h = nothing

ints-quiet : (p : BasisPrimitive) (a : ℤ) (ls : List Literal) → raises_at_ints p ≡ false → Quiet (row_of p (int a ∷ ls))
ints-quiet Add a ls h = absurd (cc)
ints-quiet Subtract a ls h = absurd (cc)
ints-quiet Multiply a ls h = absurd (cc)
ints-quiet Divide a ls h = absurd (cc)
ints-quiet Modulo a ls h = absurd (cc)
ints-quiet Negate a ls h = absurd (cc)
ints-quiet Absolute a ls h = absurd (cc)
ints-quiet Less a ls h = quiet-row Less (int a ∷ ls) refl
ints-quiet LessEqual a ls h = quiet-row LessEqual (int a ∷ ls) refl
ints-quiet Greater a ls h = quiet-row Greater (int a ∷ ls) refl
ints-quiet GreaterEqual a ls h = quiet-row GreaterEqual (int a ∷ ls) refl
ints-quiet Equals a ls h = quiet-row Equals (int a ∷ ls) refl
ints-quiet Assign a ls h = quiet-row Assign (int a ∷ ls) refl
ints-quiet Quotient a ls h = absurd (cc)
ints-quiet Remainder a ls h = absurd (cc)
ints-quiet BitsAnd a ls h = quiet-row BitsAnd (int a ∷ ls) refl
ints-quiet BitsOr a ls h = quiet-row BitsOr (int a ∷ ls) refl
ints-quiet BitsXor a ls h = quiet-row BitsXor (int a ∷ ls) refl
ints-quiet BitsNot a ls h = quiet-row BitsNot (int a ∷ ls) refl
ints-quiet ShiftLeft a ls h = quiet-row ShiftLeft (int a ∷ ls) refl
ints-quiet ShiftRight a ls h = quiet-row ShiftRight (int a ∷ ls) refl
ints-quiet ShiftSigned a ls h = quiet-row ShiftSigned (int a ∷ ls) refl
ints-quiet ToInt a ls h = one-none word_in _ (int a) ls refl
ints-quiet ToIntSigned a ls h = quiet-row ToIntSigned (int a ∷ ls) refl
ints-quiet FromInt a ls h = quiet-row FromInt (int a ∷ ls) refl
ints-quiet CharCode a ls h = quiet-row CharCode (int a ∷ ls) refl
ints-quiet CharOf a ls h = absurd (cc)
ints-quiet TextOf a ls h = quiet-row TextOf (int a ∷ ls) refl
ints-quiet SizeOf a ls h = quiet-row SizeOf (int a ∷ ls) refl
ints-quiet CharAt a ls h = nothing
ints-quiet PartOf a ls h = nothing
ints-quiet Concat a ls h = two-none string_in _ (int a) ls refl
ints-quiet StringOf a ls h = quiet-row StringOf (int a ∷ ls) refl
ints-quiet Print a ls h = quiet-row Print (int a ∷ ls) refl

words-quiet : (p : BasisPrimitive) (a : ℕ) (ls : List Literal) → raises_at_words p ≡ false → Quiet (row_of p (word a ∷ ls))
words-quiet Add a ls h = or-quiet (two-none int_in _ (word a) ls refl) (mapped (λ q. word (word_for (q.0 + q.1))) (two_in word_in (word a ∷ ls)))
words-quiet Subtract a ls h = or-quiet (two-none int_in _ (word a) ls refl) (mapped (λ q. word (word_for (q.0 + (2 ^ 32 - q.1)))) (two_in word_in (word a ∷ ls)))
words-quiet Multiply a ls h = or-quiet (two-none int_in _ (word a) ls refl) (mapped (λ q. word (word_for (q.0 * q.1))) (two_in word_in (word a ∷ ls)))
words-quiet Divide a ls h = absurd (cc)
words-quiet Modulo a ls h = absurd (cc)
words-quiet Negate a ls h = or-quiet (one-none int_in _ (word a) ls refl) (mapped (λ b. word (word_for (2 ^ 32 - b))) (one_in word_in (word a ∷ ls)))
words-quiet Absolute a ls h = one-none int_in _ (word a) ls refl
words-quiet Less a ls h = quiet-row Less (word a ∷ ls) refl
words-quiet LessEqual a ls h = quiet-row LessEqual (word a ∷ ls) refl
words-quiet Greater a ls h = quiet-row Greater (word a ∷ ls) refl
words-quiet GreaterEqual a ls h = quiet-row GreaterEqual (word a ∷ ls) refl
words-quiet Equals a ls h = quiet-row Equals (word a ∷ ls) refl
words-quiet Assign a ls h = quiet-row Assign (word a ∷ ls) refl
words-quiet Quotient a ls h = two-none int_in _ (word a) ls refl
words-quiet Remainder a ls h = two-none int_in _ (word a) ls refl
words-quiet BitsAnd a ls h = quiet-row BitsAnd (word a ∷ ls) refl
words-quiet BitsOr a ls h = quiet-row BitsOr (word a ∷ ls) refl
words-quiet BitsXor a ls h = quiet-row BitsXor (word a ∷ ls) refl
words-quiet BitsNot a ls h = quiet-row BitsNot (word a ∷ ls) refl
words-quiet ShiftLeft a ls h = quiet-row ShiftLeft (word a ∷ ls) refl
words-quiet ShiftRight a ls h = quiet-row ShiftRight (word a ∷ ls) refl
words-quiet ShiftSigned a ls h = quiet-row ShiftSigned (word a ∷ ls) refl
words-quiet ToInt a ls h = absurd (cc)
words-quiet ToIntSigned a ls h = quiet-row ToIntSigned (word a ∷ ls) refl
words-quiet FromInt a ls h = quiet-row FromInt (word a ∷ ls) refl
words-quiet CharCode a ls h = quiet-row CharCode (word a ∷ ls) refl
words-quiet CharOf a ls h = one-none int_in _ (word a) ls refl
words-quiet TextOf a ls h = quiet-row TextOf (word a ∷ ls) refl
words-quiet SizeOf a ls h = quiet-row SizeOf (word a ∷ ls) refl
words-quiet CharAt a ls h = nothing
words-quiet PartOf a ls h = nothing
words-quiet Concat a ls h = two-none string_in _ (word a) ls refl
words-quiet StringOf a ls h = quiet-row StringOf (word a ∷ ls) refl
words-quiet Print a ls h = quiet-row Print (word a ∷ ls) refl

chars-quiet : (p : BasisPrimitive) (a : ℕ) (ls : List Literal) → Quiet (row_of p (char a ∷ ls))
chars-quiet Add a ls = or-quiet (two-none int_in _ (char a) ls refl) (two-none word_in _ (char a) ls refl)
chars-quiet Subtract a ls = or-quiet (two-none int_in _ (char a) ls refl) (two-none word_in _ (char a) ls refl)
chars-quiet Multiply a ls = or-quiet (two-none int_in _ (char a) ls refl) (two-none word_in _ (char a) ls refl)
chars-quiet Divide a ls = or-quiet (two-none int_in _ (char a) ls refl) (two-none word_in _ (char a) ls refl)
chars-quiet Modulo a ls = or-quiet (two-none int_in _ (char a) ls refl) (two-none word_in _ (char a) ls refl)
chars-quiet Negate a ls = or-quiet (one-none int_in _ (char a) ls refl) (one-none word_in _ (char a) ls refl)
chars-quiet Absolute a ls = one-none int_in _ (char a) ls refl
chars-quiet Less a ls = quiet-row Less (char a ∷ ls) refl
chars-quiet LessEqual a ls = quiet-row LessEqual (char a ∷ ls) refl
chars-quiet Greater a ls = quiet-row Greater (char a ∷ ls) refl
chars-quiet GreaterEqual a ls = quiet-row GreaterEqual (char a ∷ ls) refl
chars-quiet Equals a ls = quiet-row Equals (char a ∷ ls) refl
chars-quiet Assign a ls = quiet-row Assign (char a ∷ ls) refl
chars-quiet Quotient a ls = two-none int_in _ (char a) ls refl
chars-quiet Remainder a ls = two-none int_in _ (char a) ls refl
chars-quiet BitsAnd a ls = quiet-row BitsAnd (char a ∷ ls) refl
chars-quiet BitsOr a ls = quiet-row BitsOr (char a ∷ ls) refl
chars-quiet BitsXor a ls = quiet-row BitsXor (char a ∷ ls) refl
chars-quiet BitsNot a ls = quiet-row BitsNot (char a ∷ ls) refl
chars-quiet ShiftLeft a ls = quiet-row ShiftLeft (char a ∷ ls) refl
chars-quiet ShiftRight a ls = quiet-row ShiftRight (char a ∷ ls) refl
chars-quiet ShiftSigned a ls = quiet-row ShiftSigned (char a ∷ ls) refl
chars-quiet ToInt a ls = one-none word_in _ (char a) ls refl
chars-quiet ToIntSigned a ls = quiet-row ToIntSigned (char a ∷ ls) refl
chars-quiet FromInt a ls = quiet-row FromInt (char a ∷ ls) refl
chars-quiet CharCode a ls = quiet-row CharCode (char a ∷ ls) refl
chars-quiet CharOf a ls = one-none int_in _ (char a) ls refl
chars-quiet TextOf a ls = quiet-row TextOf (char a ∷ ls) refl
chars-quiet SizeOf a ls = quiet-row SizeOf (char a ∷ ls) refl
chars-quiet CharAt a ls = nothing
chars-quiet PartOf a ls = nothing
chars-quiet Concat a ls = two-none string_in _ (char a) ls refl
chars-quiet StringOf a ls = quiet-row StringOf (char a ∷ ls) refl
chars-quiet Print a ls = quiet-row Print (char a ∷ ls) refl

texts-quiet : (p : BasisPrimitive) (a : List ℕ) (ls : List Literal) → raises_at_texts p ≡ false → Quiet (row_of p (string a ∷ ls))
texts-quiet Add a ls h = or-quiet (two-none int_in _ (string a) ls refl) (two-none word_in _ (string a) ls refl)
texts-quiet Subtract a ls h = or-quiet (two-none int_in _ (string a) ls refl) (two-none word_in _ (string a) ls refl)
texts-quiet Multiply a ls h = or-quiet (two-none int_in _ (string a) ls refl) (two-none word_in _ (string a) ls refl)
texts-quiet Divide a ls h = or-quiet (two-none int_in _ (string a) ls refl) (two-none word_in _ (string a) ls refl)
texts-quiet Modulo a ls h = or-quiet (two-none int_in _ (string a) ls refl) (two-none word_in _ (string a) ls refl)
texts-quiet Negate a ls h = or-quiet (one-none int_in _ (string a) ls refl) (one-none word_in _ (string a) ls refl)
texts-quiet Absolute a ls h = one-none int_in _ (string a) ls refl
texts-quiet Less a ls h = quiet-row Less (string a ∷ ls) refl
texts-quiet LessEqual a ls h = quiet-row LessEqual (string a ∷ ls) refl
texts-quiet Greater a ls h = quiet-row Greater (string a ∷ ls) refl
texts-quiet GreaterEqual a ls h = quiet-row GreaterEqual (string a ∷ ls) refl
texts-quiet Equals a ls h = quiet-row Equals (string a ∷ ls) refl
texts-quiet Assign a ls h = quiet-row Assign (string a ∷ ls) refl
texts-quiet Quotient a ls h = two-none int_in _ (string a) ls refl
texts-quiet Remainder a ls h = two-none int_in _ (string a) ls refl
texts-quiet BitsAnd a ls h = quiet-row BitsAnd (string a ∷ ls) refl
texts-quiet BitsOr a ls h = quiet-row BitsOr (string a ∷ ls) refl
texts-quiet BitsXor a ls h = quiet-row BitsXor (string a ∷ ls) refl
texts-quiet BitsNot a ls h = quiet-row BitsNot (string a ∷ ls) refl
texts-quiet ShiftLeft a ls h = quiet-row ShiftLeft (string a ∷ ls) refl
texts-quiet ShiftRight a ls h = quiet-row ShiftRight (string a ∷ ls) refl
texts-quiet ShiftSigned a ls h = quiet-row ShiftSigned (string a ∷ ls) refl
texts-quiet ToInt a ls h = one-none word_in _ (string a) ls refl
texts-quiet ToIntSigned a ls h = quiet-row ToIntSigned (string a ∷ ls) refl
texts-quiet FromInt a ls h = quiet-row FromInt (string a ∷ ls) refl
texts-quiet CharCode a ls h = quiet-row CharCode (string a ∷ ls) refl
texts-quiet CharOf a ls h = one-none int_in _ (string a) ls refl
texts-quiet TextOf a ls h = quiet-row TextOf (string a ∷ ls) refl
texts-quiet SizeOf a ls h = quiet-row SizeOf (string a ∷ ls) refl
texts-quiet CharAt a ls h = absurd (cc)
texts-quiet PartOf a ls h = absurd (cc)
texts-quiet Concat a ls h = absurd (cc)
texts-quiet StringOf a ls h = quiet-row StringOf (string a ∷ ls) refl
texts-quiet Print a ls h = quiet-row Print (string a ∷ ls) refl

at-quiet : (k : Operands) (p : BasisPrimitive) (ls : List Literal) → may_raise k p ≡ false → Quiet (row_at k p ls)
at-quiet k p [] h = nothing
at-quiet ints p (int a ∷ ls) h = ints-quiet p a ls h
at-quiet ints p (word a ∷ ls) h = nothing
at-quiet ints p (char a ∷ ls) h = nothing
at-quiet ints p (string a ∷ ls) h = nothing
at-quiet ints p (truth a ∷ ls) h = nothing
at-quiet words p (int a ∷ ls) h = nothing
at-quiet words p (word a ∷ ls) h = words-quiet p a ls h
at-quiet words p (char a ∷ ls) h = nothing
at-quiet words p (string a ∷ ls) h = nothing
at-quiet words p (truth a ∷ ls) h = nothing
at-quiet chars p (int a ∷ ls) h = nothing
at-quiet chars p (word a ∷ ls) h = nothing
at-quiet chars p (char a ∷ ls) h = chars-quiet p a ls
at-quiet chars p (string a ∷ ls) h = nothing
at-quiet chars p (truth a ∷ ls) h = nothing
at-quiet texts p (int a ∷ ls) h = nothing
at-quiet texts p (word a ∷ ls) h = nothing
at-quiet texts p (char a ∷ ls) h = nothing
at-quiet texts p (string a ∷ ls) h = texts-quiet p a ls h
at-quiet texts p (truth a ∷ ls) h = nothing

pub only-these-raise : OnlyTheseRaise
only-these-raise k p ls e h = by (may_raise k p) refl
  where
    by : (b : Bool) → may_raise k p ≡ b → may_raise k p ≡ true
    by true q = q
    by false q = absurd (at-quiet k p ls q e h)
