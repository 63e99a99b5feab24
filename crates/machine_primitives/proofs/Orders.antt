-- Orders of integers and numbers as the machine's words tell them, and integers as words.
use Rattle.std.proofs.Common.{◌≡◌, ℕ, ◌<◌, ◌^◌, Bool, true, false, Some, None, refl, sym, ap, ◌∙◌, ⊎_elim, arith}
use Rattle.std.specs.Prelude.{ℤ, pos, negsuc, cond, min, nat_lt, int_lt, not, if◌then◌else◌, FitsSigned, ◌==◌}
use Rattle.std.specs.Int.{w32, cast_unsigned, cast_signed, int_shr}
use Rattle.std.specs.Ordering.{nat_cmp, int_cmp, is_lt, is_le, is_gt, is_ge}
use Rattle.std.specs.declared.cmp.Ordering.{Ordering}
use Rattle.std.specs.declared.cmp.Ordering.TheVariants.{Less, Equal, Greater}
use Rattle.std.proofs.lemmas.Bool.{cases_lt, lt-ltb, le-ltb, eq-eqb, ne_eqb, ltb-true}
use Rattle.std.proofs.Math.Facts.{sfits_to_z}
use Rattle.std.proofs.lemmas.Int.{to_z-of_z, of_z-to_z, ints}
use Rattle.std.proofs.Math.Nat.{div-le_self}
use Rattle.word_arithmetic.specs.Arithmetic.{shift_signed}
use Rattle.ir_code.specs.Words.{int_of, fits_word, word_of}
use Rattle.mlc_prims.specs.PrimOf.{fits_int, exact, int_result, made, raised}
use Rattle.mlc_prims.specs.LitOf.{int}
use Rattle.mlc_prims.specs.declared.prim.PrimExn.TheVariants.{Overflow}

-- Orders.

pub ge_not_lt : (o : Ordering) → is_ge o ≡ not (is_lt o)
ge_not_lt Less = refl
ge_not_lt Equal = refl
ge_not_lt Greater = refl

pub le_not_gt : (o : Ordering) → is_le o ≡ not (is_gt o)
le_not_gt Less = refl
le_not_gt Equal = refl
le_not_gt Greater = refl

pub int_lt_is : (a b : ℤ) → is_lt (int_cmp a b) ≡ int_lt a b
int_lt_is a b = shape (int_lt a b) (int_lt b a)
  where
    shape : (p q : Bool) → is_lt (cond p Less (cond q Greater Equal)) ≡ p
    shape true q = refl
    shape false true = refl
    shape false false = refl

int_apart : (a b : ℤ) → int_lt a b ≡ true → int_lt b a ≡ true → ⊥
int_apart a b e h = omega (arith, ints)

pub int_gt_is : (a b : ℤ) → is_gt (int_cmp a b) ≡ int_lt b a
int_gt_is a b = shape (int_lt a b) (int_lt b a) (int_apart a b)
  where
    shape : (p q : Bool) → (p ≡ true → q ≡ true → ⊥) → is_gt (cond p Less (cond q Greater Equal)) ≡ q
    shape true true h = absurd (h refl refl)
    shape true false h = refl
    shape false true h = refl
    shape false false h = refl

pub nat_lt_is : (a b : ℕ) → is_lt (nat_cmp a b) ≡ nat_lt a b
nat_lt_is a b = shape (nat_lt a b) (a == b)
  where
    shape : (p q : Bool) → is_lt (cond p Less (cond q Equal Greater)) ≡ p
    shape true q = refl
    shape false true = refl
    shape false false = refl

pub nat_gt_is : (a b : ℕ) → is_gt (nat_cmp a b) ≡ nat_lt b a
nat_gt_is a b =
    ⊎_elim
    (λ lt. ap (λ p. is_gt (cond p Less (cond (a == b) Equal Greater))) (lt-ltb a b lt) ∙ sym (le-ltb b a (omega arith)))
    (λ le. ap (λ p. is_gt (cond p Less (cond (a == b) Equal Greater))) (le-ltb a b le) ∙
    ⊎_elim
    (λ lt. ap (λ q. is_gt (cond q Equal Greater)) (ne_eqb a b (λ e. omega arith)) ∙ sym (lt-ltb b a lt))
    (λ le'. ap (λ q. is_gt (cond q Equal Greater)) (eq-eqb a b (omega arith)) ∙ sym (le-ltb b a le'))
    (cases_lt b a))
    (cases_lt a b)

-- Integers as words.

fits_signed : (z : ℤ) → fits_word z ≡ true → FitsSigned w32 z
fits_signed (pos n) e = record { sfits = ltb-true n (2 ^ 31) e }
fits_signed (negsuc n) e = record { sfits = ltb-true n (2 ^ 31) e }

-- an integer that has a word
pub fits_of_word : (z : ℤ) (x : ℕ) → word_of z ≡ Some x → FitsSigned w32 z
fits_of_word z x e = by (fits_word z) refl e
  where
    by : (b : Bool) → fits_word z ≡ b → (if b then Some (cast_unsigned w32 z) else None) ≡ Some x → FitsSigned w32 z
    by true f g = fits_signed z f
    by false f g = absurd (cc)

pub int_of-word : (z : ℤ) (x : ℕ) → word_of z ≡ Some x → int_of x ≡ z
int_of-word z x e = by (fits_word z) refl e
  where
    by : (b : Bool) → fits_word z ≡ b → (if b then Some (cast_unsigned w32 z) else None) ≡ Some x → int_of x ≡ z
    by true f g = let h : cast_unsigned w32 z ≡ x = cc in ap int_of (sym h) ∙ to_z-of_z w32 z (fits_signed z f)
    by false f g = absurd (cc)

fits_same : (z : ℤ) → fits_word z ≡ fits_int z
fits_same (pos n) = refl
fits_same (negsuc n) = refl

-- an exact result has its word, and Overflow none
pub exact_some : (z : ℤ) (r : ℕ) → word_of z ≡ Some r → int_result z ≡ made (int z)
exact_some z r e = by (fits_int z) refl
  where
    by : (b : Bool) → fits_int z ≡ b → exact (if b then Some z else None) ≡ made (int z)
    by true g = refl
    by false g = let h : word_of z ≡ None = ap (λ b. if b then Some (cast_unsigned w32 z) else None) (fits_same z ∙ g) in absurd (cc)

pub exact_none : (z : ℤ) → word_of z ≡ None → int_result z ≡ raised Overflow
exact_none z e = by (fits_int z) refl
  where
    by : (b : Bool) → fits_int z ≡ b → exact (if b then Some z else None) ≡ raised Overflow
    by true g = let h : word_of z ≡ Some (cast_unsigned w32 z) = ap (λ b. if b then Some (cast_unsigned w32 z) else None) (fits_same z ∙ g) in absurd (cc)
    by false g = refl

-- the bits of an integer are a word
bits_below : (z : ℤ) → FitsSigned w32 z → cast_unsigned w32 z < 2 ^ 32
bits_below (pos n) h = let l = h.sfits in omega arith
bits_below (negsuc n) h = omega arith

pub word_of_int : (z : ℤ) (m : ℕ) → word_of z ≡ Some m → (m ≡ cast_unsigned w32 z) × (cast_unsigned w32 z < 2 ^ 32)
word_of_int z m e = by (fits_word z) refl e
  where
    by : (b : Bool) → fits_word z ≡ b → (if b then Some (cast_unsigned w32 z) else None) ≡ Some m → (m ≡ cast_unsigned w32 z) × (cast_unsigned w32 z < 2 ^ 32)
    by true f g = let h : cast_unsigned w32 z ≡ m = cc in (sym h, bits_below z (fits_signed z f))
    by false f g = absurd (cc)

pub int_of_small : (m : ℕ) → m < 2 ^ 31 → word_of (pos m) ≡ Some m
int_of_small m lt = ap (λ b. if b then Some m else None) (lt-ltb m (2 ^ 31) lt)

-- a word shifted with its sign
shifted_below : (z : ℤ) (k : ℕ) → cast_unsigned w32 z < 2 ^ 32 → cast_unsigned w32 (int_shr z k) < 2 ^ 32
shifted_below (pos j) k lt = let l = div-le_self j (2 ^ k) in omega arith
shifted_below (negsuc j) k lt = omega arith

pub signed_below : (m n : ℕ) → m < 2 ^ 32 → n < 2 ^ 32 → shift_signed m n < 2 ^ 32
signed_below m n p q = shifted_below (cast_signed w32 m) (min n 31) (let e = of_z-to_z w32 m p in omega (arith, e, p))

pub fits_word_of : (z : ℤ) → FitsSigned w32 z → fits_word z ≡ true
fits_word_of (pos n) h = lt-ltb n (2 ^ 31) h.sfits
fits_word_of (negsuc n) h = lt-ltb n (2 ^ 31) h.sfits

-- a word's bits as an integer have the word
pub signed_word : (m : ℕ) → m < 2 ^ 32 → word_of (cast_signed w32 m) ≡ Some m
signed_word m lt =
    let z = cast_signed w32 m in
    ap (λ b. if b then Some (cast_unsigned w32 z) else None) (fits_word_of z (sfits_to_z (record { fits = lt }))) ∙ ap Some (of_z-to_z w32 m lt)
