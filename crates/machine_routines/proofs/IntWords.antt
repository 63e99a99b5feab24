-- Integers are their words read as signed numbers.
use Rattle.std.proofs.Common.{◌≡◌, ℕ, Bool, true, false, Some, None, ℤ, pos, negsuc, refl, sym, ap, ◌∙◌}
use Rattle.std.specs.Int.{w32, cast_unsigned}
use Rattle.std.specs.Prelude.{FitsSigned, ◌^◌, if◌then◌else◌}
use Rattle.std.proofs.lemmas.Int.{to_z-of_z}
use Rattle.std.proofs.lemmas.Bool.{ltb-true}
use Rattle.ir_code.specs.Words.{int_of, fits_word, word_of}

fits_signed : (z : ℤ) → fits_word z ≡ true → FitsSigned w32 z
fits_signed (pos n) e = record { sfits = ltb-true n (2 ^ 31) e }
fits_signed (negsuc n) e = record { sfits = ltb-true n (2 ^ 31) e }

pub int_of-word : (z : ℤ) (x : ℕ) → word_of z ≡ Some x → int_of x ≡ z
int_of-word z x e = by (fits_word z) refl e
  where
    by : (b : Bool) → fits_word z ≡ b → (if b then Some (cast_unsigned w32 z) else None) ≡ Some x → int_of x ≡ z
    by true f g = let h : cast_unsigned w32 z ≡ x = cc in ap int_of (sym h) ∙ to_z-of_z w32 z (fits_signed z f)
    by false f g = absurd (cc)

-- different integers have different words
pub words-apart : (z k : ℤ) (x y : ℕ) → word_of z ≡ Some x → word_of k ≡ Some y → x ≡ y → z ≡ k
words-apart z k x y e f same = sym (int_of-word z x e) ∙ ap int_of same ∙ int_of-word k y f
