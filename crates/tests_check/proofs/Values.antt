-- What gives a value, part by part.
use Rattle.std.proofs.Common.{◌≡◌, ℕ, zero, suc, ◌+◌, ◌<◌, Bool, true, false, ◌&&◌, ◌||◌, List, [], ◌∷◌, map, length, drop, slice_index_or, refl, sym, ap, ◌∙◌, subst, arith}
use Rattle.std.specs.Bool.{◌==◌}
use Rattle.ty_core.specs.declared.scheme.Quantified.{Quantified}
use Rattle.ir_plain.specs.Tree as clean
use Rattle.ir_poly.specs.Tests.{poly}
use Rattle.ir_poly.specs.TestsChecked.{may_generalise}
use Rattle.ir_tables.specs.declared.tables.Tables.{Tables}
use Rattle.plain_tree.specs.declared.tree.Exp.{Exp}
use Rattle.plain_tree.specs.declared.tree.Step.{Step}
use Rattle.plain_tree.specs.declared.tree.Arm.{Arm}
use Rattle.plain_tree.specs.TreeOf.{StepTree, ArmTree, put, onto, firsts, arms_of, tree_of, step_of, arm_of}
use Rattle.tests_check.specs.Reads.{reading}

dropped : {A : Type 0} (n : ℕ) (xs : List A) (x : A) → n < length xs → x ≡ slice_index_or xs n x → drop n xs ≡ x ∷ drop (suc n) xs
dropped n [] x lt e = absurd (omega arith)
dropped zero (y ∷ xs) x lt e = ap (λ y. y ∷ xs) (sym e)
dropped (suc n) (y ∷ xs) x lt e = dropped n xs x (omega arith) e

all-dropped : {A : Type 0} (n : ℕ) (xs : List A) → n ≡ length xs → drop n xs ≡ []
all-dropped n xs e = ap (λ n. drop n xs) e ∙ by xs
  where
    by : {A : Type 0} (xs : List A) → drop (length xs) xs ≡ []
    by [] = refl
    by (x ∷ xs) = by xs

one-more : (n : ℕ) → suc n ≡ n + 1
one-more n = omega arith

-- whether a list from n on says what the whole does
module _ {A : Type 0} (f : List A → Bool) where
  pub next-says : (xs : List A) (n : ℕ) (x : A) (v : Bool) → n < length xs → x ≡ slice_index_or xs n x → f xs ≡ f (drop n xs) → f (x ∷ drop (suc n) xs) ≡ (v && f (drop (suc n) xs)) → v ≡ true → f xs ≡ f (drop (n + 1) xs)
  next-says xs n x v lt e i h y = i ∙ ap f (dropped n xs x lt e) ∙ h ∙ ap (λ v. v && f (drop (suc n) xs)) y ∙ ap (λ n. f (drop n xs)) (one-more n)

  pub stop-says : (xs : List A) (n : ℕ) (x : A) (v : Bool) → n < length xs → x ≡ slice_index_or xs n x → f xs ≡ f (drop n xs) → f (x ∷ drop (suc n) xs) ≡ (v && f (drop (suc n) xs)) → v ≡ false → f xs ≡ false
  stop-says xs n x v lt e i h y = i ∙ ap f (dropped n xs x lt e) ∙ h ∙ ap (λ v. v && f (drop (suc n) xs)) y

  pub end-says : (xs : List A) (n : ℕ) → n ≡ length xs → f xs ≡ f (drop n xs) → f xs ≡ f []
  end-says xs n e i = i ∙ ap f (all-dropped n xs e)

abbrev pub steps_say : Tables → clean.Exp poly → List Step → Bool
steps_say t e ss = clean.is_value (onto (map (step_of (reading t)) ss) e)

abbrev pub arms_say : Tables → List Arm → Bool
arms_say t as_ = clean.are_values (arms_of (map (arm_of (reading t)) as_))

abbrev pub attempts_say : Tables → clean.Exp poly → List Exp → Bool
attempts_say t d es = clean.is_value (firsts (map (tree_of (reading t)) es) d)

pub none-may : (qs : List Quantified) (o : clean.Op poly) → qs ≡ [] → may_generalise qs o ≡ true
none-may qs o e = ap (λ qs. may_generalise qs o) e

pub some-may : (qs : List Quantified) (o : clean.Op poly) → (qs ≡ [] → ⊥) → may_generalise qs o ≡ clean.is_value_op o
some-may [] o n = absurd (n refl)
some-may (q ∷ qs) o n = refl

pub not-empty : (xs qs : List Quantified) (b : Bool) → b ≡ (length xs == 0) → b ≡ false → xs ≡ qs → qs ≡ [] → ⊥
not-empty xs qs b e f i n = let h : (length xs == 0) ≡ true = ap (λ l. length l == 0) (i ∙ n) in absurd (cc)

pub turned : (a b : Bool) → (a && b) ≡ (b && a)
turned true true = refl
turned true false = refl
turned false true = refl
turned false false = refl
