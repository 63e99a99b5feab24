-- Entries, and where they are found.
use Rattle.std.proofs.Common.{◌≡◌, ℕ, zero, suc, ◌+◌, ◌-◌, ◌<◌, ◌≤◌, Bool, true, false, List, [], ◌∷◌, drop, length, Some, None, nat_eq, if◌then◌else◌, get_or, slice_get, refl, sym, ap, ap₂, ◌∙◌, arith}
use Rattle.std.specs.Map.{lookup}
use Rattle.std.proofs.lemmas.Bool.{eqb-true, eq-eqb}
use Rattle.closure_convert.specs.Scope.{index_of}
use Rattle.closure_convert.specs.Capture as clean
use Rattle.closure_convert.specs.Capture.{entry_of}
use Rattle.capture_table.specs.Tables.{numbers_of, place_from, IsIndex}

place-here : (es : List clean.Entry) (i p m k : ℕ) → i < length es → m ≡ get_or (numbers_of es) i 0 → (if nat_eq k m then Some p else place_from (suc p) k (drop (suc i) es)) ≡ place_from p k (drop i es)
place-here [] i p m k lt is = absurd (omega (arith, lt))
place-here (e ∷ es) zero p m k lt is = ap (λ v. if nat_eq k v then Some p else place_from (suc p) k es) is
place-here (e ∷ es) (suc i) p m k lt is = place-here es i p m k (omega (arith, lt)) is

place-more : (es : List clean.Entry) (n i m k : ℕ) → n ≡ i + 1 → i < length es → m ≡ get_or (numbers_of es) i 0 → (if nat_eq k m then Some i else place_from n k (drop n es)) ≡ place_from i k (drop i es)
place-more es n i m k e lt is = ap (λ v. if nat_eq k m then Some i else place_from v k (drop v es)) (let q : n ≡ suc i = omega (arith, e) in q) ∙ place-here es i i m k lt is

flip : (a b : ℕ) → nat_eq a b ≡ nat_eq b a
flip a b = by (nat_eq a b) (nat_eq b a) refl refl
  where
    by : (c d : Bool) → nat_eq a b ≡ c → nat_eq b a ≡ d → c ≡ d
    by true true p q = refl
    by false false p q = refl
    by true false p q = let e : nat_eq b a ≡ true = eq-eqb b a (sym (eqb-true a b p)) in absurd (cc)
    by false true p q = let e : nat_eq a b ≡ true = eq-eqb a b (sym (eqb-true b a q)) in absurd (cc)

pub placed-next : (es : List clean.Entry) (n i v : ℕ) (now new : List (ℕ × ℕ)) → n ≡ i + 1 → i < length es → v ≡ get_or (numbers_of es) i 0
    → ((q : ℕ) → lookup (nat_eq q) new ≡ (if nat_eq v q then Some i else lookup (nat_eq q) now)) → ((k : ℕ) → lookup (nat_eq k) now ≡ place_from n k (drop n es))
    → (k : ℕ) → lookup (nat_eq k) new ≡ place_from i k (drop i es)
placed-next es n i v now new m lt is put inv k = put k ∙ ap₂ (λ (b : Bool) o. if b then Some i else o) (flip v k) (inv k) ∙ place-more es n i v k m lt is

pub placed-all : (es : List clean.Entry) (n : ℕ) (places : List (ℕ × ℕ)) → n ≤ 0 → ((k : ℕ) → lookup (nat_eq k) places ≡ place_from n k (drop n es)) → IsIndex es places
placed-all es n places h inv k = inv k ∙ ap (λ m. place_from m k (drop m es)) (let z : n ≡ 0 = omega (arith, h) in z)

pub placed-none : (es : List clean.Entry) (n : ℕ) (places : List (ℕ × ℕ)) → length es ≤ n → places ≡ [] → (k : ℕ) → lookup (nat_eq k) places ≡ place_from n k (drop n es)
placed-none es n places h e k = ap (lookup (nat_eq k)) e ∙ ap (place_from n k) (sym (gone es n h))
  where
    gone : (es : List clean.Entry) (n : ℕ) → length es ≤ n → drop n es ≡ []
    gone [] zero h = refl
    gone [] (suc n) h = refl
    gone (x ∷ es) zero h = absurd (omega (arith, h))
    gone (x ∷ es) (suc n) h = gone es n (omega (arith, h))

-- found from there on
abbrev FoundFrom : List clean.Entry → (i k p : ℕ) → Type 0
FoundFrom es i k p = (entry_of k es ≡ slice_get es (p - i)) × ((i ≤ p) × (index_of k (numbers_of es) + i ≡ p))

later : (e : clean.Entry) (es : List clean.Entry) (i q : ℕ) → suc i ≤ q → slice_get es (q - suc i) ≡ slice_get (e ∷ es) (q - i)
later e es i q l = ap (slice_get (e ∷ es)) (let w : suc (q - suc i) ≡ q - i = omega (arith, l) in w)

some-by : (e : clean.Entry) (es : List clean.Entry) (i k p : ℕ) (b : Bool) → (place_from (suc i) k es ≡ Some p → FoundFrom es (suc i) k p) → (if b then Some i else place_from (suc i) k es) ≡ Some p
    → ((if b then Some e else entry_of k es) ≡ slice_get (e ∷ es) (p - i)) × ((i ≤ p) × ((if b then zero else suc (index_of k (numbers_of es))) + i ≡ p))
some-by e es i k p true f h =
    let q : i ≡ p = (cc) in
    (ap (slice_get (e ∷ es)) (let z : 0 ≡ p - i = omega (arith, q) in z), (omega (arith, q), omega (arith, q)))
some-by e es i k p false f h =
    let r = f h in
    let l = r.1.0 in
    let m = r.1.1 in
    (r.0 ∙ later e es i p l, (omega (arith, l), omega (arith, m)))

some-from : (es : List clean.Entry) (i k p : ℕ) → place_from i k es ≡ Some p → FoundFrom es i k p
some-from [] i k p h = absurd (cc)
some-from (e ∷ es) i k p h = some-by e es i k p (nat_eq k e.number) (λ g. some-from es (suc i) k p g) h

none-by : (e : clean.Entry) (es : List clean.Entry) (i k : ℕ) (b : Bool) → (place_from (suc i) k es ≡ None → (entry_of k es ≡ None) × (index_of k (numbers_of es) ≡ length es)) → (if b then Some i else place_from (suc i) k es) ≡ None
    → ((if b then Some e else entry_of k es) ≡ None) × ((if b then zero else suc (index_of k (numbers_of es))) ≡ suc (length es))
none-by e es i k true f h = absurd (cc)
none-by e es i k false f h = let r = f h in (r.0, ap suc r.1)

none-from : (es : List clean.Entry) (i k : ℕ) → place_from i k es ≡ None → (entry_of k es ≡ None) × (index_of k (numbers_of es) ≡ length es)
none-from [] i k h = (refl, refl)
none-from (e ∷ es) i k h = none-by e es i k (nat_eq k e.number) (λ g. none-from es (suc i) k g) h

module _ (es : List clean.Entry) (places : List (ℕ × ℕ)) (index : IsIndex es places) (k : ℕ) where
  pub entry-some : (p : ℕ) → lookup (nat_eq k) places ≡ Some p → slice_get es p ≡ entry_of k es
  entry-some p h = let r = some-from es 0 k p (sym (index k) ∙ h) in ap (slice_get es) (let z : p ≡ p - 0 = omega arith in z) ∙ sym r.0

  pub place-some : (p : ℕ) → lookup (nat_eq k) places ≡ Some p → p ≡ index_of k (numbers_of es)
  place-some p h = let r = some-from es 0 k p (sym (index k) ∙ h) in let m = r.1.1 in omega (arith, m)

  pub entry-none : lookup (nat_eq k) places ≡ None → entry_of k es ≡ None
  entry-none h = (none-from es 0 k (sym (index k) ∙ h)).0

  pub place-none : lookup (nat_eq k) places ≡ None → index_of k (numbers_of es) ≡ length es
  place-none h = (none-from es 0 k (sym (index k) ∙ h)).1
