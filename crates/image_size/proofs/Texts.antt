-- Each text is there once.
use Rattle.std.proofs.Common.{◌≡◌, ◌≢◌, refl, ℕ, zero, suc, ◌+◌, ◌≤◌, List, [], ◌∷◌, map, Bool, true, false, ◌||◌, nat_eq, if◌then◌else◌, sym, ap, ◌∙◌, ⊎_elim, subst, arith}
use Rattle.std.proofs.lemmas.Bool.Decides.{eqb_tells}
use Rattle.ssa_tree.specs.Exceptions.{exceptions}
use Rattle.machine_code.specs.Sizes.{ConstantsAreShort, words_in, words_of}
use Rattle.machine_code.specs.Image.{text_of, image_of}
use Rattle.machine_rows.specs.Table.{rows}
use Rattle.machine_rows.specs.Law.{ImagesAreShort}
use Rattle.image_law.specs.ImageOf.{has, text_in}
use Rattle.image_size.specs.Size.{words, ImagesAreSmall, LongMeansLarge}

-- without the text of this number
without : List (List ℕ) → ℕ → List (List ℕ)
without [] n = []
without (t ∷ ts) zero = [] ∷ ts
without (t ∷ ts) (suc n) = t ∷ without ts n

one-less : (ts : List (List ℕ)) (n : ℕ) → words_of ts ≡ words_in (text_of ts n) + words_of (without ts n)
unfolding without
one-less [] n = refl
one-less (t ∷ ts) zero = omega arith
one-less (t ∷ ts) (suc n) = let h = one-less ts n in omega (arith, h)

same-at : (ts : List (List ℕ)) (n : ℕ) → text_of (without ts n) n ≡ []
unfolding without
same-at [] n = refl
same-at (t ∷ ts) zero = refl
same-at (t ∷ ts) (suc n) = same-at ts n

other-at : (ts : List (List ℕ)) (n i : ℕ) → i ≢ n → text_of (without ts n) i ≡ text_of ts i
unfolding without
other-at [] n i ne = refl
other-at (t ∷ ts) zero zero ne = absurd (ne refl)
other-at (t ∷ ts) zero (suc i) ne = refl
other-at (t ∷ ts) (suc n) zero ne = refl
other-at (t ∷ ts) (suc n) (suc i) ne = other-at ts n i (λ e. ne (ap suc e))

left-out : (ts : List (List ℕ)) (n i : ℕ) → text_of (without ts n) i ≡ (if nat_eq i n then [] else text_of ts i)
left-out ts n i =
    ⊎_elim (λ h. ap (text_of (without ts n)) h.1 ∙ same-at ts n ∙ sym (ap (λ b. if b then [] else text_of ts i) h.0))
    (λ h. other-at ts n i h.1 ∙ sym (ap (λ b. if b then [] else text_of ts i) h.0)) (eqb_tells i n)

none-left : (ts : List (List ℕ)) → ((i : ℕ) → words_in (text_of ts i) ≤ 0) → words_of ts ≤ 0
none-left [] h = omega arith
none-left (t ∷ ts) h = let a = h 0 in let b = none-left ts (λ i. h (suc i)) in omega (arith, a, b)

module _ (names : List (List ℕ)) where
  -- of a text that is among these
  fewer : (b h : Bool) (t u : List ℕ) → words_in t ≤ words_in (if b || h then u else []) → words_in (if b then [] else t) ≤ words_in (if h then u else [])
  fewer true true t u le = omega arith
  fewer true false t u le = omega arith
  fewer false true t u le = le
  fewer false false t u le = le

  -- a text for each exception is enough
  pub enough : (made : List ℕ) (ts : List (List ℕ)) → ((i : ℕ) → words_in (text_of ts i) ≤ words_in (text_in names made i))
      → words_of ts ≤ words_of (map (text_of names) made)
  enough [] ts h = none-left ts h
  enough (n ∷ ms) ts h =
      let rest = enough ms (without ts n) (λ i. subst (λ t. words_in t ≤ words_in (text_in names ms i)) (sym (left-out ts n i))
      (fewer (nat_eq i n) (has ms i) (text_of ts i) (text_of names i) (h i))) in
      let one = at (has ms n) (nat_eq n n) (h n) in
      omega (arith, one-less ts n, rest, one)
    where
      at : (b c : Bool) → words_in (text_of ts n) ≤ words_in (if c || b then text_of names n else []) → words_in (text_of ts n) ≤ words_in (text_of names n)
      at true true le = le
      at true false le = le
      at false true le = le
      at false false le = omega (arith, le)

pub small : ConstantsAreShort → ImagesAreShort → ImagesAreSmall
small constants code names p image is =
    let texts = is.texts in
    let c = constants rows texts p in
    let k = code texts p in
    let e = enough names (exceptions p) texts (λ i. let q = ap words_in (is.told i) in omega (arith, q)) in
    let same : words image ≡ words (image_of rows texts p) = ap words is.is in
    omega (arith, c, k, e, same)

pub large : ConstantsAreShort → ImagesAreShort → LongMeansLarge
large constants code names p image is long = let s = small constants code names p image is in omega (arith, s, long)
