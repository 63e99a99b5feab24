-- The texts that are there so far.
use Rattle.std.proofs.Common.{◌≡◌, refl, ℕ, zero, suc, ◌+◌, ◌-◌, ◌<◌, List, [], ◌∷◌, ◌++◌, length, sym, ap, ◌∙◌, ⊎_elim, arith, append_assoc, length-append, get_or}
use Rattle.std.proofs.lemmas.Bool.{cases_lt}
use Rattle.std.proofs.lemmas.List.{get_or_append_left, get_or_push, get_or_past}
use Rattle.machine_code.specs.Image.{text_word, text_words, place_of, text_place, packet_words}

pub word-of-some : (t : List ℕ) → 0 < length t → text_word t ≡ length t ∷ t
word-of-some [] lt = absurd (omega (arith, lt))
word-of-some (c ∷ t) lt = refl

pub place-of-some : (x : ℕ) (t : List ℕ) → 0 < length t → place_of x t ≡ x
place-of-some x [] lt = absurd (omega (arith, lt))
place-of-some x (c ∷ t) lt = refl

module _ (texts : List (List ℕ)) (old : List ℕ) where
  -- what is there, with the rest, is the whole; where they stand, and where the rest is to stand
  pub record TextsSoFar (rest : List (List ℕ)) (words places : List ℕ) : Type 0 where
    pub whole : words ++ text_words rest ≡ old ++ text_words texts
    pub found : (t e : ℕ) → t < length places → get_or places t e ≡ text_place (length old) texts t
    pub behind : (t : ℕ) → text_place (length words) rest t ≡ text_place (length old) texts (length places + t)

  pub texts-next : (t : List ℕ) (rest : List (List ℕ)) (words words' places places' : List ℕ) (p : ℕ) → TextsSoFar (t ∷ rest) words places
      → words' ≡ words ++ text_word t → p ≡ place_of (length words) t → places' ≡ places ++ p ∷ [] → TextsSoFar rest words' places'
  texts-next t rest words words' places places' p f ew ep el =
      let long : length places' ≡ length places + 1 = ap length el ∙ length-append places (p ∷ []) in
      let here : p ≡ text_place (length old) texts (length places) =
      ep ∙ f.behind 0 ∙ ap (text_place (length old) texts) (let z : length places + 0 ≡ length places = omega arith in z) in
      let wide : length words' ≡ length words + length (text_word t) = ap length ew ∙ length-append words (text_word t) in
      record {
        whole = ap (λ l. l ++ text_words rest) ew ∙ append_assoc words (text_word t) (text_words rest) ∙ f.whole;
        found = λ i e lt.
            ⊎_elim (λ below. ap (λ l. get_or l i e) el ∙ get_or_append_left places (p ∷ []) e i below ∙ f.found i e below)
            (λ past.
            let same : length places ≡ i = omega (arith, past, lt, long) in
            ap (λ l. get_or l i e) el ∙ get_or_push places p e i same ∙ here ∙ ap (text_place (length old) texts) same)
            (cases_lt i (length places));
        behind = λ i. ap (λ n. text_place n rest i) wide ∙ f.behind (suc i)
            ∙ ap (text_place (length old) texts) (let z : length places + suc i ≡ length places' + i = omega (arith, long) in z);
      }

  pub texts-done : (words places : List ℕ) → TextsSoFar [] words places → (i : ℕ) → get_or places i 0 ≡ text_place (length old) texts i
  texts-done words places f i =
      ⊎_elim (λ below. f.found i 0 below)
      (λ past. get_or_past places i 0 past
      ∙ f.behind (i - length places) ∙ ap (text_place (length old) texts) (let z : length places + (i - length places) ≡ i = omega (arith, past) in z))
      (cases_lt i (length places))

-- one packet more
pub packets-next : (words more new : List ℕ) (name name' left : ℕ) (all : List ℕ) → words ++ packet_words name left ≡ all → 0 < left
    → more ≡ words ++ name ∷ [] → new ≡ more ++ 0 ∷ [] → name' ≡ name + 1 → new ++ packet_words name' (left - 1) ≡ all
packets-next words more new name name' left all h pos em en ee =
    let next : left ≡ suc (left - 1) = omega (arith, pos) in
    ap (λ l. l ++ packet_words name' (left - 1)) (en ∙ ap (λ l. l ++ 0 ∷ []) em ∙ append_assoc words (name ∷ []) (0 ∷ []))
    ∙ append_assoc words (name ∷ 0 ∷ []) (packet_words name' (left - 1))
    ∙ ap (λ z. words ++ name ∷ 0 ∷ packet_words z (left - 1)) ee
    ∙ ap (λ z. words ++ packet_words name z) (sym next)
    ∙ h
