-- Reserved words by their first bytes, and the longest front that isn't reserved.
use Rattle.std.proofs.Common.{◌≡◌, ℕ, zero, suc, ◌-◌, ◌<◌, ◌==◌, inl, inr, true, List, [], ◌∷◌, take, arith, refl, ap, sym, ◌∙◌}
use Rattle.std.proofs.lemmas.Bool.{cases_Bool, eq-eqb}
use Rattle.std.proofs.lemmas.Slice.Eq.{bytes_eq-Decides}
use Rattle.std.specs.Str.{bytes_eq}
use Rattle.mlc_names.specs.declared.token.Reserved.{Reserved}
use Rattle.sml_lexer.specs.Chars.{byte}
use Rattle.sml_lexer.specs.ReservedWords.{beginning, free_len, free_or, spelling, spelt}
use Rattle.sml_lexer.proofs.CutLemmas.{byte_cut}

pub free_step : (words : List Reserved) (len : ℕ) (text : List ℕ) → 0 < len → free_len words len text ≡ free_or (spelt words (take len text)) len (free_len words (len - 1) text)
free_step words zero text h = absurd (omega arith)
free_step words (suc n) text h = let less : suc n - 1 ≡ n = omega arith in ap (λ m. free_or (spelt words (take (suc n) text)) (suc n) (free_len words m text)) (sym less)

-- no word spells a text that begins with another byte
pub spelt_beginning : (words : List Reserved) (text : List ℕ) → spelt (beginning (byte text 0) words) text ≡ spelt words text
spelt_beginning [] text = refl
spelt_beginning (word ∷ others) text =
    let first = byte text 0 in
    elim (cases_Bool (bytes_eq (spelling word) text)) as (λ _. spelt (beginning first (word ∷ others)) text ≡ spelt (word ∷ others) text) [
      | inl is ↦
          let begins : (byte (spelling word) 0 == first) ≡ true = eq-eqb (byte (spelling word) 0) first (ap (λ t. byte t 0) ((bytes_eq-Decides (spelling word) text).0 is)) in
          rw (begins, is) refl
      | inr isnt ↦ elim (cases_Bool (byte (spelling word) 0 == first)) as (λ _. spelt (beginning first (word ∷ others)) text ≡ spelt (word ∷ others) text) [
        | inl begins ↦ rw (begins, isnt) (spelt_beginning others text)
        | inr other ↦ rw (other, isnt) (spelt_beginning others text)
      ]
    ]

pub free_beginning : (words : List Reserved) (len : ℕ) (text : List ℕ) → free_len (beginning (byte text 0) words) len text ≡ free_len words len text
free_beginning words zero text = refl
free_beginning words (suc n) text =
    let first = byte text 0 in
    let front = take (suc n) text in
    let here : spelt (beginning first words) front ≡ spelt words front = ap (λ c. spelt (beginning c words) front) (sym (byte_cut text (suc n) 0 (omega arith))) ∙ spelt_beginning words front in
    ap (λ o. free_or o (suc n) (free_len (beginning first words) n text)) here ∙ ap (free_or (spelt words front) (suc n)) (free_beginning words n text)
