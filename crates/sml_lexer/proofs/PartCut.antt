-- Identifiers in texts that are cut off.
use Rattle.std.proofs.Common.{◌≡◌, ℕ, zero, suc, ◌<◌, ◌≤◌, inl, inr, false, ◌==◌, List, length, take, refl, arith, sym, ap, ◌∙◌, Some, None}
use Rattle.std.proofs.lemmas.Bool.{cases_Bool, cases_lt, ne_eqb}
use Rattle.std.proofs.lemmas.List.{take-take}
use Rattle.mlc_names.specs.declared.token.Reserved.{Reserved}
use Rattle.sml_lexer.specs.declared.chars.Class.{Class}
use Rattle.sml_lexer.specs.declared.chars.Class.TheVariants.{NameChar, SymbolChar}
use Rattle.sml_lexer.specs.declared.identifiers.Part.{Part}
use Rattle.sml_lexer.specs.declared.identifiers.Part.TheVariants.{Letters, Symbols, Nothing}
use Rattle.sml_lexer.specs.Chars.{byte, is_letter, is_symbol_char, run_len}
use Rattle.sml_lexer.specs.Identifiers.{next_part, unless_empty}
use Rattle.sml_lexer.specs.ReservedWords.{free_len, free_or, spelt, symbolic, words}
use Rattle.sml_lexer.proofs.CutLemmas.{byte_cut, run_cut, run_within}

-- fronts before the cut
free_take : (taken : List Reserved) (text : List ℕ) (s n : ℕ) → n ≤ s → free_len taken n (take s text) ≡ free_len taken n text
free_take taken text s zero h = refl
free_take taken text s (suc n) h =
    let ih = free_take taken text s n (omega arith) in
    let front = take-take (suc n) s text h in
    ap (λ t. free_or (spelt taken t) (suc n) (free_len taken n (take s text))) front ∙ ap (free_or (spelt taken (take (suc n) text)) (suc n)) ih

pub free_at_most : (taken : List Reserved) (text : List ℕ) (n : ℕ) → free_len taken n text ≤ n
free_at_most taken text zero = omega arith
free_at_most taken text (suc n) =
    elim (spelt taken (take (suc n) text)) as (λ o. free_or o (suc n) (free_len taken n text) ≤ suc n) [
      | None ↦ omega arith
      | Some w ↦ omega (arith, free_at_most taken text n)
    ]

-- the longest front is found from any place that is no shorter
free_from : (taken : List Reserved) (text : List ℕ) (n m : ℕ) → m ≤ n → free_len taken n text ≤ m → free_len taken m text ≡ free_len taken n text
free_from taken text zero zero h k = refl
free_from taken text zero (suc m) h k = absurd (omega arith)
free_from taken text (suc n) m h k =
    elim (cases_lt n m) as (λ _. free_len taken m text ≡ free_len taken (suc n) text) [
      | inl more ↦ let same : m ≡ suc n = omega arith in ap (λ x. free_len taken x text) same
      | inr less ↦ (elim (spelt taken (take (suc n) text)) as (λ o. free_or o (suc n) (free_len taken n text) ≤ m → free_len taken m text ≡ free_or o (suc n) (free_len taken n text)) [
        | None ↦ λ bound. absurd (omega arith)
        | Some w ↦ λ bound. free_from taken text n m less bound
      ]) k
    ]

free_same : (taken : List Reserved) (class : Class) (text : List ℕ) (s : ℕ) → free_len taken (run_len class text) text ≤ s → free_len taken (run_len class (take s text)) (take s text) ≡ free_len taken (run_len class text) text
free_same taken class text s h =
    let len = run_cut class text s in
    let at_most = free_at_most taken text (run_len class text) in
    free_take taken text s (run_len class (take s text)) (omega (arith, len)) ∙ free_from taken text (run_len class text) (run_len class (take s text)) (omega (arith, len)) (omega (arith, len))

-- how many bytes an identifier has
abbrev pub part_len : Part → ℕ
part_len (Letters n) = n
part_len (Symbols n) = n
part_len Nothing = 0

empty_len : (sort : ℕ → Part) (n : ℕ) → ((m : ℕ) → part_len (sort m) ≡ m) → part_len (unless_empty sort n) ≡ n
empty_len sort zero h = refl
empty_len sort (suc n) h = let some : (suc n == 0) ≡ false = ne_eqb (suc n) 0 (λ e. absurd (omega arith)) in rw some (h (suc n))

empty_none : (sort : ℕ → Part) (n : ℕ) → ((m : ℕ) → part_len (sort m) ≡ m) → part_len (unless_empty sort n) ≤ 0 → unless_empty sort n ≡ Nothing
empty_none sort zero h bound = refl
empty_none sort (suc n) h bound = absurd (omega (arith, empty_len sort (suc n) h))

no_part : (text : List ℕ) → part_len (next_part text) ≤ 0 → next_part text ≡ Nothing
no_part text h =
    elim (cases_Bool (is_letter (byte text 0))) as (λ _. next_part text ≡ Nothing) [
      | inl is ↦ rw is (empty_none Letters (free_len words (run_len NameChar text) text) (λ _. refl) (rw is at h))
      | inr isnt ↦ elim (cases_Bool (is_symbol_char (byte text 0))) as (λ _. next_part text ≡ Nothing) [
        | inl is ↦ rw (isnt, is) (empty_none Symbols (free_len symbolic (run_len SymbolChar text) text) (λ _. refl) (rw (isnt, is) at h))
        | inr neither ↦ rw (isnt, neither) refl
      ]
    ]

-- the identifier stays, where the cut leaves a byte and no less than the identifier
part_some : (text : List ℕ) (s : ℕ) → 0 < s → part_len (next_part text) ≤ s → next_part (take s text) ≡ next_part text
part_some text s some h =
    let first = byte_cut text s 0 some in
    elim (cases_Bool (is_letter (byte text 0))) as (λ _. next_part (take s text) ≡ next_part text) [
      | inl is ↦
          let len = empty_len Letters (free_len words (run_len NameChar text) text) (λ _. refl) in
          let bound : part_len (unless_empty Letters (free_len words (run_len NameChar text) text)) ≤ s = rw is at h in
          let same = free_same words NameChar text s (omega (arith, len, bound)) in
          rw (first, is) (ap (unless_empty Letters) same)
      | inr isnt ↦ elim (cases_Bool (is_symbol_char (byte text 0))) as (λ _. next_part (take s text) ≡ next_part text) [
        | inl is ↦
            let len = empty_len Symbols (free_len symbolic (run_len SymbolChar text) text) (λ _. refl) in
            let bound : part_len (unless_empty Symbols (free_len symbolic (run_len SymbolChar text) text)) ≤ s = rw (isnt, is) at h in
            let same = free_same symbolic SymbolChar text s (omega (arith, len, bound)) in
            rw (first, isnt, is) (ap (unless_empty Symbols) same)
        | inr neither ↦ rw (first, isnt, neither) refl
      ]
    ]

pub part_cut : (text : List ℕ) (s : ℕ) → part_len (next_part text) ≤ s → next_part (take s text) ≡ next_part text
part_cut text zero h = sym (no_part text h)
part_cut text (suc s) h = part_some text (suc s) (omega arith) h

pub part_within : (text : List ℕ) → part_len (next_part text) ≤ length text
part_within text =
    elim (cases_Bool (is_letter (byte text 0))) as (λ _. part_len (next_part text) ≤ length text) [
      | inl is ↦
          let len = empty_len Letters (free_len words (run_len NameChar text) text) (λ _. refl) in
          rw is (omega (arith, len, free_at_most words text (run_len NameChar text), run_within NameChar text))
      | inr isnt ↦ elim (cases_Bool (is_symbol_char (byte text 0))) as (λ _. part_len (next_part text) ≤ length text) [
        | inl is ↦
            let len = empty_len Symbols (free_len symbolic (run_len SymbolChar text) text) (λ _. refl) in
            rw (isnt, is) (omega (arith, len, free_at_most symbolic text (run_len SymbolChar text), run_within SymbolChar text))
        | inr neither ↦ rw (isnt, neither) (omega arith)
      ]
    ]
