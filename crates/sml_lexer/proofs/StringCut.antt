-- String constants in texts that are cut off.
use Rattle.std.proofs.Common.{◌≡◌, ℕ, zero, suc, ◌+◌, ◌-◌, ◌<◌, ◌≤◌, ◌⊎◌, inl, inr, true, false, ◌==◌, List, [], ◌∷◌, ◌++◌, length, take, drop, Option, Some, None, option_to_list, refl, arith, sym, ap, ◌∙◌}
use Rattle.std.proofs.lemmas.Bool.{cases_Bool}
use Rattle.std.proofs.lemmas.List.{take-take}
use Rattle.sml_lexer.specs.declared.chars.Class.TheVariants.{Space}
use Rattle.sml_lexer.specs.declared.strings.Piece.{Piece}
use Rattle.sml_lexer.specs.Chars.{byte, is_digit, is_space, run_len}
use Rattle.sml_lexer.specs.Strings.{control_escape, decimal_escape, escape, gap, hex_escape, letter_escape, next_piece, quoted, Quoted, written_in}
use Rattle.sml_lexer.proofs.CutLemmas.{byte_cut, drop_cut, run_len_same}

written_len : (n : ℕ) (o : Option ℕ) (p : Piece) → written_in n o ≡ Some p → p.len ≡ n
written_len n None p e = cc
written_len n (Some c) p e = let same : record { value = Some c; len = n } ≡ p = cc in ap (λ q. q.len) (sym same)

piece_len : (v : Option ℕ) (n : ℕ) (p : Piece) → Some (record { value = v; len = n }) ≡ Some p → p.len ≡ n
piece_len v n p e = let same : record { value = v; len = n } ≡ p = cc in ap (λ q. q.len) (sym same)

pub decimal_cut : (text : List ℕ) (s : ℕ) → 3 ≤ s → decimal_escape (take s text) ≡ decimal_escape text
decimal_cut text s h =
    let a = byte_cut text s 0 (omega arith) in
    let b = byte_cut text s 1 (omega arith) in
    let c = byte_cut text s 2 (omega arith) in
    let front = take-take 3 s text h in
    rw (a, b, c, front) refl

pub hex_cut : (text : List ℕ) (s : ℕ) → 4 ≤ s → hex_escape (take s text) ≡ hex_escape text
hex_cut text s h =
    let a = byte_cut text s 0 (omega arith) in
    let b = byte_cut text s 1 (omega arith) in
    let c = byte_cut text s 2 (omega arith) in
    let d = byte_cut text s 3 (omega arith) in
    let front = take-take 4 s text h in
    rw (a, b, c, d, front) refl

gap_cut : (text : List ℕ) (s : ℕ) (p : Piece) → gap text ≡ Some p → p.len ≤ s + 1 → gap (take s text) ≡ Some p
gap_cut text s p e h =
    elim (cases_Bool (byte text (run_len Space text) == 92)) as (λ _. gap (take s text) ≡ Some p) [
      | inl is ↦
          let whole : Some (record { value = None; len = run_len Space text + 2 }) ≡ Some p = rw is at e in
          let len = piece_len None (run_len Space text + 2) p whole in
          let run = run_len_same Space text s (omega (arith, len)) in
          let closing = byte_cut text s (run_len Space text) (omega (arith, len)) in
          rw (run, closing, is) whole
      | inr isnt ↦ let none : None ≡ Some p = rw isnt at e in cc
    ]

none_some : (p : Piece) → None ≡ Some p → ⊥
none_some p e = cc

gap_some : (text : List ℕ) (s : ℕ) (p : Piece) → gap text ≡ Some p → p.len ≤ s + 1 → 0 < s
gap_some text s p e h =
    elim (cases_Bool (byte text (run_len Space text) == 92)) as (λ _. 0 < s) [
      | inl is ↦
          let whole : Some (record { value = None; len = run_len Space text + 2 }) ≡ Some p = rw is at e in
          omega (arith, piece_len None (run_len Space text + 2) p whole)
      | inr isnt ↦ let none : None ≡ Some p = rw isnt at e in absurd (none_some p none)
    ]

pub digits_case : (text : List ℕ) → is_space (byte text 0) ≡ false → is_digit (byte text 0) ≡ true → escape text ≡ written_in 4 (decimal_escape text)
digits_case text isnt is = rw (isnt, is) refl

escape_cut : (text : List ℕ) (s : ℕ) (p : Piece) → escape text ≡ Some p → p.len ≤ s + 1 → escape (take s text) ≡ Some p
escape_cut text s p e h =
    elim (cases_Bool (is_space (byte text 0))) as (λ _. escape (take s text) ≡ Some p) [
      | inl is ↦
          let g : gap text ≡ Some p = rw is at e in
          let first = byte_cut text s 0 (gap_some text s p g h) in
          rw (first, is) (gap_cut text s p g h)
      | inr no_space ↦ elim (cases_Bool (is_digit (byte text 0))) as (λ _. escape (take s text) ≡ Some p) [
        | inl is ↦
            let w : written_in 4 (decimal_escape text) ≡ Some p = sym (digits_case text no_space is) ∙ e in
            let len = written_len 4 (decimal_escape text) p w in
            let first = byte_cut text s 0 (omega (arith, len)) in
            let same = decimal_cut text s (omega (arith, len)) in
            digits_case (take s text) (ap is_space first ∙ no_space) (ap is_digit first ∙ is) ∙ ap (written_in 4) same ∙ w
        | inr no_digit ↦ elim (cases_Bool (byte text 0 == 117)) as (λ _. escape (take s text) ≡ Some p) [
          | inl is ↦
              let w : written_in 6 (hex_escape (drop 1 text)) ≡ Some p = rw (no_space, no_digit, is) at e in
              let len = written_len 6 (hex_escape (drop 1 text)) p w in
              let first = byte_cut text s 0 (omega (arith, len)) in
              let same : hex_escape (drop 1 (take s text)) ≡ hex_escape (drop 1 text) = ap hex_escape (drop_cut text s 1 (omega (arith, len))) ∙ hex_cut (drop 1 text) (s - 1) (omega (arith, len)) in
              rw (first, no_space, no_digit, is) (ap (written_in 6) same ∙ w)
          | inr no_u ↦ elim (cases_Bool (byte text 0 == 94)) as (λ _. escape (take s text) ≡ Some p) [
            | inl is ↦
                let w : written_in 3 (control_escape (byte text 1)) ≡ Some p = rw (no_space, no_digit, no_u, is) at e in
                let len = written_len 3 (control_escape (byte text 1)) p w in
                let first = byte_cut text s 0 (omega (arith, len)) in
                let second = byte_cut text s 1 (omega (arith, len)) in
                rw (first, no_space, no_digit, no_u, is) (ap (λ c. written_in 3 (control_escape c)) second ∙ w)
            | inr no_caret ↦
                let w : written_in 2 (letter_escape (byte text 0)) ≡ Some p = rw (no_space, no_digit, no_u, no_caret) at e in
                let len = written_len 2 (letter_escape (byte text 0)) p w in
                let first = byte_cut text s 0 (omega (arith, len)) in
                rw (first, no_space, no_digit, no_u, no_caret) w
          ]
        ]
      ]
    ]

-- a piece stays where the cut leaves its bytes
pub piece_cut : (text : List ℕ) (s : ℕ) (p : Piece) → next_piece text ≡ Some p → 0 < s → p.len ≤ s → next_piece (take s text) ≡ Some p
piece_cut text s p e some h =
    let first = byte_cut text s 0 some in
    elim (cases_Bool (byte text 0 == 92)) as (λ _. next_piece (take s text) ≡ Some p) [
      | inl is ↦
          let inner : escape (drop 1 text) ≡ Some p = rw is at e in
          let same : escape (drop 1 (take s text)) ≡ Some p = ap escape (drop_cut text s 1 (omega arith)) ∙ escape_cut (drop 1 text) (s - 1) p inner (omega arith) in
          rw (first, is) same
      | inr isnt ↦ rw first (rw isnt (rw isnt at e))
    ]

pub record CutsString (skipped : ℕ) (so_far text : List ℕ) (q : Quoted) : Type 0 where
  pub len : ℕ
  pub beyond : skipped < len
  pub within : len ≤ length text
  pub rest_is : q.rest ≡ drop len text
  pub same : (s : ℕ) → len ≤ s → quoted skipped so_far (take s text) ≡ Some (record { value = q.value; rest = drop len (take s text) })

closing : (c : ℕ) (so_far text : List ℕ) (q : Quoted) → (c == 34) ≡ true → quoted 0 so_far (c ∷ text) ≡ Some q → CutsString 0 so_far (c ∷ text) q
closing c so_far text q is e =
    let ends : Some (record { value = so_far; rest = text }) ≡ Some q = rw is at e in
    let q_is : record { value = so_far; rest = text } ≡ q = cc in
    record {
      len = 1;
      beyond = omega arith;
      within = omega arith;
      rest_is = ap (λ x. x.rest) (sym q_is);
      same = λ s. elim s as (λ s. 1 ≤ s → quoted 0 so_far (take s (c ∷ text)) ≡ Some (record { value = q.value; rest = drop 1 (take s (c ∷ text)) })) [
        | zero ↦ λ h. absurd (omega arith)
        | suc s ↦ λ h. rw is (ap (λ v. Some (record { value = v; rest = take s text })) (ap (λ x. x.value) q_is))
      ];
    }

piece_then : (c : ℕ) (so_far text : List ℕ) (q : Quoted) (p : Piece) → (c == 34) ≡ false → next_piece (c ∷ text) ≡ Some p → CutsString (p.len - 1) (so_far ++ option_to_list p.value) text q → CutsString 0 so_far (c ∷ text) q
piece_then c so_far text q p isnt read i = record {
  len = suc i.len;
  beyond = omega arith;
  within = omega (arith, i.within);
  rest_is = i.rest_is;
  same = λ s. elim s as (λ s. suc i.len ≤ s → quoted 0 so_far (take s (c ∷ text)) ≡ Some (record { value = q.value; rest = drop (suc i.len) (take s (c ∷ text)) })) [
    | zero ↦ λ h. absurd (omega arith)
    | suc s ↦ λ h.
        let beyond = i.beyond in
        let again : next_piece (c ∷ take s text) ≡ Some p = piece_cut (c ∷ text) (suc s) p read (omega arith) (omega (arith, beyond)) in
        rw (isnt, again) (i.same s (omega arith))
  ];
}

piece_cases : (o : Option Piece) → ((p : Piece) × (o ≡ Some p)) ⊎ (o ≡ None)
piece_cases None = inr refl
piece_cases (Some p) = inl (p, refl)

none_quoted : (q : Quoted) → None ≡ Some q → ⊥
none_quoted q e = cc

pub string_cut : (text : List ℕ) (skipped : ℕ) (so_far : List ℕ) (q : Quoted) → quoted skipped so_far text ≡ Some q → CutsString skipped so_far text q
string_cut [] zero so_far q e = absurd (none_quoted q e)
string_cut [] (suc skipped) so_far q e = absurd (none_quoted q e)
string_cut (c ∷ text) (suc skipped) so_far q e =
    let i = string_cut text skipped so_far q e in
    record {
      len = suc i.len;
      beyond = omega (arith, i.beyond);
      within = omega (arith, i.within);
      rest_is = i.rest_is;
      same = λ s. elim s as (λ s. suc i.len ≤ s → quoted (suc skipped) so_far (take s (c ∷ text)) ≡ Some (record { value = q.value; rest = drop (suc i.len) (take s (c ∷ text)) })) [
        | zero ↦ λ h. absurd (omega arith)
        | suc s ↦ λ h. i.same s (omega arith)
      ];
    }
string_cut (c ∷ text) zero so_far q e =
    elim (cases_Bool (c == 34)) as (λ _. CutsString 0 so_far (c ∷ text) q) [
      | inl is ↦ closing c so_far text q is e
      | inr isnt ↦ elim (piece_cases (next_piece (c ∷ text))) as (λ _. CutsString 0 so_far (c ∷ text) q) [
        | inl p ↦
            let on : quoted (p.0.len - 1) (so_far ++ option_to_list p.0.value) text ≡ Some q = rw (isnt, p.1) at e in
            piece_then c so_far text q p.0 isnt p.1 (string_cut text (p.0.len - 1) (so_far ++ option_to_list p.0.value) q on)
        | inr none ↦ let nothing : None ≡ Some q = rw (isnt, none) at e in absurd (none_quoted q nothing)
      ]
    ]
