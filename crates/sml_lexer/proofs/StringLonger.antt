-- String constants in texts that go on.
use Rattle.std.proofs.Common.{◌≡◌, ℕ, zero, suc, ◌+◌, ◌-◌, ◌<◌, ◌≤◌, ◌⊎◌, inl, inr, Bool, true, false, ◌&&◌, ◌==◌, cond, List, [], ◌∷◌, ◌++◌, take, drop, Option, Some, None, option_to_list, refl, arith, sym, ap, ◌∙◌}
use Rattle.std.proofs.lemmas.Bool.{and_parts, cases_Bool, cases_lt, true≢false}
use Rattle.sml_lexer.specs.declared.strings.Piece.{Piece}
use Rattle.sml_lexer.specs.declared.chars.Class.TheVariants.{Space}
use Rattle.sml_lexer.specs.Chars.{byte, is_between, is_digit, is_hex_digit, is_space, run_len}
use Rattle.sml_lexer.specs.Strings.{control_escape, decimal_escape, escape, gap, hex_escape, letter_escape, next_piece, quoted, Quoted, written_in}
use Rattle.sml_lexer.proofs.CutLemmas.{byte_cut, byte_past, drop_cut, run_cut, run_len_same}
use Rattle.sml_lexer.proofs.StringCut.{decimal_cut, digits_case, hex_cut}

-- a byte that passes a test which 0 doesn't pass lies before the cut
before_cut : (p : ℕ → Bool) (text : List ℕ) (s i : ℕ) → p 0 ≡ false → p (byte (take s text) i) ≡ true → i < s
before_cut p text s i none e =
    elim (cases_lt i s) as (λ _. i < s) [
      | inl h ↦ h
      | inr h ↦ absurd (true≢false (sym e ∙ ap p (byte_past text s i h) ∙ none))
    ]

none_some : (p : Piece) → None ≡ Some p → ⊥
none_some p e = cc

written_some : (n : ℕ) (o : Option ℕ) (p : Piece) → written_in n o ≡ Some p → (c : ℕ) × (o ≡ Some c)
written_some n None p e = absurd (none_some p e)
written_some n (Some c) p e = (c, refl)

if_some : {A : Type 0} (b : Bool) (o : Option A) (a : A) → cond b o None ≡ Some a → b ≡ true
if_some true o a e = refl
if_some false o a e = cc

decimal_long : (text : List ℕ) (s c : ℕ) → decimal_escape (take s text) ≡ Some c → 3 ≤ s
decimal_long text s c e =
    let all = if_some (is_digit (byte (take s text) 0) && is_digit (byte (take s text) 1) && is_digit (byte (take s text) 2)) _ c e in
    let last = (and_parts (is_digit (byte (take s text) 0) && is_digit (byte (take s text) 1)) (is_digit (byte (take s text) 2)) all).1 in
    let h = before_cut is_digit text s 2 refl last in
    omega (arith, h)

hex_long : (text : List ℕ) (s c : ℕ) → hex_escape (take s text) ≡ Some c → 4 ≤ s
hex_long text s c e =
    let all = if_some (is_hex_digit (byte (take s text) 0) && is_hex_digit (byte (take s text) 1) && is_hex_digit (byte (take s text) 2) && is_hex_digit (byte (take s text) 3)) _ c e in
    let last = (and_parts (is_hex_digit (byte (take s text) 0) && is_hex_digit (byte (take s text) 1) && is_hex_digit (byte (take s text) 2)) (is_hex_digit (byte (take s text) 3)) all).1 in
    let h = before_cut is_hex_digit text s 3 refl last in
    omega (arith, h)

control_long : (text : List ℕ) (s c : ℕ) → control_escape (byte (take s text) 1) ≡ Some c → 2 ≤ s
control_long text s c e =
    let in_range = if_some (is_between 64 95 (byte (take s text) 1)) _ c e in
    let h = before_cut (is_between 64 95) text s 1 refl in_range in
    omega (arith, h)

gap_longer : (text : List ℕ) (s : ℕ) (p : Piece) → gap (take s text) ≡ Some p → gap text ≡ Some p
gap_longer text s p e =
    let closing = if_some (byte (take s text) (run_len Space (take s text)) == 92) _ p e in
    let h = before_cut (λ c. c == 92) text s (run_len Space (take s text)) refl closing in
    let run = run_len_same Space text s (omega (arith, h, run_cut Space text s)) in
    let last : byte (take s text) (run_len Space (take s text)) ≡ byte text (run_len Space text) = ap (byte (take s text)) run ∙ byte_cut text s (run_len Space text) (omega (arith, h, run)) in
    let same : gap (take s text) ≡ gap text = λ j. cond (last j == 92) (Some (record { value = None; len = run j + 2 })) None in
    sym same ∙ e

escape_longer : (text : List ℕ) (s : ℕ) (p : Piece) → escape (take s text) ≡ Some p → escape text ≡ Some p
escape_longer text zero p e = absurd (none_some p e)
escape_longer text (suc k) p e =
    let first : byte (take (suc k) text) 0 ≡ byte text 0 = byte_cut text (suc k) 0 (omega arith) in
    elim (cases_Bool (is_space (byte text 0))) as (λ _. escape text ≡ Some p) [
      | inl is ↦ rw is (gap_longer text (suc k) p (rw (first, is) at e))
      | inr no_space ↦ elim (cases_Bool (is_digit (byte text 0))) as (λ _. escape text ≡ Some p) [
        | inl is ↦
            let w : written_in 4 (decimal_escape (take (suc k) text)) ≡ Some p = sym (digits_case (take (suc k) text) (ap is_space first ∙ no_space) (ap is_digit first ∙ is)) ∙ e in
            let c = written_some 4 (decimal_escape (take (suc k) text)) p w in
            let same = decimal_cut text (suc k) (decimal_long text (suc k) c.0 c.1) in
            digits_case text no_space is ∙ ap (written_in 4) (sym same) ∙ w
        | inr no_digit ↦ elim (cases_Bool (byte text 0 == 117)) as (λ _. escape text ≡ Some p) [
          | inl is ↦
              let w : written_in 6 (hex_escape (drop 1 (take (suc k) text))) ≡ Some p = rw (first, no_space, no_digit, is) at e in
              let cut : drop 1 (take (suc k) text) ≡ take (suc k - 1) (drop 1 text) = drop_cut text (suc k) 1 (omega arith) in
              let v : written_in 6 (hex_escape (take (suc k - 1) (drop 1 text))) ≡ Some p = ap (λ t. written_in 6 (hex_escape t)) (sym cut) ∙ w in
              let c = written_some 6 (hex_escape (take (suc k - 1) (drop 1 text))) p v in
              let same = hex_cut (drop 1 text) (suc k - 1) (hex_long (drop 1 text) (suc k - 1) c.0 c.1) in
              rw (no_space, no_digit, is) (ap (written_in 6) (sym same) ∙ v)
          | inr no_u ↦ elim (cases_Bool (byte text 0 == 94)) as (λ _. escape text ≡ Some p) [
            | inl is ↦
                let w : written_in 3 (control_escape (byte (take (suc k) text) 1)) ≡ Some p = rw (first, no_space, no_digit, no_u, is) at e in
                let c = written_some 3 (control_escape (byte (take (suc k) text) 1)) p w in
                let second = byte_cut text (suc k) 1 (control_long text (suc k) c.0 c.1) in
                rw (no_space, no_digit, no_u, is) (ap (λ b. written_in 3 (control_escape b)) (sym second) ∙ w)
            | inr no_caret ↦
                let w : written_in 2 (letter_escape (byte text 0)) ≡ Some p = rw (first, no_space, no_digit, no_u, no_caret) at e in
                rw (no_space, no_digit, no_u, no_caret) w
          ]
        ]
      ]
    ]

piece_longer : (text : List ℕ) (s : ℕ) (p : Piece) → 0 < s → next_piece (take s text) ≡ Some p → next_piece text ≡ Some p
piece_longer text s p some e =
    let first = byte_cut text s 0 some in
    elim (cases_Bool (byte text 0 == 92)) as (λ _. next_piece text ≡ Some p) [
      | inl is ↦
          let inner : escape (drop 1 (take s text)) ≡ Some p = rw (first, is) at e in
          let cut : escape (take (s - 1) (drop 1 text)) ≡ Some p = ap escape (sym (drop_cut text s 1 (omega arith))) ∙ inner in
          rw is (escape_longer (drop 1 text) (s - 1) p cut)
      | inr isnt ↦ rw isnt (rw (first, isnt) at e)
    ]

none_quoted : (q : Quoted) → None ≡ Some q → ⊥
none_quoted q e = cc

piece_cases : (o : Option Piece) → ((p : Piece) × (o ≡ Some p)) ⊎ (o ≡ None)
piece_cases None = inr refl
piece_cases (Some p) = inl (p, refl)

-- a string constant stays one where the text goes on
pub string_longer : (text : List ℕ) (s skipped : ℕ) (so_far : List ℕ) (q : Quoted) → quoted skipped so_far (take s text) ≡ Some q → (r : Quoted) × (quoted skipped so_far text ≡ Some r)
string_longer [] zero zero so_far q e = absurd (none_quoted q e)
string_longer [] zero (suc skipped) so_far q e = absurd (none_quoted q e)
string_longer [] (suc s) zero so_far q e = absurd (none_quoted q e)
string_longer [] (suc s) (suc skipped) so_far q e = absurd (none_quoted q e)
string_longer (c ∷ text) zero zero so_far q e = absurd (none_quoted q e)
string_longer (c ∷ text) zero (suc skipped) so_far q e = absurd (none_quoted q e)
string_longer (c ∷ text) (suc s) (suc skipped) so_far q e = string_longer text s skipped so_far q e
string_longer (c ∷ text) (suc s) zero so_far q e =
    elim (cases_Bool (c == 34)) as (λ _. (r : Quoted) × (quoted 0 so_far (c ∷ text) ≡ Some r)) [
      | inl is ↦ (record { value = so_far; rest = text }, rw is refl)
      | inr isnt ↦ elim (piece_cases (next_piece (c ∷ take s text))) as (λ _. (r : Quoted) × (quoted 0 so_far (c ∷ text) ≡ Some r)) [
        | inl p ↦
            let long : next_piece (c ∷ text) ≡ Some p.0 = piece_longer (c ∷ text) (suc s) p.0 (omega arith) p.1 in
            let on : quoted (p.0.len - 1) (so_far ++ option_to_list p.0.value) (take s text) ≡ Some q = rw (isnt, p.1) at e in
            let r = string_longer text s (p.0.len - 1) (so_far ++ option_to_list p.0.value) q on in
            (r.0, rw (isnt, long) r.1)
        | inr none ↦ let nothing : None ≡ Some q = rw (isnt, none) at e in absurd (none_quoted q nothing)
      ]
    ]
