-- Reading a string constant piece by piece.
use Rattle.std.proofs.Common.{◌≡◌, ℕ, zero, suc, ◌+◌, ◌-◌, ◌<◌, ◌==◌, false, List, [], ◌∷◌, ◌++◌, Some, None, length, get_or, drop, option_to_list, option_and_then, if◌then◌else◌, refl, arith, ap, ◌∙◌}
use Rattle.std.proofs.lemmas.List.{at_drop_more, drop-drop}
use Rattle.sml_lexer.specs.declared.strings.Piece.{Piece}
use Rattle.sml_lexer.specs.Strings.{next_piece, quoted}

-- bytes that belong to the piece before are skipped
pub skip : (n : ℕ) (so_far text : List ℕ) → quoted n so_far text ≡ quoted 0 so_far (drop n text)
skip zero so_far text = refl
skip (suc n) so_far [] = refl
skip (suc n) so_far (c ∷ text) = skip n so_far text

-- at a byte of the text
at_byte : (so_far text : List ℕ) (at : ℕ) → at < length text → quoted 0 so_far (drop at text) ≡ (if get_or text at 0 == 34 then Some (record { value = so_far; rest = drop (at + 1) text }) else option_and_then (λ p. quoted (p.len - 1) (so_far ++ option_to_list p.value) (drop (at + 1) text)) (next_piece (drop at text)))
at_byte so_far text at h = at_drop_more (quoted 0 so_far) text at 0 h ∙ rw (at_drop_more next_piece text at 0 h) refl

pub breaks : (so_far text : List ℕ) (at : ℕ) → at < length text → (get_or text at 0 == 34) ≡ false → next_piece (drop at text) ≡ None → quoted 0 so_far (drop at text) ≡ None
breaks so_far text at h n e = at_byte so_far text at h ∙ rw (n, e) refl

pub goes_on : (so_far text : List ℕ) (at : ℕ) (p : Piece) → at < length text → (get_or text at 0 == 34) ≡ false → next_piece (drop at text) ≡ Some p → 0 < p.len → quoted 0 so_far (drop at text) ≡ quoted 0 (so_far ++ option_to_list p.value) (drop (at + p.len) text)
goes_on so_far text at p h n e some =
    let more = so_far ++ option_to_list p.value in
    let place : at + 1 + (p.len - 1) ≡ at + p.len = omega arith in
    at_byte so_far text at h ∙ rw (n, e) (skip (p.len - 1) more (drop (at + 1) text)) ∙ ap (quoted 0 more) (drop-drop (p.len - 1) (at + 1) text ∙ ap (λ k. drop k text) place)
