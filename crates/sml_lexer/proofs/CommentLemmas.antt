-- Going through a comment.
use Rattle.std.proofs.Common.{◌≡◌, ℕ, ◌+◌, ◌-◌, ◌<◌, ◌≤◌, ◌==◌, true, false, List, [], ◌∷◌, Some, None, length, get_or, drop, if◌then◌else◌, refl, arith, ◌∙◌, length-drop}
use Rattle.std.proofs.lemmas.List.{at_drop_more}
use Rattle.sml_lexer.specs.Comments.{after_comments, opens, closes}

-- at two bytes of the text
at_two : (n : ℕ) (text : List ℕ) (at : ℕ) → at + 1 < length text → after_comments n (drop at text) ≡ (if opens (get_or text at 0) (get_or text (at + 1) 0) then after_comments (n + 1) (drop (at + 2) text) else (if closes (get_or text at 0) (get_or text (at + 1) 0) then (if n == 1 then Some (drop (at + 2) text) else after_comments (n - 1) (drop (at + 2) text)) else after_comments n (drop (at + 1) text)))
at_two n text at h =
    let within : at < length text = omega arith in
    let place : at + 1 + 1 ≡ at + 2 = omega arith in
    let c = get_or text at 0 in
    let d = get_or text (at + 1) 0 in
    let first = at_drop_more (after_comments n) text at 0 within in
    let second = at_drop_more (λ r. after_comments n (c ∷ r)) text (at + 1) 0 h in
    let last = at_drop_more (after_comments n) text (at + 1) 0 h in
    first ∙ second ∙ rw (last, place) refl

pub opens_one : (n : ℕ) (text : List ℕ) (at : ℕ) → at + 1 < length text → opens (get_or text at 0) (get_or text (at + 1) 0) ≡ true → after_comments n (drop at text) ≡ after_comments (n + 1) (drop (at + 2) text)
opens_one n text at h e = at_two n text at h ∙ rw e refl

pub closes_one : (n : ℕ) (text : List ℕ) (at : ℕ) → at + 1 < length text → opens (get_or text at 0) (get_or text (at + 1) 0) ≡ false → closes (get_or text at 0) (get_or text (at + 1) 0) ≡ true → (n == 1) ≡ false → after_comments n (drop at text) ≡ after_comments (n - 1) (drop (at + 2) text)
closes_one n text at h e f g = at_two n text at h ∙ rw (e, f, g) refl

pub passes : (n : ℕ) (text : List ℕ) (at : ℕ) → at + 1 < length text → opens (get_or text at 0) (get_or text (at + 1) 0) ≡ false → closes (get_or text at 0) (get_or text (at + 1) 0) ≡ false → after_comments n (drop at text) ≡ after_comments n (drop (at + 1) text)
passes n text at h e f = at_two n text at h ∙ rw (e, f) refl

at_most_one : (n : ℕ) (r : List ℕ) → length r ≤ 1 → after_comments n r ≡ None
at_most_one n [] h = refl
at_most_one n (c ∷ []) h = refl
at_most_one n (c ∷ d ∷ r) h = absurd (omega arith)

-- no bracket is left
pub stays_open : (n : ℕ) (text : List ℕ) (at : ℕ) → length text ≤ at + 1 → after_comments n (drop at text) ≡ None
stays_open n text at h = at_most_one n (drop at text) (omega (arith, length-drop at text))
