-- The checks of an image, one after the other.
use Rattle.std.proofs.Common.{◌≡◌, ◌≢◌, ℕ, ◌+◌, ◌*◌, ◌^◌, ◌<◌, ◌≤◌, min, true, false, not, cond, eqb, ltb, List, ◌∷◌, ◌++◌, length, drop, Option, Some, None, refl, ap, ◌∙◌}
use Rattle.std.specs.List.{starts_with}
use Rattle.std.specs.Prelude.{slice_index}
use Rattle.std.proofs.lemmas.Bool.{lt-ltb, le-ltb, ne_eqb, eq-eqb}
use Rattle.std.proofs.Math.Seq.{drop-append-add}
use Rattle.ir_code.specs.ImageBytes.{magic, word_bytes, words, header_failed, first_failed, unknown_from, code_start}

pub fails_short : (bytes : List ℕ) → length bytes < 16 → header_failed bytes ≡ Some (length bytes)
unfolding header_failed
fails_short bytes lt = rw (lt-ltb (length bytes) 16 lt) refl

pub fails_magic : (bytes : List ℕ) → 16 ≤ length bytes → starts_with eqb bytes magic ≡ false → header_failed bytes ≡ Some 0
unfolding header_failed
fails_magic bytes le m = rw (le-ltb (length bytes) 16 le, m) refl

pub fails_version : (bytes : List ℕ) (w v : ℕ) (rest : List ℕ) → 16 ≤ length bytes → starts_with eqb bytes magic ≡ true → words bytes ≡ w ∷ v ∷ rest → v ≢ 1 → header_failed bytes ≡ Some 4
unfolding header_failed
fails_version bytes w v rest le m e ne = rw (le-ltb (length bytes) 16 le, m, e, ne_eqb v 1 ne) refl

-- the checks after the version's, where the header's words are these
abbrev sized : List ℕ → ℕ → ℕ → Option ℕ
sized bytes k n =
    cond (ltb (2 ^ 27) (k + 4 * n)) (Some 8)
    (cond (not (eqb (length bytes) (16 + 4 * k + 16 * n))) (Some (min (length bytes) (16 + 4 * k + 16 * n))) None)

checks : (bytes : List ℕ) (w k n : ℕ) (rest : List ℕ) → 16 ≤ length bytes → starts_with eqb bytes magic ≡ true → words bytes ≡ w ∷ 1 ∷ k ∷ n ∷ rest → header_failed bytes ≡ sized bytes k n
unfolding header_failed
checks bytes w k n rest le m e = rw (le-ltb (length bytes) 16 le, m, e) refl

pub fails_size : (bytes : List ℕ) (w k n : ℕ) (rest : List ℕ) → 16 ≤ length bytes → starts_with eqb bytes magic ≡ true → words bytes ≡ w ∷ 1 ∷ k ∷ n ∷ rest → 2 ^ 27 < k + 4 * n → header_failed bytes ≡ Some 8
fails_size bytes w k n rest le m e big = checks bytes w k n rest le m e ∙ rw (lt-ltb (2 ^ 27) (k + 4 * n) big) refl

pub fails_length : (bytes : List ℕ) (w k n : ℕ) (rest : List ℕ) → 16 ≤ length bytes → starts_with eqb bytes magic ≡ true → words bytes ≡ w ∷ 1 ∷ k ∷ n ∷ rest → k + 4 * n ≤ 2 ^ 27
    → length bytes ≢ 16 + 4 * k + 16 * n → header_failed bytes ≡ Some (min (length bytes) (16 + 4 * k + 16 * n))
fails_length bytes w k n rest le m e small ne =
    checks bytes w k n rest le m e ∙ rw (le-ltb (2 ^ 27) (k + 4 * n) small, ne_eqb (length bytes) (16 + 4 * k + 16 * n) ne) refl

pub none_fails : (bytes : List ℕ) (w k n : ℕ) (rest : List ℕ) → 16 ≤ length bytes → starts_with eqb bytes magic ≡ true → words bytes ≡ w ∷ 1 ∷ k ∷ n ∷ rest → k + 4 * n ≤ 2 ^ 27
    → length bytes ≡ 16 + 4 * k + 16 * n → header_failed bytes ≡ None
none_fails bytes w k n rest le m e small whole =
    checks bytes w k n rest le m e ∙ rw (le-ltb (2 ^ 27) (k + 4 * n) small, eq-eqb (length bytes) (16 + 4 * k + 16 * n) whole) refl

pub header_first : (bytes : List ℕ) (k : ℕ) → header_failed bytes ≡ Some k → first_failed bytes ≡ Some k
unfolding first_failed
header_first bytes k e = rw e refl

pub code_next : (bytes : List ℕ) → header_failed bytes ≡ None → first_failed bytes ≡ unknown_from (code_start bytes) (drop (code_start bytes) bytes)
unfolding first_failed
code_next bytes e = rw e refl

pub goes_on : (bytes : List ℕ) (w v k n : ℕ) (rest : List ℕ) → words bytes ≡ w ∷ v ∷ k ∷ n ∷ rest → header_failed bytes ≡ None → first_failed bytes ≡ unknown_from (16 + 4 * k) (drop (16 + 4 * k) bytes)
goes_on bytes w v k n rest e none =
    let start : code_start bytes ≡ 16 + 4 * k = ap (λ (ws : List ℕ). 16 + 4 * slice_index ws 2) e in
    code_next bytes none ∙ ap (λ (m : ℕ). unknown_from m (drop m bytes)) start

-- what follows the header's four words
pub past_header : (w v k n m : ℕ) (bytes r1 r2 r3 r4 : List ℕ) → bytes ≡ word_bytes w ++ r1 → r1 ≡ word_bytes v ++ r2 → r2 ≡ word_bytes k ++ r3 → r3 ≡ word_bytes n ++ r4 → drop (16 + m) bytes ≡ drop m r4
past_header w v k n m bytes r1 r2 r3 r4 e1 e2 e3 e4 = rw (e1, e2, e3, e4) (drop-append-add (word_bytes w ++ word_bytes v ++ word_bytes k ++ word_bytes n) r4 m)
