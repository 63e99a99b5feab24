-- Where all checks pass, some program has the bytes.
use Rattle.std.proofs.Common.{◌≡◌, ℕ, zero, suc, ◌+◌, ◌*◌, ◌/◌, ◌%◌, ◌^◌, ◌<◌, ◌≤◌, min, Bool, true, false, not, ◌&&◌, cond, eqb, ltb, List, [], ◌∷◌, ◌++◌, length, get_or, drop, take, map, Option, Some, None, refl, sym, ap, ◌∙◌, arith}
use Rattle.std.specs.List.{AllByRecursion, flat_map, prefix_len, position, starts_with}
use Rattle.std.specs.Prelude.{slice_index}
use Rattle.std.specs.Option.{option_map, option_or}
use Rattle.std.proofs.lemmas.Bool.{ltb-false, eqb-true}
use Rattle.std.proofs.lemmas.List.{append-nil, length-map, length-take, length-drop, take-append-drop}
use Rattle.std.proofs.lemmas.List.Concat.{flat_map-append}
use Rattle.std.proofs.lemmas.Nat.{le_bytes_4}
use Rattle.std.proofs.Math.Seq.{drop-append_seam}
use Rattle.ir_code.specs.Program.{Program}
use Rattle.ir_code.specs.declared.instr.Instr.{Instr}
use Rattle.ir_code.specs.ImageBytes.{Row, row_of, listed, words_of, word_bytes, magic, image_words, ImageBytes, IsWord, IsProgram, fours, word_of, words, is_instr, constants_said, code_said, code_start, header_failed, first_failed, unknown_from}
use Rattle.ir_code.specs.ImageLaws.{ChecksAreExact}
use Rattle.ir_code.specs.Reading.{HasWords}
use Rattle.ir_code.proofs.Cuts.{words-all, length-bytes}
use Rattle.ir_code.proofs.Images.{passes}
use Rattle.ir_code.proofs.Rows.{instr_at, row_again, both}

abbrev IsByte : ℕ → Type 0
IsByte b = b < 2 ^ 8

-- ---- bytes are the bytes of their words

each_byte : (xs : List ℕ) → AllByRecursion IsByte xs → (i : ℕ) → get_or xs i 0 < 256
each_byte [] h i = omega arith
each_byte (x ∷ xs) h zero = h.0
each_byte (x ∷ xs) h (suc i) = each_byte xs h.1 i

four_bytes : (a b c d : ℕ) → AllByRecursion IsByte (a ∷ b ∷ c ∷ d ∷ []) → word_bytes (word_of (a, b, c, d)) ≡ a ∷ b ∷ c ∷ d ∷ []
four_bytes a b c d h = le_bytes_4 (a ∷ b ∷ c ∷ d ∷ []) (word_of (a, b, c, d)) refl (each_byte (a ∷ b ∷ c ∷ d ∷ []) h) refl

a_word : (a b c d : ℕ) → AllByRecursion IsByte (a ∷ b ∷ c ∷ d ∷ []) → IsWord (word_of (a, b, c, d))
a_word a b c d h = omega (arith, h.0, h.1.0, h.1.1.0, h.1.1.1.0)

record AreWords (bytes : List ℕ) (n : ℕ) : Type 0 where
  again : bytes ≡ flat_map word_bytes (words bytes)
  count : length (words bytes) ≡ n
  are_words : AllByRecursion IsWord (words bytes)

as_words : (n : ℕ) (bytes : List ℕ) → AllByRecursion IsByte bytes → length bytes ≡ 4 * n → AreWords bytes n
as_words zero [] h len = record { again = refl; count = refl; are_words = tt }
as_words zero (a ∷ bytes) h len = absurd (omega arith)
as_words (suc n) [] h len = absurd (omega arith)
as_words (suc n) (a ∷ []) h len = absurd (omega arith)
as_words (suc n) (a ∷ b ∷ []) h len = absurd (omega arith)
as_words (suc n) (a ∷ b ∷ c ∷ []) h len = absurd (omega arith)
as_words (suc n) (a ∷ b ∷ c ∷ d ∷ bytes) h len =
    let four : AllByRecursion IsByte (a ∷ b ∷ c ∷ d ∷ []) = (h.0, (h.1.0, (h.1.1.0, (h.1.1.1.0, tt)))) in
    let rest = as_words n bytes h.1.1.1.1 (omega arith) in
    record {
      again = ap (λ (x : List ℕ). x ++ bytes) (sym (four_bytes a b c d four)) ∙ ap (λ (x : List ℕ). word_bytes (word_of (a, b, c, d)) ++ x) rest.again;
      count = omega (arith, rest.count);
      are_words = (a_word a b c d four, rest.are_words);
    }

-- ---- words are the words of their rows

record AreRows (ws : List ℕ) (n : ℕ) : Type 0 where
  again : flat_map listed (fours ws) ≡ ws
  count : length (fours ws) ≡ n

as_rows : (n : ℕ) (ws : List ℕ) → length ws ≡ 4 * n → AreRows ws n
as_rows zero [] len = record { again = refl; count = refl }
as_rows zero (a ∷ ws) len = absurd (omega arith)
as_rows (suc n) [] len = absurd (omega arith)
as_rows (suc n) (a ∷ []) len = absurd (omega arith)
as_rows (suc n) (a ∷ b ∷ []) len = absurd (omega arith)
as_rows (suc n) (a ∷ b ∷ c ∷ []) len = absurd (omega arith)
as_rows (suc n) (a ∷ b ∷ c ∷ d ∷ ws) len =
    let rest = as_rows n ws (omega arith) in
    record { again = ap (λ (x : List ℕ). a ∷ b ∷ c ∷ d ∷ x) rest.again; count = omega (arith, rest.count) }

abbrev IsRow : Row → Type 0
IsRow r = is_instr r ≡ true

one_row : (b : Bool) (r : Row) (rs : List Row) → is_instr r ≡ b → suc (length rs) ≤ cond (not (not b)) (1 + prefix_len (λ r. not (not (is_instr r))) rs) 0 → (length rs ≤ prefix_len (λ r. not (not (is_instr r))) rs → AllByRecursion IsRow rs) → AllByRecursion IsRow (r ∷ rs)
one_row true r rs e le rest = (e, rest (omega arith))
one_row false r rs e le rest = absurd (omega arith)

all_rows : (rs : List Row) → length rs ≤ prefix_len (λ r. not (not (is_instr r))) rs → AllByRecursion IsRow rs
all_rows [] le = tt
all_rows (r ∷ rs) le = one_row (is_instr r) r rs refl le (all_rows rs)

not_some : (b : Bool) (x : ℕ) → cond b (Some x) None ≡ None → b ≡ false
not_some true x e = absurd cc
not_some false x e = refl

all_known : (rs : List Row) → position (λ r. not (is_instr r)) rs ≡ None → AllByRecursion IsRow rs
all_known rs e = all_rows rs (ltb-false (prefix_len (λ r. not (not (is_instr r))) rs) (length rs) (not_some (ltb (prefix_len (λ r. not (not (is_instr r))) rs) (length rs)) (prefix_len (λ r. not (not (is_instr r))) rs) e))

rows_again : (rs : List Row) → AllByRecursion IsRow rs → map row_of (map instr_at rs) ≡ rs
rows_again [] h = refl
rows_again (r ∷ rs) h = rw (row_again r h.0, rows_again rs h.1) refl

listed_rows : (code : List Instr) → flat_map words_of code ≡ flat_map listed (map row_of code)
listed_rows [] = refl
listed_rows (i ∷ is) = ap (λ (x : List ℕ). words_of i ++ x) (listed_rows is)

-- ---- the checks that passed

no_offset : (f : ℕ → ℕ) (o : Option ℕ) → option_map f o ≡ None → o ≡ None
no_offset f None e = refl
no_offset f (Some x) e = absurd cc

passed : (b : Bool) (x : ℕ) (y : Option ℕ) → cond b (Some x) y ≡ None → (b ≡ false) × (y ≡ None)
passed true x y e = absurd cc
passed false x y e = (refl, e)

not_false : (b : Bool) → not b ≡ false → b ≡ true
not_false true e = refl
not_false false e = absurd cc

record HasPassed (bytes : List ℕ) (v k n : ℕ) : Type 0 where
  long : 16 ≤ length bytes
  begins : starts_with eqb bytes magic ≡ true
  version : v ≡ 1
  small : k + 4 * n ≤ 2 ^ 27
  whole : length bytes ≡ 16 + 4 * k + 16 * n
  known : unknown_from (16 + 4 * k) (drop (16 + 4 * k) bytes) ≡ None

abbrev last_check : Option ℕ
last_check = None

abbrev length_check : List ℕ → ℕ → ℕ → Option ℕ
length_check bytes k n = cond (not (eqb (length bytes) (16 + 4 * k + 16 * n))) (Some (min (length bytes) (16 + 4 * k + 16 * n))) last_check

abbrev size_check : List ℕ → ℕ → ℕ → Option ℕ
size_check bytes k n = cond (ltb (2 ^ 27) (k + 4 * n)) (Some 8) (length_check bytes k n)

abbrev version_check : List ℕ → ℕ → ℕ → ℕ → Option ℕ
version_check bytes v k n = cond (not (eqb v 1)) (Some 4) (size_check bytes k n)

abbrev magic_check : List ℕ → ℕ → ℕ → ℕ → Option ℕ
magic_check bytes v k n = cond (not (starts_with eqb bytes magic)) (Some 0) (version_check bytes v k n)

header_passed : (bytes : List ℕ) → header_failed bytes ≡ None → unknown_from (code_start bytes) (drop (code_start bytes) bytes) ≡ None → HasPassed bytes (slice_index (words bytes) 1) (constants_said bytes) (code_said bytes)
unfolding header_failed
header_passed bytes e u =
    let v = slice_index (words bytes) 1 in
    let k = constants_said bytes in
    let n = code_said bytes in
    let a = passed (ltb (length bytes) 16) (length bytes) (magic_check bytes v k n) e in
    let b = passed (not (starts_with eqb bytes magic)) 0 (version_check bytes v k n) a.1 in
    let c = passed (not (eqb v 1)) 4 (size_check bytes k n) b.1 in
    let d = passed (ltb (2 ^ 27) (k + 4 * n)) 8 (length_check bytes k n) c.1 in
    let f = passed (not (eqb (length bytes) (16 + 4 * k + 16 * n))) (min (length bytes) (16 + 4 * k + 16 * n)) last_check d.1 in
    record {
      long = ltb-false (length bytes) 16 a.0;
      begins = not_false (starts_with eqb bytes magic) b.0;
      version = eqb-true v 1 (not_false (eqb v 1) c.0);
      small = ltb-false (2 ^ 27) (k + 4 * n) d.0;
      whole = eqb-true (length bytes) (16 + 4 * k + 16 * n) (not_false (eqb (length bytes) (16 + 4 * k + 16 * n)) f.0);
      known = u;
    }

no_first : (o p : Option ℕ) → option_or o p ≡ None → (o ≡ None) × (p ≡ None)
no_first None p e = (refl, e)
no_first (Some x) p e = absurd cc

has_passed : (bytes : List ℕ) → first_failed bytes ≡ None → HasPassed bytes (slice_index (words bytes) 1) (constants_said bytes) (code_said bytes)
unfolding first_failed
has_passed bytes e =
    let h = no_first (header_failed bytes) (unknown_from (code_start bytes) (drop (code_start bytes) bytes)) e in
    header_passed bytes h.0 h.1

four_magic : (a b c d : ℕ) (rest : List ℕ) → starts_with eqb (a ∷ b ∷ c ∷ d ∷ rest) magic ≡ true → a ∷ b ∷ c ∷ d ∷ rest ≡ magic ++ rest
four_magic a b c d rest e =
    let p = both (eqb 77 a) (eqb 76 b && (eqb 88 c && (eqb 49 d && true))) e in
    let q = both (eqb 76 b) (eqb 88 c && (eqb 49 d && true)) p.1 in
    let r = both (eqb 88 c) (eqb 49 d && true) q.1 in
    let s = both (eqb 49 d) true r.1 in
    rw (← eqb-true 77 a p.0, ← eqb-true 76 b q.0, ← eqb-true 88 c r.0, ← eqb-true 49 d s.0) refl

-- ---- the program

front_all : {X : Type 0} (P : X → Type 0) (xs ys : List X) → AllByRecursion P (xs ++ ys) → AllByRecursion P xs
front_all P [] ys h = tt
front_all P (x ∷ xs) ys h = (h.0, front_all P xs ys h.1)

back_all : {X : Type 0} (P : X → Type 0) (xs ys : List X) → AllByRecursion P (xs ++ ys) → AllByRecursion P ys
back_all P [] ys h = h
back_all P (x ∷ xs) ys h = back_all P xs ys h.1

code_words_back : (code : List Instr) → AllByRecursion IsWord (flat_map words_of code) → AllByRecursion HasWords code
code_words_back [] h = tt
code_words_back (i ∷ is) h = (front_all IsWord (words_of i) (flat_map words_of is) h, code_words_back is (back_all IsWord (words_of i) (flat_map words_of is) h))

abbrev HasImage : List ℕ → Type 0
HasImage bytes = (p : Program) × IsProgram p × ImageBytes p bytes

made : (w v k n : ℕ) (more bytes : List ℕ) → bytes ≡ flat_map word_bytes (w ∷ v ∷ k ∷ n ∷ more) → AllByRecursion IsWord more → HasPassed bytes v k n → length more ≡ k + 4 * n → HasImage bytes
unfolding unknown_from
made w v k n more bytes parts fit h len =
    let cs = take k more in
    let ds = drop k more in
    let split : cs ++ ds ≡ more = take-append-drop k more in
    let cs-len : length cs ≡ k = omega (arith, length-take k more) in
    let ds-len : length ds ≡ 4 * n = omega (arith, length-drop k more) in
    let rows = as_rows n ds ds-len in
    let code = map instr_at (fours ds) in
    let two : AllByRecursion IsWord (cs ++ ds) = rw split fit in
    let front = flat_map word_bytes (w ∷ v ∷ k ∷ n ∷ cs) in
    let cut : bytes ≡ front ++ flat_map word_bytes ds =
    parts ∙ ap (λ (x : List ℕ). flat_map word_bytes (w ∷ v ∷ k ∷ n ∷ x)) (sym split) ∙ flat_map-append word_bytes (w ∷ v ∷ k ∷ n ∷ cs) ds in
    let start : 16 + 4 * k ≡ length front = omega (arith, length-bytes (w ∷ v ∷ k ∷ n ∷ cs)) in
    let past : drop (16 + 4 * k) bytes ≡ flat_map word_bytes ds = ap (drop (16 + 4 * k)) cut ∙ ap (λ (m : ℕ). drop m (front ++ flat_map word_bytes ds)) start ∙ drop-append_seam front (flat_map word_bytes ds) in
    let inside : words (drop (16 + 4 * k) bytes) ≡ ds =
    ap words (past ∙ sym (append-nil (flat_map word_bytes ds))) ∙ words-all ds [] (back_all IsWord cs ds two) ∙ append-nil ds in
    let known : AllByRecursion IsRow (fours ds) =
    all_known (fours ds) (ap (λ (x : List ℕ). position (λ r. not (is_instr r)) (fours x)) (sym inside) ∙ no_offset (λ i. 16 + 4 * k + 16 * i) (position (λ r. not (is_instr r)) (fours (words (drop (16 + 4 * k) bytes)))) h.known) in
    let code-is : flat_map words_of code ≡ ds = listed_rows code ∙ ap (flat_map listed) (rows_again (fours ds) known) ∙ rows.again in
    let code-len : length code ≡ n = length-map (fours ds) instr_at ∙ rows.count in
    let p : Program = record { constants = cs; code = code } in
    let said : image_words p ≡ 1 ∷ k ∷ n ∷ more = rw (cs-len, code-len, code-is, split) refl in
    let program : IsProgram p = record {
      constants = front_all IsWord cs ds two;
      code = code_words_back code (rw code-is (back_all IsWord cs ds two));
      small = rw (cs-len, code-len) h.small;
    } in
    let begins : starts_with eqb (flat_map word_bytes (w ∷ v ∷ k ∷ n ∷ more)) magic ≡ true = ap (λ (x : List ℕ). starts_with eqb x magic) (sym parts) ∙ h.begins in
    let image : ImageBytes p bytes =
    parts ∙ four_magic (w % 256) (w / 256 % 256) (w / 65536 % 256) (w / 16777216 % 256) (flat_map word_bytes (v ∷ k ∷ n ∷ more)) begins ∙ ap (λ (x : ℕ). magic ++ flat_map word_bytes (x ∷ k ∷ n ∷ more)) h.version
    ∙ ap (λ (x : List ℕ). magic ++ flat_map word_bytes x) (sym said) in
    (p, program, image)

from_words : (bytes ws : List ℕ) → bytes ≡ flat_map word_bytes ws → AllByRecursion IsWord ws → HasPassed bytes (slice_index ws 1) (slice_index ws 2) (slice_index ws 3) → length ws ≡ 4 + (slice_index ws 2 + 4 * slice_index ws 3) → HasImage bytes
from_words bytes [] parts fit h len = absurd (omega arith)
from_words bytes (w ∷ []) parts fit h len = absurd (omega arith)
from_words bytes (w ∷ v ∷ []) parts fit h len = absurd (omega arith)
from_words bytes (w ∷ v ∷ k ∷ []) parts fit h len = absurd (omega arith)
from_words bytes (w ∷ v ∷ k ∷ n ∷ more) parts fit h len = made w v k n more bytes parts fit.1.1.1.1 h (omega arith)

some_image : (bytes : List ℕ) → AllByRecursion IsByte bytes → first_failed bytes ≡ None → HasImage bytes
some_image bytes fit e =
    let h = has_passed bytes e in
    let ws = as_words (4 + (constants_said bytes + 4 * code_said bytes)) bytes fit (omega (arith, h.whole)) in
    from_words bytes (words bytes) ws.again ws.are_words h ws.count

pub exact : ChecksAreExact
exact bytes fit = (some_image bytes fit, λ h. ap first_failed h.2 ∙ passes h.0 h.1)
