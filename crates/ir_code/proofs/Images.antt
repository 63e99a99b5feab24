-- What is read is an image's, and what is an image's is read.
use Rattle.std.proofs.Common.{◌≡◌, ℕ, ◌+◌, ◌*◌, List, [], ◌∷◌, ◌++◌, length, drop, Some, None, refl, sym, ap, ◌∙◌, arith}
use Rattle.std.specs.List.{AllByRecursion, flat_map}
use Rattle.std.proofs.lemmas.List.{append-nil, length-append}
use Rattle.std.proofs.lemmas.List.Concat.{flat_map-append}
use Rattle.std.proofs.Math.Seq.{drop-append_seam}
use Rattle.ir_code.specs.Program.{Program}
use Rattle.ir_code.specs.declared.instr.Instr.{Instr}
use Rattle.ir_code.specs.declared.refused.ImageRefused.{ImageRefused}
use Rattle.ir_code.specs.declared.refused.ImageRefused.TheVariants.{BadImage, Memory}
use Rattle.ir_code.specs.ImageBytes.{magic, word_bytes, words_of, image_words, image_bytes, ImageBytes, IsWord, IsProgram, words, header_failed, first_failed, unknown_from}
use Rattle.ir_code.specs.Reading.{instr_bytes, HasHeader, HasConstants, HasCode}
use Rattle.ir_code.specs.Refused.{IfOffset}
use Rattle.ir_code.proofs.Cuts.{instrs-words, words-all, all_append, code_words, length-bytes, length-code, none_unknown}
use Rattle.ir_code.proofs.Checks.{none_fails, goes_on}

-- the image in the parts in which it is written and read
pub image_parts : (p : Program) → magic ++ flat_map word_bytes (1 ∷ length p.constants ∷ length p.code ∷ []) ++ flat_map word_bytes p.constants ++ flat_map instr_bytes p.code ≡ image_bytes p
image_parts p =
    let e : flat_map word_bytes p.constants ++ flat_map instr_bytes p.code ≡ flat_map word_bytes (p.constants ++ flat_map words_of p.code) =
    ap (λ (x : List ℕ). flat_map word_bytes p.constants ++ x) (instrs-words p.code) ∙ sym (flat_map-append word_bytes p.constants (flat_map words_of p.code)) in
    ap (λ (x : List ℕ). magic ++ flat_map word_bytes (1 ∷ length p.constants ∷ length p.code ∷ []) ++ x) e

pub image_read : (bytes constants : List ℕ) (code : List Instr) (k n : ℕ) (rest after : List ℕ) → HasHeader bytes k n rest → HasConstants rest constants after → length constants ≡ k → HasCode after code [] → length code ≡ n
    → IsProgram (record { constants = constants; code = code }) × ImageBytes (record { constants = constants; code = code }) bytes
image_read bytes constants code k n rest after h c ck d dn =
    let p : Program = record { constants = constants; code = code } in
    let last : after ≡ flat_map instr_bytes code = d.parts ∙ append-nil (flat_map instr_bytes code) in
    let whole : bytes ≡ magic ++ flat_map word_bytes (1 ∷ length constants ∷ length code ∷ []) ++ flat_map word_bytes constants ++ flat_map instr_bytes code =
    rw (h.parts, c.parts, last, ← ck, ← dn) refl in
    (record { constants = c.are_words; code = d.are_words; small = rw (ck, dn) h.small }, whole ∙ image_parts p)

pub words-image : (p : Program) → IsProgram p → words (image_bytes p) ≡ 827870285 ∷ image_words p
words-image p is =
    let said : AllByRecursion IsWord (827870285 ∷ image_words p) =
    (omega arith, (omega arith, (omega (arith, is.small), (omega (arith, is.small), all_append IsWord p.constants (flat_map words_of p.code) is.constants (code_words p.code is.code))))) in
    ap words (sym (append-nil (image_bytes p))) ∙ words-all (827870285 ∷ image_words p) [] said ∙ append-nil (827870285 ∷ image_words p)

-- every check passes on the bytes of a program
pub passes : (p : Program) → IsProgram p → first_failed (image_bytes p) ≡ None
passes p is =
    let k = length p.constants in
    let n = length p.code in
    let e : words (image_bytes p) ≡ 827870285 ∷ image_words p = words-image p is in
    let len : length (image_bytes p) ≡ 16 + 4 * k + 16 * n =
    length-bytes (827870285 ∷ image_words p) ∙ omega (arith, length-append p.constants (flat_map words_of p.code), length-code p.code) in
    let front = magic ++ flat_map word_bytes (1 ∷ k ∷ n ∷ []) ++ flat_map word_bytes p.constants in
    let starts : 16 + 4 * k ≡ length front = omega (arith, length-bytes p.constants) in
    let past : drop (16 + 4 * k) (image_bytes p) ≡ flat_map instr_bytes p.code =
    ap (drop (16 + 4 * k)) (sym (image_parts p)) ∙ ap (λ (m : ℕ). drop m (front ++ flat_map instr_bytes p.code)) starts ∙ drop-append_seam front (flat_map instr_bytes p.code) in
    let none : header_failed (image_bytes p) ≡ None = none_fails (image_bytes p) 827870285 k n (p.constants ++ flat_map words_of p.code) (omega (arith, len)) refl e is.small len in
    goes_on (image_bytes p) 827870285 1 k n (p.constants ++ flat_map words_of p.code) e none ∙ none_unknown (16 + 4 * k) p.code (drop (16 + 4 * k) (image_bytes p)) is.code past

-- so bytes with a failed check are no program's
pub no_program : (bytes : List ℕ) (k : ℕ) → first_failed bytes ≡ Some k → (p : Program) → IsProgram p → ¬ ImageBytes p bytes
no_program bytes k h = λ p is e. let clash : Some k ≡ None = sym h ∙ ap first_failed e ∙ passes p is in cc

pub none_has : (bytes : List ℕ) (e : ImageRefused) → IfOffset e (λ k. first_failed bytes ≡ Some k) → IfOffset e (λ _. (p : Program) → IsProgram p → ¬ ImageBytes p bytes)
none_has bytes Memory h = tt
none_has bytes (BadImage k) h = no_program bytes k h

pub constants_left : (bytes constants rest : List ℕ) → HasConstants bytes constants rest → length bytes ≡ 4 * length constants + length rest
constants_left bytes constants rest h = ap length h.parts ∙ omega (arith, length-append (flat_map word_bytes constants) rest, length-bytes constants)

pub constants_past : (bytes constants rest : List ℕ) (k : ℕ) → HasConstants bytes constants rest → length constants ≡ k → drop (4 * k) bytes ≡ rest
constants_past bytes constants rest k h e =
    let m : 4 * k ≡ length (flat_map word_bytes constants) = omega (arith, length-bytes constants) in
    rw (m, h.parts) (drop-append_seam (flat_map word_bytes constants) rest)

-- a refusal of the code is one of the whole
pub code_refused : (bytes rest constants after : List ℕ) (k : ℕ) (e : ImageRefused) → first_failed bytes ≡ unknown_from (16 + 4 * k) (drop (4 * k) rest) → HasConstants rest constants after → length constants ≡ k
    → IfOffset e (λ j. unknown_from (16 + 4 * k) after ≡ Some j) → IfOffset e (λ j. first_failed bytes ≡ Some j)
code_refused bytes rest constants after k Memory goes c ck h = tt
code_refused bytes rest constants after k (BadImage j) goes c ck h = goes ∙ ap (unknown_from (16 + 4 * k)) (constants_past rest constants after k c ck) ∙ h
