-- Bytes as words, and words as instructions.
use Rattle.std.proofs.Common.{◌≡◌, ℕ, suc, ◌^◌, ◌<◌, ◌+◌, ◌*◌, true, false, not, List, [], ◌∷◌, ◌++◌, length, get_or, map, Some, None, refl, sym, ap, ◌∙◌, append_assoc, arith}
use Rattle.std.specs.List.{AllByRecursion, flat_map, prefix_len, position}
use Rattle.std.proofs.lemmas.Bool.{lt-ltb, le-ltb}
use Rattle.std.proofs.lemmas.List.{append-nil, length-append, length-map}
use Rattle.std.proofs.lemmas.List.Concat.{flat_map-append}
use Rattle.std.proofs.lemmas.Nat.{from_le_bytes-to_le_bytes_4}
use Rattle.ir_code.specs.declared.instr.Instr.{Instr}
use Rattle.ir_code.specs.declared.instr.Instr.TheVariants.{Li, Mov, Jmp, Brz, Switch, Call, Ret, Acc, PushHandler, PopHandler, Raise, End, Alloc, AllocVar, Ld, St, Copy, Add, Sub, Mul, IDiv, IMod, IQuot, IRem, WAdd, WSub, WMul, WDiv, WMod, And, Or, Xor, Shl, Shr, Sar, ILt, ULt, Eq, SCmp, IText, Print}
use Rattle.ir_code.specs.ImageBytes.{Row, row_of, words_of, word_bytes, IsWord, fours, words, is_instr, unknown_from}
use Rattle.ir_code.specs.Reading.{instr_bytes, HasWords, HasInstr, HasCode}

pub words-front : (n : ℕ) (rest : List ℕ) → IsWord n → words (word_bytes n ++ rest) ≡ n ∷ words rest
words-front n rest lt = ap (λ (w : ℕ). w ∷ words rest) (from_le_bytes-to_le_bytes_4 n lt)

pub words-all : (ws rest : List ℕ) → AllByRecursion IsWord ws → words (flat_map word_bytes ws ++ rest) ≡ ws ++ words rest
words-all [] rest h = refl
words-all (w ∷ ws) rest h =
    ap words (append_assoc (word_bytes w) (flat_map word_bytes ws) rest) ∙ words-front w (flat_map word_bytes ws ++ rest) h.0 ∙ ap (λ (x : List ℕ). w ∷ x) (words-all ws rest h.1)

pub length-bytes : (ws : List ℕ) → length (flat_map word_bytes ws) ≡ 4 * length ws
length-bytes [] = refl
length-bytes (w ∷ ws) = omega (arith, length-bytes ws, length-append (word_bytes w) (flat_map word_bytes ws))

pub fours-rows : (code : List Instr) (rest : List ℕ) → fours (flat_map words_of code ++ rest) ≡ map row_of code ++ fours rest
fours-rows [] rest = refl
fours-rows (i ∷ is) rest = ap (λ (x : List Row). row_of i ∷ x) (fours-rows is rest)

pub length-code : (code : List Instr) → length (flat_map words_of code) ≡ 4 * length code
length-code [] = refl
length-code (i ∷ is) = omega (arith, length-code is)

pub instrs-words : (code : List Instr) → flat_map instr_bytes code ≡ flat_map word_bytes (flat_map words_of code)
instrs-words [] = refl
instrs-words (i ∷ is) = ap (λ (x : List ℕ). instr_bytes i ++ x) (instrs-words is) ∙ sym (flat_map-append word_bytes (words_of i) (flat_map words_of is))

pub all_append : {X : Type 0} (P : X → Type 0) (xs ys : List X) → AllByRecursion P xs → AllByRecursion P ys → AllByRecursion P (xs ++ ys)
all_append P [] ys h k = k
all_append P (x ∷ xs) ys h k = (h.0, all_append P xs ys h.1 k)

pub code_words : (code : List Instr) → AllByRecursion HasWords code → AllByRecursion IsWord (flat_map words_of code)
code_words [] h = tt
code_words (i ∷ is) h = all_append IsWord (words_of i) (flat_map words_of is) h.0 (code_words is h.1)

pub row_is_instr : (i : Instr) → is_instr (row_of i) ≡ true
row_is_instr (Li _ _) = refl
row_is_instr (Mov _ _) = refl
row_is_instr (Jmp _) = refl
row_is_instr (Brz _ _) = refl
row_is_instr (Switch _ _) = refl
row_is_instr (Call _ _) = refl
row_is_instr (Ret _) = refl
row_is_instr (Acc _) = refl
row_is_instr (PushHandler _ _) = refl
row_is_instr (PopHandler _) = refl
row_is_instr (Raise _) = refl
row_is_instr End = refl
row_is_instr (Alloc _ _) = refl
row_is_instr (AllocVar _ _) = refl
row_is_instr (Ld _ _ _) = refl
row_is_instr (St _ _ _) = refl
row_is_instr (Copy _ _ _) = refl
row_is_instr (Add _ _ _) = refl
row_is_instr (Sub _ _ _) = refl
row_is_instr (Mul _ _ _) = refl
row_is_instr (IDiv _ _ _) = refl
row_is_instr (IMod _ _ _) = refl
row_is_instr (IQuot _ _ _) = refl
row_is_instr (IRem _ _ _) = refl
row_is_instr (WAdd _ _ _) = refl
row_is_instr (WSub _ _ _) = refl
row_is_instr (WMul _ _ _) = refl
row_is_instr (WDiv _ _ _) = refl
row_is_instr (WMod _ _ _) = refl
row_is_instr (And _ _ _) = refl
row_is_instr (Or _ _ _) = refl
row_is_instr (Xor _ _ _) = refl
row_is_instr (Shl _ _ _) = refl
row_is_instr (Shr _ _ _) = refl
row_is_instr (Sar _ _ _) = refl
row_is_instr (ILt _ _ _) = refl
row_is_instr (ULt _ _ _) = refl
row_is_instr (Eq _ _ _) = refl
row_is_instr (SCmp _ _ _) = refl
row_is_instr (IText _ _) = refl
row_is_instr (Print _) = refl

-- where the words of instructions stand, the first that are none come after them
prefix_rows : (code : List Instr) (more : List Row) → prefix_len (λ r. not (not (is_instr r))) (map row_of code ++ more) ≡ length code + prefix_len (λ r. not (not (is_instr r))) more
prefix_rows [] more = omega arith
prefix_rows (i ∷ is) more = rw (row_is_instr i) (omega (arith, prefix_rows is more))

pub no_unknown : (code : List Instr) → position (λ r. not (is_instr r)) (map row_of code) ≡ None
no_unknown code =
    let p : prefix_len (λ r. not (not (is_instr r))) (map row_of code) ≡ length code = ap (λ (x : List Row). prefix_len (λ r. not (not (is_instr r))) x) (sym (append-nil (map row_of code))) ∙ prefix_rows code [] ∙ omega arith in
    rw (p, le-ltb (length code) (length (map row_of code)) (omega (arith, length-map code row_of))) refl

unknown_at : (code : List Instr) (row : Row) (more : List Row) → is_instr row ≡ false → position (λ r. not (is_instr r)) (map row_of code ++ row ∷ more) ≡ Some (length code)
unknown_at code row more h =
    let z : prefix_len (λ r. not (not (is_instr r))) (row ∷ more) ≡ 0 = rw h refl in
    let p : prefix_len (λ r. not (not (is_instr r))) (map row_of code ++ row ∷ more) ≡ length code = prefix_rows code (row ∷ more) ∙ omega arith in
    rw (p, lt-ltb (length code) (length (map row_of code ++ row ∷ more)) (omega (arith, length-map code row_of, length-append (map row_of code) (row ∷ more)))) refl

pub rows-code : (code : List Instr) (rest : List ℕ) → AllByRecursion HasWords code → fours (words (flat_map instr_bytes code ++ rest)) ≡ map row_of code ++ fours (words rest)
rows-code code rest h =
    ap (λ (x : List ℕ). fours (words (x ++ rest))) (instrs-words code) ∙ ap fours (words-all (flat_map words_of code) rest (code_words code h)) ∙ fours-rows code (words rest)

pub unknown_found : (start : ℕ) (code : List Instr) (bytes rest : List ℕ) (row : Row) (more : List Row) → AllByRecursion HasWords code → bytes ≡ flat_map instr_bytes code ++ rest → fours (words rest) ≡ row ∷ more → is_instr row ≡ false
    → unknown_from start bytes ≡ Some (start + 16 * length code)
unfolding unknown_from
unknown_found start code bytes rest row more h parts next bad =
    let e : fours (words bytes) ≡ map row_of code ++ row ∷ more = ap (λ (x : List ℕ). fours (words x)) parts ∙ rows-code code rest h ∙ ap (λ (x : List Row). map row_of code ++ x) next in
    rw (e, unknown_at code row more bad) refl

pub none_unknown : (start : ℕ) (code : List Instr) (bytes : List ℕ) → AllByRecursion HasWords code → bytes ≡ flat_map instr_bytes code → unknown_from start bytes ≡ None
unfolding unknown_from
none_unknown start code bytes h parts =
    let e : fours (words bytes) ≡ map row_of code = ap (λ (x : List ℕ). fours (words x)) (parts ∙ sym (append-nil (flat_map instr_bytes code))) ∙ rows-code code [] h ∙ append-nil (map row_of code) in
    rw (e, no_unknown code) refl

-- one more instruction was read
pub code_more : (bytes : List ℕ) (code : List Instr) (rest : List ℕ) (i : Instr) (after : List ℕ) → HasCode bytes code rest → HasInstr rest i after → HasCode bytes (code ++ i ∷ []) after
code_more bytes code rest i after h one = record {
  parts = h.parts ∙ ap (λ (x : List ℕ). flat_map instr_bytes code ++ x) one.parts ∙ sym (append_assoc (flat_map instr_bytes code) (instr_bytes i) after)
      ∙ ap (λ (x : List ℕ). x ++ after) (sym (flat_map-append instr_bytes code (i ∷ []) ∙ ap (λ (y : List ℕ). flat_map instr_bytes code ++ y) (append-nil (instr_bytes i))));
  are_words = all_append HasWords code (i ∷ []) h.are_words (one.are_words, tt);
}

-- numbers that fit in a word each
pub fit_words : (ws : List ℕ) → ((i : ℕ) → get_or ws i 0 < 2 ^ 32) → AllByRecursion IsWord ws
fit_words [] h = tt
fit_words (w ∷ ws) h = (h 0, fit_words ws (λ i. h (suc i)))
