-- The character of a text at a place, and texts of a character and of an integer.
use Rattle.std.proofs.Common.{◌≡◌, ℕ, suc, ◌+◌, ◌<◌, ◌≤◌, ◌^◌, List, [], ◌∷◌, ◌++◌, length, Some, None, true, refl, sym, ap, ◌∙◌, subst, ⊎_elim, arith}
use Rattle.std.specs.Prelude.{ℤ, pos, negsuc, slice_get, slice_index_or, nat_lt, unsigned_abs, if◌then◌else◌, FitsSigned}
use Rattle.std.specs.Int.{w32}
use Rattle.std.proofs.lemmas.Bool.{cases_lt, lt-ltb, le-ltb, and_from}
use Rattle.word_arithmetic.specs.Arithmetic.{signed_text}
use Rattle.ir_code.specs.declared.instr.Instr.{Instr}
use Rattle.ir_code.specs.declared.instr.Instr.TheVariants.{Li, Ld, ULt, IText}
use Rattle.ir_code.specs.declared.halt.Halt.TheVariants.{NoStack}
use Rattle.ir_code.specs.Words.{int_text, word_of, one_if, word_less}
use Rattle.ir_code.specs.Laws.{ControlLaws, MemoryLaws, ArithmeticLaws, NextLaws}
use Rattle.mlc_prims.specs.LitOf.{Literal, int, char, string, char_in, int_in}
use Rattle.mlc_prims.specs.PrimOf.{Gives, made, raised}
use Rattle.mlc_prims.specs.Table.{one, string_place, or_subscript, byte_at}
use Rattle.mlc_prims.specs.declared.basis.BasisPrimitive.TheVariants.{CharAt, StringOf, TextOf}
use Rattle.mlc_prims.specs.declared.prim.PrimExn.TheVariants.{Subscript}
use Rattle.first_values.specs.Values.{literal}
use Rattle.first_values.specs.Operations.{ints, chars, texts, row_at}
use Rattle.machine_code.specs.of_machine_routines.Layout.{Word, TextAt, Is}
use Rattle.machine_code.specs.of_machine_routines.Runs.{HasAt, Frame, inside, Leads}
use Rattle.machine_code.proofs.of_machine_routines.Seams.{cut_at}
use Rattle.machine_code.proofs.of_machine_routines.Leads.{trans, cut, out_after}
use Rattle.machine_code.specs.Rows.{Packets, HoldAll, no_operand, an_operand, Ready, Comes, given, way_on}
use Rattle.machine_code.specs.Rows as rows
use Rattle.machine_primitives.specs.RowLaws.{RowIsRight}
use Rattle.machine_primitives.specs.RowCode.{byte_of, text_of_one, text_of_int}
use Rattle.machine_primitives.proofs.Orders.{int_of-word, fits_of_word, word_of_int, int_of_small}
use Rattle.machine_primitives.proofs.Shapes.{same_comes}
use Rattle.machine_primitives.proofs.Window.{at, old, young, lacks, li, ld, brz, brz_zero, add, alloc, no_alloc, st, itext, no_itext}
use Rattle.machine_primitives.proofs.Window as window
use Rattle.machine_primitives.proofs.MoreTexts.{text_in, text_bytes, byte_there, byte_below, new_text}
use Rattle.machine_primitives.proofs.Rows.{Two, both, at_kind}
use Rattle.machine_primitives.proofs.MoreRows.{One, alone, int_alone, char_alone}

-- a word below 2^31 is its integer
pub word_small : (z : ℤ) (n : ℕ) → word_of z ≡ Some n → n < 2 ^ 31 → z ≡ pos n
word_small z n w lt = sym (int_of-word z n w) ∙ int_of-word (pos n) n (int_of_small n lt)

texts_char : (ls : List Literal) → row_at texts CharAt ls ≡ at_kind texts (string_place (λ s i. or_subscript char (byte_at s i))) ls
texts_char [] = refl
texts_char (l ∷ ls) = refl

chars_string : (ls : List Literal) → row_at chars StringOf ls ≡ at_kind chars (one char_in (λ a. made (string (a ∷ [])))) ls
chars_string [] = refl
chars_string (l ∷ ls) = refl

ints_text : (ls : List Literal) → row_at ints TextOf ls ≡ at_kind ints (one int_in (λ a. made (string (signed_text a)))) ls
ints_text [] = refl
ints_text (l ∷ ls) = refl

abbrev Placed : List Word → (List ℕ → ℤ → Gives) → Gives → ℕ → ℕ → Type 0
Placed lay F g m n = (s : List ℕ) × (z : ℤ) × TextAt lay s m × (word_of z ≡ Some n) × (F s z ≡ g)

text_place : (lay : List Word) (front : List ℕ) (F : List ℕ → ℤ → Gives) (g : Gives) {xs : List ℕ} {ls : List Literal} → HoldAll lay front xs ls → at_kind texts (string_place F) ls ≡ Some g
    → Two front (Placed lay F g) xs
text_place lay front F g (an_operand x (string s) m e i (an_operand y (int z) n e' i' no_operand)) r = both x y m n e e' (s, z, i, i', (let q : F s z ≡ g = cc in q))
text_place lay front F g (an_operand x (string s) m e i (an_operand y l n e' i' no_operand)) r = absurd (cc)
text_place lay front F g h r = absurd (cc)

-- the byte that a word tells
there_is : (s : List ℕ) (z : ℤ) (n : ℕ) → word_of z ≡ Some n → n < length s → length s < 2 ^ 31 → byte_at s z ≡ Some (slice_index_or s n 0)
there_is s z n w lt small =
    ap (byte_at s) (word_small z n w (omega arith)) ∙ ap (λ b. if b then Some (slice_index_or s n 0) else None) (lt-ltb n (length s) lt)

there_is_none : (s : List ℕ) (z : ℤ) (n : ℕ) → word_of z ≡ Some n → length s ≤ n → byte_at s z ≡ None
there_is_none s (pos j) n w le = let e = word_of_int (pos j) n w in ap (λ b. if b then Some (slice_index_or s j 0) else None) (le-ltb j (length s) (omega (arith, e.0)))
there_is_none s (negsuc j) n w le = refl

two_words : (ys : List ℕ) → length ys ≡ 2 → (p : ℕ) × (q : ℕ) × (ys ≡ p ∷ q ∷ [])
two_words [] e = absurd (omega arith)
two_words (p ∷ []) e = absurd (omega arith)
two_words (p ∷ q ∷ []) e = (p, q, refl)
two_words (p ∷ q ∷ r ∷ ys) e = absurd (omega arith)

abs_small : (z : ℤ) → FitsSigned w32 z → unsigned_abs z < 2 ^ 64
abs_small (pos n) h = let l = h.sfits in omega arith
abs_small (negsuc n) h = let l = h.sfits in omega arith

module _ (C : ControlLaws) (M : MemoryLaws) (A : ArithmeticLaws) (N : NextLaws) where
  char_by : (code : List Instr) (f : Frame) (lay : List Word) (front above mem free : List ℕ) → Ready f lay mem free → (q : Gives) (packets : Packets) → Is lay (given (raised Subscript)) (packets Subscript)
      → (pc other : ℕ) {xs : List ℕ} → Two front (Placed lay (λ s i. or_subscript char (byte_at s i)) q) xs → HasAt code pc (byte_of packets pc (length front) other xs)
      → Comes code f lay front mem (given q) (way_on q (pc + 6) other) (inside f pc (front ++ above) mem free)
  char_by code f lay front [] mem free ready q packets is pc other (both x y m n e e' w) has =
      rows.Comes.lacks_stack (cut code N NoStack (inside f pc (front ++ []) mem free) (Ld (length front + 1) x 0) has.0 (lacks C M A N code f front pc 1 (length front + 1) [] mem free _ refl (omega arith)))
  char_by code f lay front (a ∷ []) mem free ready q packets is pc other (both x y m n e e' w) has =
      rows.Comes.lacks_stack (cut code N NoStack (inside f pc (front ++ a ∷ []) mem free) (Ld (length front + 1) x 0) has.0 (lacks C M A N code f front pc 1 (length front + 1) (a ∷ []) mem free _ refl (omega arith)))
  char_by code f lay front (a ∷ b ∷ rest) mem free ready q packets is pc other (both x y m n e e' w) has = ⊎_elim inside_text outside_text (cases_lt n (length w.0))
    where
      first : length front ≡ length front + 0
      first = omega arith

      start : Leads code (at C M A N code f front pc (a ∷ b ∷ rest) mem free) (at C M A N code f front (pc + 1 + 1 + 1) (packets Subscript ∷ word_less n (length w.0) ∷ rest) mem free)
      start =
          let L = length w.0 in
          let t = text_in f lay mem free w.0 m ready.shows ready.small w.2 in
          trans code (ld C M A N code f front pc 1 (length front + 1) (a ∷ b ∷ rest) mem free refl (omega arith) x 0 m L (old C M A N code f front (a ∷ b ∷ rest) x m e) t.0 has.0)
          (trans code (window.two C M A N code f front (pc + 1) 1 (length front + 1) (a ∷ L ∷ rest) mem free refl (omega arith) ULt word_less A.ult y (length front + 1) n L
          (old C M A N code f front (a ∷ L ∷ rest) y n e') (young C M A N code f front (a ∷ L ∷ rest) 1 (length front + 1) L refl refl) has.1.0)
          (li C M A N code f front (pc + 1 + 1) 0 (length front) (a ∷ word_less n L ∷ rest) mem free first (omega arith) (packets Subscript) has.1.1.0))

      inside_text : n < length w.0 → Comes code f lay front mem (given q) (way_on q (pc + 6) other) (inside f pc (front ++ a ∷ b ∷ rest) mem free)
      inside_text lt =
          let L = length w.0 in
          let k = packets Subscript in
          let c = slice_index_or w.0 n 0 in
          let t = text_in f lay mem free w.0 m ready.shows ready.small w.2 in
          let end = t.2 in
          let small = t.3 in
          let less = word_less n L in
          let one : word_less n L ≡ 1 = ap one_if (lt-ltb n L lt) in
          let next_one : m + 1 + n ≡ m + n + 1 = omega arith in
          let texts_at = w.2 in
          let there : slice_get mem (m + n + 1) ≡ Some c = subst (λ z. slice_get mem z ≡ Some c) next_one (ready.shows (m + 1 + n) c (byte_there lay w.0 (m + 1) n texts_at.1 lt)) in
          let q_is : made (char c) ≡ q = ap (or_subscript char) (sym (there_is w.0 w.1 n w.3 lt (omega arith))) ∙ w.4 in
          let s4 = brz C M A N code f front (pc + 1 + 1 + 1) (k ∷ less ∷ rest) mem free (length front + 1) other less (young C M A N code f front (k ∷ less ∷ rest) 1 (length front + 1) less refl refl) (omega arith) has.1.1.1.0 in
          let s5 = add C M A N code f front (pc + 1 + 1 + 1 + 1) 1 (length front + 1) (k ∷ less ∷ rest) mem free refl (omega arith) x y m n (old C M A N code f front (k ∷ less ∷ rest) x m e)
          (old C M A N code f front (k ∷ less ∷ rest) y n e') (omega arith) has.1.1.1.1.0 in
          let s6 = ld C M A N code f front (pc + 1 + 1 + 1 + 1 + 1) 0 (length front) (k ∷ (m + n) ∷ rest) mem free first (omega arith) (length front + 1) 1 (m + n) c
          (young C M A N code f front (k ∷ (m + n) ∷ rest) 1 (length front + 1) (m + n) refl refl) there has.1.1.1.1.1.0 in
          let n6 : pc + 1 + 1 + 1 + 1 + 1 + 1 ≡ pc + 6 = omega arith in
          subst (λ q. Comes code f lay front mem (given q) (way_on q (pc + 6) other) (inside f pc (front ++ a ∷ b ∷ rest) mem free)) q_is
          (subst (λ z. Comes code f lay front mem (literal (char c)) z (inside f pc (front ++ a ∷ b ∷ rest) mem free)) n6
          (same_comes C M A N code f lay front mem free (literal (char c)) c (pc + 1 + 1 + 1 + 1 + 1 + 1) (inside f pc (front ++ a ∷ b ∷ rest) mem free) ((m + n) ∷ rest)
          (refl, byte_below w.0 n texts_at.2 lt) (trans code start (trans code s4 (trans code s5 s6))) (omega arith)))

      outside_text : length w.0 ≤ n → Comes code f lay front mem (given q) (way_on q (pc + 6) other) (inside f pc (front ++ a ∷ b ∷ rest) mem free)
      outside_text le =
          let L = length w.0 in
          let k = packets Subscript in
          let less = word_less n L in
          let zero_is : word_less n L ≡ 0 = ap one_if (le-ltb n L le) in
          let q_is : raised Subscript ≡ q = ap (or_subscript char) (sym (there_is_none w.0 w.1 n w.3 le)) ∙ w.4 in
          let s4 = brz_zero C M A N code f front (pc + 1 + 1 + 1) (k ∷ less ∷ rest) mem free (length front + 1) other (young C M A N code f front (k ∷ less ∷ rest) 1 (length front + 1) 0 refl (ap Some zero_is)) has.1.1.1.0 in
          subst (λ q. Comes code f lay front mem (given q) (way_on q (pc + 6) other) (inside f pc (front ++ a ∷ b ∷ rest) mem free)) q_is
          (same_comes C M A N code f lay front mem free (given (raised Subscript)) k other (inside f pc (front ++ a ∷ b ∷ rest) mem free) (less ∷ rest) is (trans code start s4) (omega arith))

  pub char_at : RowIsRight texts CharAt 6 byte_of
  char_at = record {
    long = λ packets pc d other xs. refl;
    does = λ code f lay front above mem free ready xs ls q h r packets are pc other has.
        char_by code f lay front above mem free ready q packets (are Subscript) pc other (text_place lay front (λ s i. or_subscript char (byte_at s i)) q h (sym (texts_char ls) ∙ r)) has;
  }

  -- a text of one character
  one_by : (code : List Instr) (f : Frame) (lay : List Word) (front above mem free : List ℕ) → Ready f lay mem free → (q : Gives) (packets : Packets)
      → (pc other : ℕ) {xs : List ℕ} → One front (λ m. (m < 256) × (made (string (m ∷ [])) ≡ q)) xs → HasAt code pc (text_of_one packets pc (length front) other xs)
      → Comes code f lay front mem (given q) (way_on q (pc + 4) other) (inside f pc (front ++ above) mem free)
  one_by code f lay front [] mem free ready q packets pc other (alone x m e w) has =
      rows.Comes.lacks_stack (cut code N NoStack (inside f pc (front ++ []) mem free) (Li (length front + 1) 1) has.0 (lacks C M A N code f front pc 1 (length front + 1) [] mem free _ refl (omega arith)))
  one_by code f lay front (a ∷ []) mem free ready q packets pc other (alone x m e w) has =
      rows.Comes.lacks_stack (cut code N NoStack (inside f pc (front ++ a ∷ []) mem free) (Li (length front + 1) 1) has.0 (lacks C M A N code f front pc 1 (length front + 1) (a ∷ []) mem free _ refl (omega arith)))
  one_by code f lay front (a ∷ b ∷ rest) mem free ready q packets pc other (alone x m e w) has = ⊎_elim short enough (cases_lt (length free) 2)
    where
      first : length front ≡ length front + 0
      first = omega arith

      start : Leads code (at C M A N code f front pc (a ∷ b ∷ rest) mem free) (at C M A N code f front (pc + 1) (a ∷ 1 ∷ rest) mem free)
      start = li C M A N code f front pc 1 (length front + 1) (a ∷ b ∷ rest) mem free refl (omega arith) 1 has.0

      short : length free < 2 → Comes code f lay front mem (given q) (way_on q (pc + 4) other) (inside f pc (front ++ a ∷ b ∷ rest) mem free)
      short lt = rows.Comes.lacks_heap (out_after code start (no_alloc C M A N code f front (pc + 1) 0 (length front) (a ∷ 1 ∷ rest) mem free first (omega arith) 2 lt has.1.0))

      enough : 2 ≤ length free → Comes code f lay front mem (given q) (way_on q (pc + 4) other) (inside f pc (front ++ a ∷ b ∷ rest) mem free)
      enough le =
          let c = cut_at 2 free le in
          let p = two_words c.0 c.3 in
          let split : free ≡ (p.0 ∷ p.1 ∷ []) ++ c.1 = c.2 ∙ ap (λ z. z ++ c.1) p.2 in
          let ws = length mem ∷ 1 ∷ rest in
          let s2 = alloc C M A N code f front (pc + 1) 0 (length front) (a ∷ 1 ∷ rest) mem free first (omega arith) 2 (p.0 ∷ p.1 ∷ []) c.1 split refl has.1.0 in
          let s3 = st C M A N code f front (pc + 1 + 1) ws mem c.1 (p.0 ∷ p.1 ∷ []) (length front) 0 (length front + 1) 1 ready.low (omega arith)
          (young C M A N code f front ws 0 (length front) (length mem) first refl) (young C M A N code f front ws 1 (length front + 1) 1 refl refl) has.1.1.0 in
          let s4 = st C M A N code f front (pc + 1 + 1 + 1) ws mem c.1 (1 ∷ p.1 ∷ []) (length front) 1 x m ready.low (omega arith)
          (young C M A N code f front ws 0 (length front) (length mem) first refl) (old C M A N code f front ws x m e) has.1.1.1.0 in
          let n4 : pc + 1 + 1 + 1 + 1 ≡ pc + 4 = omega arith in
          subst (λ q. Comes code f lay front mem (given q) (way_on q (pc + 4) other) (inside f pc (front ++ a ∷ b ∷ rest) mem free)) w.1
          (subst (λ z. Comes code f lay front mem (literal (string (m ∷ []))) z (inside f pc (front ++ a ∷ b ∷ rest) mem free)) n4
          (new_text code f lay front mem (m ∷ []) (1 ∷ rest) c.1 (pc + 1 + 1 + 1 + 1) (inside f pc (front ++ a ∷ b ∷ rest) mem free) ready.whole
          (and_from (nat_lt m 256) true (lt-ltb m 256 w.0) refl) (trans code start (trans code s2 (trans code s3 s4))) (omega arith)))

  pub string_of : RowIsRight chars StringOf 4 text_of_one
  string_of = record {
    long = λ packets pc d other xs. refl;
    does = λ code f lay front above mem free ready xs ls q h r packets are pc other has.
        one_by code f lay front above mem free ready q packets pc other (char_alone lay front (λ a. made (string (a ∷ []))) q h (sym (chars_string ls) ∙ r)) has;
  }

  -- an integer in decimal
  int_by : (code : List Instr) (f : Frame) (lay : List Word) (front above mem free : List ℕ) → Ready f lay mem free → (q : Gives) (packets : Packets)
      → (pc other : ℕ) {xs : List ℕ} → One front (λ m. (a : ℤ) × (word_of a ≡ Some m) × (made (string (signed_text a)) ≡ q)) xs → HasAt code pc (text_of_int packets pc (length front) other xs)
      → Comes code f lay front mem (given q) (way_on q (pc + 1) other) (inside f pc (front ++ above) mem free)
  int_by code f lay front [] mem free ready q packets pc other (alone x m e w) has =
      rows.Comes.lacks_stack (cut code N NoStack (inside f pc (front ++ []) mem free) (IText (length front) x) has.0 (lacks C M A N code f front pc 0 (length front) [] mem free _ (omega arith) (omega arith)))
  int_by code f lay front (a ∷ rest) mem free ready q packets pc other (alone x m e w) has = ⊎_elim short enough (cases_lt (length free) (suc (length (signed_text w.0))))
    where
      first : length front ≡ length front + 0
      first = omega arith

      text_is : int_text m ≡ signed_text w.0
      text_is = ap signed_text (int_of-word w.0 m w.1)

      short : length free < suc (length (signed_text w.0)) → Comes code f lay front mem (given q) (way_on q (pc + 1) other) (inside f pc (front ++ a ∷ rest) mem free)
      short lt = rows.Comes.lacks_heap (no_itext C M A N code f front pc 0 (length front) (a ∷ rest) mem free first (omega arith) x m (signed_text w.0) text_is (old C M A N code f front (a ∷ rest) x m e) lt has.0)

      enough : suc (length (signed_text w.0)) ≤ length free → Comes code f lay front mem (given q) (way_on q (pc + 1) other) (inside f pc (front ++ a ∷ rest) mem free)
      enough le =
          let c = cut_at (suc (length (signed_text w.0))) free le in
          subst (λ q. Comes code f lay front mem (given q) (way_on q (pc + 1) other) (inside f pc (front ++ a ∷ rest) mem free)) w.2
          (new_text code f lay front mem (signed_text w.0) rest c.1 (pc + 1) (inside f pc (front ++ a ∷ rest) mem free) ready.whole (text_bytes w.0 (abs_small w.0 (fits_of_word w.0 m w.1)))
          (itext C M A N code f front pc 0 (length front) (a ∷ rest) mem free first (omega arith) x m (signed_text w.0) c.0 c.1 text_is (old C M A N code f front (a ∷ rest) x m e) c.2 c.3 has.0) (omega arith))

  pub text_of : RowIsRight ints TextOf 1 text_of_int
  text_of = record {
    long = λ packets pc d other xs. refl;
    does = λ code f lay front above mem free ready xs ls q h r packets are pc other has.
        int_by code f lay front above mem free ready q packets pc other (int_alone lay front (λ a. made (string (signed_text a))) q h (sym (ints_text ls) ∙ r)) has;
  }
