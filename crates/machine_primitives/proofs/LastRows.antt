-- Conversions within limits, sizes of strings, and the contrary comparisons as values.
use Rattle.std.proofs.Common.{◌≡◌, ℕ, suc, ◌+◌, ◌-◌, ◌<◌, ◌≤◌, ◌^◌, List, [], ◌∷◌, ◌++◌, length, Some, None, Bool, true, false, refl, sym, ap, ◌∙◌, subst, arith, length-append}
use Rattle.std.specs.Prelude.{ℤ, pos, negsuc, slice_get, nat_lt, not, option_map, if◌then◌else◌}
use Rattle.std.specs.Int.{w32, cast_signed}
use Rattle.std.specs.Ordering.{int_cmp, nat_cmp, is_le, is_ge}
use Rattle.std.proofs.lemmas.Bool.{lt-ltb, le-ltb, ltb-true}
use Rattle.ir_code.specs.declared.instr.Instr.{Instr}
use Rattle.ir_code.specs.declared.instr.Instr.TheVariants.{ILt, ULt}
use Rattle.ir_code.specs.Words.{word_of, one_if, int_less, word_less, same_word}
use Rattle.ir_code.specs.Laws.{ControlLaws, MemoryLaws, ArithmeticLaws, NextLaws, Total}
use Rattle.mlc_prims.specs.LitOf.{Literal, int, word, char, string, truth, int_in, word_in, string_in}
use Rattle.mlc_prims.specs.PrimOf.{Gives, made, raised, int_result}
use Rattle.mlc_prims.specs.Table.{one, literal_cmp, character}
use Rattle.mlc_prims.specs.declared.basis.BasisPrimitive.{BasisPrimitive}
use Rattle.mlc_prims.specs.declared.basis.BasisPrimitive.TheVariants.{LessEqual, GreaterEqual, ToInt, ToIntSigned, CharOf, SizeOf}
use Rattle.mlc_prims.specs.declared.prim.PrimExn.{PrimExn}
use Rattle.mlc_prims.specs.declared.prim.PrimExn.TheVariants.{Overflow, Chr}
use Rattle.first_values.specs.Values.{literal, truth_value, value_of}
use Rattle.first_values.specs.Operations.{Operands, ints, words, chars, texts, row_at}
use Rattle.machine_code.specs.of_machine_routines.Layout.{Word, TextAt, Is}
use Rattle.machine_code.specs.of_machine_routines.Runs.{HasAt, Frame, inside}
use Rattle.machine_code.proofs.of_machine_routines.Seams.{get_within}
use Rattle.machine_code.proofs.of_machine_routines.LayoutLemmas.{bytes_in, bytes_end}
use Rattle.machine_code.specs.Rows.{Packets, HoldAll, no_operand, an_operand, Ready, Comes, given, way_on}
use Rattle.machine_primitives.specs.RowLaws.{RowIsRight}
use Rattle.machine_primitives.specs.RowCode.{limited, contrary, loaded, swapped}
use Rattle.machine_primitives.specs.Laws.{LimitsAreRight, SizesAreRight, ContrariesAreRight}
use Rattle.machine_primitives.proofs.Orders.{int_gt_is, int_lt_is, nat_gt_is, nat_lt_is, exact_some, exact_none, word_of_int, int_of_small, signed_word}
use Rattle.machine_primitives.proofs.Shapes.{Short}
use Rattle.machine_primitives.proofs.MoreShapes.{limited_comes, contrary_comes, loads_comes}
use Rattle.machine_primitives.proofs.Rows.{Two, both, at_kind, Ints, int_orders, word_orders, char_orders, changed, lt_words, gt_words, not_lt, not_gt, ints_less_equal, ints_greater_equal, words_less_equal, words_greater_equal, chars_less_equal, chars_greater_equal, more_ints, more_words, short_ilt, short_ult, short_more_ints, short_more_words}
use Rattle.machine_primitives.proofs.MoreRows.{One, alone, changed_one, int_alone, kind_truth, moved_row}

module _ (lay : List Word) (front : List ℕ) where
  word_single : (G : ℕ → Gives) (g : Gives) {xs : List ℕ} {ls : List Literal} → HoldAll lay front xs ls → at_kind words (one word_in G) ls ≡ Some g
      → One front (λ m. (m < 2 ^ 32) × (G m ≡ g)) xs
  word_single G g (an_operand x (word a) m e i no_operand) r =
      let s : G a ≡ g = cc in let p = i.1 in let m_is = i.0 in
      alone x m e (omega arith, ap G m_is ∙ s)
  word_single G g h r = absurd (cc)

  text_single : (G : List ℕ → Gives) (g : Gives) {xs : List ℕ} {ls : List Literal} → HoldAll lay front xs ls → at_kind texts (one string_in G) ls ≡ Some g
      → One front (λ m. (s : List ℕ) × TextAt lay s m × (G s ≡ g)) xs
  text_single G g (an_operand x (string s) m e i no_operand) r = alone x m e (s, i, (let k : G s ≡ g = cc in k))
  text_single G g h r = absurd (cc)

-- The rows of the table.

words_to_int : (ls : List Literal) → row_at words ToInt ls ≡ at_kind words (one word_in (λ a. int_result (pos a))) ls
words_to_int [] = refl
words_to_int (l ∷ ls) = refl

words_signed_int : (ls : List Literal) → row_at words ToIntSigned ls ≡ at_kind words (one word_in (λ a. made (int (cast_signed w32 a)))) ls
words_signed_int [] = refl
words_signed_int (l ∷ ls) = refl

ints_char : (ls : List Literal) → row_at ints CharOf ls ≡ at_kind ints (one int_in character) ls
ints_char [] = refl
ints_char (l ∷ ls) = refl

texts_size : (ls : List Literal) → row_at texts SizeOf ls ≡ at_kind texts (one string_in (λ s. made (int (pos (length s))))) ls
texts_size [] = refl
texts_size (l ∷ ls) = refl

-- a character's integer is its word; other integers have a word from 256 on
char_below : (a : ℤ) (m : ℕ) → word_of a ≡ Some m → m < 256 → character a ≡ made (char m)
char_below (pos n) m w lt =
    let e = word_of_int (pos n) m w in
    ap (λ b. if b then made (char n) else raised Chr) (lt-ltb n 256 (omega (arith, e.0))) ∙ ap (λ z. made (char z)) (sym e.0)
char_below (negsuc n) m w lt = by (nat_lt n (2 ^ 31)) refl w
  where
    by : (b : Bool) → nat_lt n (2 ^ 31) ≡ b → (if b then Some (2 ^ 32 - suc n) else None) ≡ Some m → character (negsuc n) ≡ made (char m)
    by true g e = let l = ltb-true n (2 ^ 31) g in let s : 2 ^ 32 - suc n ≡ m = cc in absurd (omega arith)
    by false g e = absurd (cc)

char_above : (a : ℤ) (m : ℕ) → word_of a ≡ Some m → 256 ≤ m → raised Chr ≡ character a
char_above (pos n) m w le =
    let e = word_of_int (pos n) m w in
    sym (ap (λ b. if b then made (char n) else raised Chr) (le-ltb n 256 (omega (arith, e.0))))
char_above (negsuc n) m w le = refl

contrary_word : (c : Bool) → same_word (one_if (not c)) 0 ≡ one_if c
contrary_word true = refl
contrary_word false = refl

module _ (C : ControlLaws) (M : MemoryLaws) (A : ArithmeticLaws) (N : NextLaws) where
  limited_row : (k : Operands) (p : BasisPrimitive) (e : PrimExn) (limit : ℕ)
      → ((lay : List Word) (front : List ℕ) (q : Gives) (xs : List ℕ) (ls : List Literal) → HoldAll lay front xs ls → row_at k p ls ≡ Some q
      → One front (λ m. (m < limit → (l : Literal) × (made l ≡ q) × Is lay (value_of l) m) × (limit ≤ m → raised e ≡ q)) xs) → RowIsRight k p 5 (limited e limit)
  limited_row k p e limit known = record {
    long = λ packets pc d other xs. refl;
    does = λ code f lay front above mem free ready xs ls q h r packets are pc other has. by code f lay front above mem free q packets (are e) pc other (known lay front q xs ls h r) has;
  }
    where
      by : (code : List Instr) (f : Frame) (lay : List Word) (front above mem free : List ℕ) (q : Gives) (packets : Packets) → Is lay (given (raised e)) (packets e) → (pc other : ℕ) {xs : List ℕ}
          → One front (λ m. (m < limit → (l : Literal) × (made l ≡ q) × Is lay (value_of l) m) × (limit ≤ m → raised e ≡ q)) xs
          → HasAt code pc (limited e limit packets pc (length front) other xs) → Comes code f lay front mem (given q) (way_on q (pc + 5) other) (inside f pc (front ++ above) mem free)
      by code f lay front above mem free q packets are pc other (alone x m ex w) has =
          limited_comes C M A N code f lay front mem free (given q) x m (packets e) limit pc (way_on q (pc + 5) other) other above ex has
          (λ lt. let t = w.0 lt in subst (λ q. Is lay (given q) m × (way_on q (pc + 5) other ≡ pc + 5)) t.1 (t.2, refl))
          (λ le. subst (λ q. Is lay (given q) (packets e) × (way_on q (pc + 5) other ≡ other)) (w.1 le) (are, refl))

  contrary_row : (k : Operands) (p : BasisPrimitive) (row : ℕ → ℕ → ℕ → Instr) (g : ℕ → ℕ → ℕ) → Total row g → Short row
      → ((ls : List Literal) (q : Gives) → row_at k p ls ≡ Some q → (c : Bool) × (q ≡ made (truth c)))
      → ((lay : List Word) (front : List ℕ) (c : Bool) (xs : List ℕ) (ls : List Literal) → HoldAll lay front xs ls → row_at k p ls ≡ Some (made (truth c)) → Two front (λ m n. g m n ≡ one_if (not c)) xs)
      → RowIsRight k p 3 (contrary row)
  contrary_row k p row g law short truths known = record {
    long = λ packets pc d other xs. refl;
    does = λ code f lay front above mem free ready xs ls q h r packets are pc other has.
        let t = truths ls q r in
        subst (λ q. Comes code f lay front mem (given q) (way_on q (pc + 3) other) (inside f pc (front ++ above) mem free)) (sym t.1)
        (by code f lay front above mem free ready t.0 packets pc other (known lay front t.0 xs ls h (r ∙ ap Some t.1)) has);
  }
    where
      by : (code : List Instr) (f : Frame) (lay : List Word) (front above mem free : List ℕ) → Ready f lay mem free → (c : Bool) (packets : Packets) (pc other : ℕ) {xs : List ℕ}
          → Two front (λ m n. g m n ≡ one_if (not c)) xs → HasAt code pc (contrary row packets pc (length front) other xs)
          → Comes code f lay front mem (truth_value c) (pc + 3) (inside f pc (front ++ above) mem free)
      by code f lay front above mem free ready c packets pc other (both x y m n e e' is) has =
          contrary_comes C M A N code f lay front mem free row g law short (truth_value c) x y m n pc above e e'
          (subst (λ z. Is lay (truth_value c) z) (sym (ap (λ z. same_word z 0) is ∙ contrary_word c)) (ready.truths c)) has

  known_int_less_equal : (lay : List Word) (front : List ℕ) (c : Bool) (xs : List ℕ) (ls : List Literal) → HoldAll lay front xs ls → row_at ints LessEqual ls ≡ Some (made (truth c))
      → Two front (λ m n. int_less n m ≡ one_if (not c)) xs
  known_int_less_equal lay front c xs ls h r = changed lay front (Ints lay front (λ a b. is_le (int_cmp a b) ≡ c)) (λ m n. int_less n m ≡ one_if (not c))
      (λ m n w. ap one_if (gt_words lay front (λ a b. is_le (int_cmp a b) ≡ c) m n w ∙ sym (int_gt_is w.0 w.1) ∙ not_gt (int_cmp w.0 w.1) c w.4)) (int_orders lay front is_le c h (sym (ints_less_equal ls) ∙ r))

  known_int_greater_equal : (lay : List Word) (front : List ℕ) (c : Bool) (xs : List ℕ) (ls : List Literal) → HoldAll lay front xs ls → row_at ints GreaterEqual ls ≡ Some (made (truth c))
      → Two front (λ m n. int_less m n ≡ one_if (not c)) xs
  known_int_greater_equal lay front c xs ls h r = changed lay front (Ints lay front (λ a b. is_ge (int_cmp a b) ≡ c)) (λ m n. int_less m n ≡ one_if (not c))
      (λ m n w. ap one_if (lt_words lay front (λ a b. is_ge (int_cmp a b) ≡ c) m n w ∙ sym (int_lt_is w.0 w.1) ∙ not_lt (int_cmp w.0 w.1) c w.4)) (int_orders lay front is_ge c h (sym (ints_greater_equal ls) ∙ r))

  known_word_less_equal : (lay : List Word) (front : List ℕ) (c : Bool) (xs : List ℕ) (ls : List Literal) → HoldAll lay front xs ls → row_at words LessEqual ls ≡ Some (made (truth c))
      → Two front (λ m n. word_less n m ≡ one_if (not c)) xs
  known_word_less_equal lay front c xs ls h r = changed lay front (λ m n. is_le (nat_cmp m n) ≡ c) (λ m n. word_less n m ≡ one_if (not c)) (λ m n e. ap one_if (sym (nat_gt_is m n) ∙ not_gt (nat_cmp m n) c e)) (word_orders lay front is_le c h (sym (words_less_equal ls) ∙ r))

  known_word_greater_equal : (lay : List Word) (front : List ℕ) (c : Bool) (xs : List ℕ) (ls : List Literal) → HoldAll lay front xs ls → row_at words GreaterEqual ls ≡ Some (made (truth c))
      → Two front (λ m n. word_less m n ≡ one_if (not c)) xs
  known_word_greater_equal lay front c xs ls h r = changed lay front (λ m n. is_ge (nat_cmp m n) ≡ c) (λ m n. word_less m n ≡ one_if (not c)) (λ m n e. ap one_if (sym (nat_lt_is m n) ∙ not_lt (nat_cmp m n) c e)) (word_orders lay front is_ge c h (sym (words_greater_equal ls) ∙ r))

  known_char_less_equal : (lay : List Word) (front : List ℕ) (c : Bool) (xs : List ℕ) (ls : List Literal) → HoldAll lay front xs ls → row_at chars LessEqual ls ≡ Some (made (truth c))
      → Two front (λ m n. word_less n m ≡ one_if (not c)) xs
  known_char_less_equal lay front c xs ls h r = changed lay front (λ m n. is_le (nat_cmp m n) ≡ c) (λ m n. word_less n m ≡ one_if (not c)) (λ m n e. ap one_if (sym (nat_gt_is m n) ∙ not_gt (nat_cmp m n) c e)) (char_orders lay front is_le c h (sym (chars_less_equal ls) ∙ r))

  known_char_greater_equal : (lay : List Word) (front : List ℕ) (c : Bool) (xs : List ℕ) (ls : List Literal) → HoldAll lay front xs ls → row_at chars GreaterEqual ls ≡ Some (made (truth c))
      → Two front (λ m n. word_less m n ≡ one_if (not c)) xs
  known_char_greater_equal lay front c xs ls h r = changed lay front (λ m n. is_ge (nat_cmp m n) ≡ c) (λ m n. word_less m n ≡ one_if (not c)) (λ m n e. ap one_if (sym (nat_lt_is m n) ∙ not_lt (nat_cmp m n) c e)) (char_orders lay front is_ge c h (sym (chars_greater_equal ls) ∙ r))

  pub contraries : ContrariesAreRight
  contraries = record {
    int_less_equal = contrary_row ints LessEqual (swapped ILt) (λ m n. int_less n m) (more_ints C M A N) (short_more_ints C M A N) (λ ls q r. kind_truth ints (λ a b. option_map is_le (literal_cmp a b)) ls q (sym (ints_less_equal ls) ∙ r)) known_int_less_equal;
    int_greater_equal = contrary_row ints GreaterEqual ILt int_less A.ilt (short_ilt C M A N) (λ ls q r. kind_truth ints (λ a b. option_map is_ge (literal_cmp a b)) ls q (sym (ints_greater_equal ls) ∙ r)) known_int_greater_equal;
    word_less_equal = contrary_row words LessEqual (swapped ULt) (λ m n. word_less n m) (more_words C M A N) (short_more_words C M A N) (λ ls q r. kind_truth words (λ a b. option_map is_le (literal_cmp a b)) ls q (sym (words_less_equal ls) ∙ r)) known_word_less_equal;
    word_greater_equal = contrary_row words GreaterEqual ULt word_less A.ult (short_ult C M A N) (λ ls q r. kind_truth words (λ a b. option_map is_ge (literal_cmp a b)) ls q (sym (words_greater_equal ls) ∙ r)) known_word_greater_equal;
    char_less_equal = contrary_row chars LessEqual (swapped ULt) (λ m n. word_less n m) (more_words C M A N) (short_more_words C M A N) (λ ls q r. kind_truth chars (λ a b. option_map is_le (literal_cmp a b)) ls q (sym (chars_less_equal ls) ∙ r)) known_char_less_equal;
    char_greater_equal = contrary_row chars GreaterEqual ULt word_less A.ult (short_ult C M A N) (λ ls q r. kind_truth chars (λ a b. option_map is_ge (literal_cmp a b)) ls q (sym (chars_greater_equal ls) ∙ r)) known_char_greater_equal;
  }

  pub limits : LimitsAreRight
  limits = record {
    to_int = limited_row words ToInt Overflow (2 ^ 31)
        (λ lay front q xs ls h r. changed_one front (λ m. (m < 2 ^ 32) × (int_result (pos m) ≡ q))
        (λ m w. (
          (λ lt. (int (pos m), sym (exact_some (pos m) m (int_of_small m lt)) ∙ w.1, int_of_small m lt)),
          (λ le. sym (exact_none (pos m) (ap (λ b. if b then Some m else None) (le-ltb m (2 ^ 31) le))) ∙ w.1),
        ))
        (word_single lay front (λ a. int_result (pos a)) q h (sym (words_to_int ls) ∙ r)));
    char_of = limited_row ints CharOf Chr 256
        (λ lay front q xs ls h r. changed_one front (λ m. (a : ℤ) × (word_of a ≡ Some m) × (character a ≡ q))
        (λ m w. (
          (λ lt. (char m, sym (char_below w.0 m w.1 lt) ∙ w.2, (refl, lt))),
          (λ le. char_above w.0 m w.1 le ∙ w.2),
        ))
        (int_alone lay front character q h (sym (ints_char ls) ∙ r)));
    to_int_signed = moved_row C M A N words ToIntSigned
        (λ lay front q xs ls h r. changed_one front (λ m. (m < 2 ^ 32) × (made (int (cast_signed w32 m)) ≡ q))
        (λ m w. (int (cast_signed w32 m), w.1, signed_word m w.0)) (word_single lay front (λ a. made (int (cast_signed w32 a))) q h (sym (words_signed_int ls) ∙ r)));
  }

  size_by : (code : List Instr) (f : Frame) (lay : List Word) (front above mem free : List ℕ) → Ready f lay mem free → (q : Gives) (packets : Packets) (pc other : ℕ) {xs : List ℕ}
      → One front (λ m. (s : List ℕ) × TextAt lay s m × (made (int (pos (length s))) ≡ q)) xs → HasAt code pc (loaded packets pc (length front) other xs)
      → Comes code f lay front mem (given q) (way_on q (pc + 1) other) (inside f pc (front ++ above) mem free)
  size_by code f lay front above mem free ready q packets pc other (alone x m e w) has =
      let s = w.0 in let t = w.1 in
      let first : slice_get mem m ≡ Some (length s) = ready.shows m (length s) t.0 in
      let within = get_within mem m (length s) first in
      let end = bytes_end mem s (m + 1) (omega arith) (bytes_in lay mem s (m + 1) ready.shows t.1) in
      let small = ready.small in
      let lt : length s < 2 ^ 31 = omega (arith, end, small, length-append mem free) in
      let n : m ≡ m + 0 = omega arith in
      subst (λ q. Comes code f lay front mem (given q) (way_on q (pc + 1) other) (inside f pc (front ++ above) mem free)) w.2
      (loads_comes C M A N code f lay front mem free (literal (int (pos (length s)))) x m (length s) pc above e (subst (λ z. slice_get mem z ≡ Some (length s)) n first) (int_of_small (length s) lt) has)

  pub sizes : SizesAreRight
  sizes = record {
    size_of = record {
      long = λ packets pc d other xs. refl;
      does = λ code f lay front above mem free ready xs ls q h r packets are pc other has.
          size_by code f lay front above mem free ready q packets pc other (text_single lay front (λ s. made (int (pos (length s)))) q h (sym (texts_size ls) ∙ r)) has;
    };
  }
