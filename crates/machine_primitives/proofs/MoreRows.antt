-- Bits, shifts, conversions and truth values: the code of each does what its row of the table says.
use Rattle.std.proofs.Common.{◌≡◌, ℕ, ◌+◌, ◌*◌, ◌/◌, ◌-◌, ◌<◌, ◌^◌, List, [], ◌∷◌, ◌++◌, length, Option, Some, None, Bool, true, false, refl, sym, ap, ◌∙◌, subst, arith}
use Rattle.std.specs.Prelude.{ℤ, pos, neg_ℤ, slice_get, nat_lt, nat_eq, bit_and, bit_or, bit_xor, option_map, if◌then◌else◌}
use Rattle.std.specs.Int.{w32, cast_unsigned}
use Rattle.std.specs.Option.{option_or}
use Rattle.std.specs.Ordering.{int_cmp, nat_cmp, is_lt, is_gt}
use Rattle.std.proofs.Math.Nat.{div-le_self, add-mod_right, mod-eq_of_lt}
use Rattle.std.proofs.lemmas.Nat.{and_le_l, or_lt, xor_lt}
use Rattle.word_arithmetic.specs.Arithmetic.{word_for, shift_left, shift_right, shift_signed}
use Rattle.ir_code.specs.declared.instr.Instr.{Instr}
use Rattle.ir_code.specs.declared.instr.Instr.TheVariants.{WSub, And, Or, Xor, Shl, Shr, Sar, ILt, ULt, Eq}
use Rattle.ir_code.specs.Words.{word_of, one_if, word_difference, int_less, word_less, same_word}
use Rattle.ir_code.specs.Laws.{ControlLaws, MemoryLaws, ArithmeticLaws, NextLaws, Total}
use Rattle.mlc_prims.specs.LitOf.{Literal, int, word, char, truth, int_in, word_in, char_in}
use Rattle.mlc_prims.specs.PrimOf.{Gives, made, int_result}
use Rattle.mlc_prims.specs.Table.{one, two, tested, literal_eq, literal_cmp, wrapped}
use Rattle.mlc_prims.specs.declared.basis.BasisPrimitive.{BasisPrimitive}
use Rattle.mlc_prims.specs.declared.basis.BasisPrimitive.TheVariants.{Negate, BitsAnd, BitsOr, BitsXor, BitsNot, ShiftLeft, ShiftRight, ShiftSigned, FromInt, CharCode, Less, Greater, Equals}
use Rattle.first_values.specs.Values.{literal, truth_value, value_of}
use Rattle.first_values.specs.Operations.{Operands, ints, words, chars, is_at, row_at}
use Rattle.machine_code.specs.of_machine_routines.Layout.{Word, Is}
use Rattle.machine_code.specs.of_machine_routines.Runs.{HasAt, Frame, inside}
use Rattle.machine_code.specs.Rows.{Packets, HoldAll, no_operand, an_operand, Ready, Comes, given, way_on}
use Rattle.machine_primitives.specs.RowLaws.{RowIsRight}
use Rattle.machine_primitives.specs.RowCode.{total, moved, from_word, swapped}
use Rattle.machine_primitives.specs.Laws.{BitsAreRight, ConversionsAreRight, TruthsAreRight}
use Rattle.machine_primitives.proofs.Orders.{int_lt_is, int_gt_is, nat_lt_is, nat_gt_is, signed_below, word_of_int, int_of_small}
use Rattle.machine_primitives.proofs.Shapes.{Short, total_comes, moved_comes, from_comes}
use Rattle.machine_primitives.proofs.Rows.{Two, both, at_kind, Ints, Words, int_orders, word_orders, char_orders, int_equals, word_equals, char_equals, word_below, changed, lt_words, gt_words, total_short, ints_less, ints_greater, ints_equals, words_less, words_greater, words_equals, chars_less, chars_greater, chars_equals, more_ints, more_words, short_ilt, short_ult, short_eq, short_more_ints, short_more_words}

pub data One (front : List ℕ) (P : ℕ → Type 0) : List ℕ → Type 0 where
  alone : (x m : ℕ) → slice_get front x ≡ Some m → P m → One front P (x ∷ [])

pub changed_one : (front : List ℕ) (P : ℕ → Type 0) {Q : ℕ → Type 0} {xs : List ℕ} → ((m : ℕ) → P m → Q m) → One front P xs → One front Q xs
changed_one front P h (alone x m e p) = alone x m e (h m p)

module _ (lay : List Word) (front : List ℕ) where
  word_pairs : (G : ℕ → ℕ → ℕ) (g : Gives) {xs : List ℕ} {ls : List Literal} → HoldAll lay front xs ls → at_kind words (two word_in (λ a b. made (word (G a b)))) ls ≡ Some g
      → Two front (Words lay front (λ a b. made (word (G a b)) ≡ g)) xs
  word_pairs G g (an_operand x (word a) m e i (an_operand y (word b) n e' i' no_operand)) r =
      let s : made (word (G a b)) ≡ g = cc in
      let p = i.1 in let q = i'.1 in let m_is = i.0 in let n_is = i'.0 in
      both x y m n e e' (omega arith, omega arith, ap (λ z. made (word (G z n))) m_is ∙ ap (λ z. made (word (G a z))) n_is ∙ s)
  word_pairs G g (an_operand x (word a) m e i (an_operand y l n e' i' no_operand)) r = absurd (cc)
  word_pairs G g h r = absurd (cc)

  word_alone : (G : ℕ → ℕ) (g : Gives) {xs : List ℕ} {ls : List Literal} → HoldAll lay front xs ls → at_kind words (one word_in (λ a. made (word (G a)))) ls ≡ Some g
      → One front (λ m. (m < 2 ^ 32) × (made (word (G m)) ≡ g)) xs
  word_alone G g (an_operand x (word a) m e i no_operand) r =
      let s : made (word (G a)) ≡ g = cc in let p = i.1 in let m_is = i.0 in
      alone x m e (omega arith, ap (λ z. made (word (G z))) m_is ∙ s)
  word_alone G g h r = absurd (cc)

  word_negated : (F : ℤ → Gives) (G : ℕ → ℕ) (g : Gives) {xs : List ℕ} {ls : List Literal} → HoldAll lay front xs ls
      → at_kind words (λ args. option_or (one int_in F args) (one word_in (λ a. wrapped (G a)) args)) ls ≡ Some g → One front (λ m. (m < 2 ^ 32) × (wrapped (G m) ≡ g)) xs
  word_negated F G g (an_operand x (word a) m e i no_operand) r =
      let s : wrapped (G a) ≡ g = cc in let p = i.1 in let m_is = i.0 in
      alone x m e (omega arith, ap (λ z. wrapped (G z)) m_is ∙ s)
  word_negated F G g h r = absurd (cc)

  pub int_alone : (G : ℤ → Gives) (g : Gives) {xs : List ℕ} {ls : List Literal} → HoldAll lay front xs ls → at_kind ints (one int_in G) ls ≡ Some g
      → One front (λ m. (a : ℤ) × (word_of a ≡ Some m) × (G a ≡ g)) xs
  int_alone G g (an_operand x (int a) m e i no_operand) r = alone x m e (a, i, (let s : G a ≡ g = cc in s))
  int_alone G g h r = absurd (cc)

  pub char_alone : (G : ℕ → Gives) (g : Gives) {xs : List ℕ} {ls : List Literal} → HoldAll lay front xs ls → at_kind chars (one char_in G) ls ≡ Some g
      → One front (λ m. (m < 256) × (G m ≡ g)) xs
  char_alone G g (an_operand x (char a) m e i no_operand) r =
      let s : G a ≡ g = cc in let p = i.1 in let m_is = i.0 in
      alone x m e (omega arith, ap G m_is ∙ s)
  char_alone G g h r = absurd (cc)

-- The rows of the table.

words_and : (ls : List Literal) → row_at words BitsAnd ls ≡ at_kind words (two word_in (λ a b. made (word (bit_and a b)))) ls
words_and [] = refl
words_and (l ∷ ls) = refl

words_or : (ls : List Literal) → row_at words BitsOr ls ≡ at_kind words (two word_in (λ a b. made (word (bit_or a b)))) ls
words_or [] = refl
words_or (l ∷ ls) = refl

words_xor : (ls : List Literal) → row_at words BitsXor ls ≡ at_kind words (two word_in (λ a b. made (word (bit_xor a b)))) ls
words_xor [] = refl
words_xor (l ∷ ls) = refl

words_left : (ls : List Literal) → row_at words ShiftLeft ls ≡ at_kind words (two word_in (λ a b. made (word (shift_left a b)))) ls
words_left [] = refl
words_left (l ∷ ls) = refl

words_right : (ls : List Literal) → row_at words ShiftRight ls ≡ at_kind words (two word_in (λ a b. made (word (shift_right a b)))) ls
words_right [] = refl
words_right (l ∷ ls) = refl

words_signed : (ls : List Literal) → row_at words ShiftSigned ls ≡ at_kind words (two word_in (λ a b. made (word (shift_signed a b)))) ls
words_signed [] = refl
words_signed (l ∷ ls) = refl

words_not : (ls : List Literal) → row_at words BitsNot ls ≡ at_kind words (one word_in (λ a. made (word (2 ^ 32 - 1 - a)))) ls
words_not [] = refl
words_not (l ∷ ls) = refl

words_negate : (ls : List Literal) → row_at words Negate ls ≡ at_kind words (λ args. option_or (one int_in (λ a. int_result (neg_ℤ a)) args) (one word_in (λ a. wrapped (2 ^ 32 - a)) args)) ls
words_negate [] = refl
words_negate (l ∷ ls) = refl

ints_from : (ls : List Literal) → row_at ints FromInt ls ≡ at_kind ints (one int_in (λ a. made (word (cast_unsigned w32 a)))) ls
ints_from [] = refl
ints_from (l ∷ ls) = refl

chars_code : (ls : List Literal) → row_at chars CharCode ls ≡ at_kind chars (one char_in (λ a. made (int (pos a)))) ls
chars_code [] = refl
chars_code (l ∷ ls) = refl

-- a comparison gives a truth value
option_truth : (o : Option Bool) (q : Gives) → option_map (λ holds. made (truth holds)) o ≡ Some q → (c : Bool) × (q ≡ made (truth c))
option_truth None q e = absurd (cc)
option_truth (Some b) q e = (b, (let s : made (truth b) ≡ q = cc in sym s))

tested_truth : (test : Literal → Literal → Option Bool) (ls : List Literal) (q : Gives) → tested test ls ≡ Some q → (c : Bool) × (q ≡ made (truth c))
tested_truth test [] q e = absurd (cc)
tested_truth test (a ∷ []) q e = absurd (cc)
tested_truth test (a ∷ b ∷ []) q e = option_truth (test a b) q e
tested_truth test (a ∷ b ∷ c ∷ ls) q e = absurd (cc)

pub kind_truth : (k : Operands) (test : Literal → Literal → Option Bool) (ls : List Literal) (q : Gives) → at_kind k (tested test) ls ≡ Some q → (c : Bool) × (q ≡ made (truth c))
kind_truth k test [] q e = absurd (cc)
kind_truth k test (l ∷ ls) q e = by (is_at k l) e
  where
    by : (b : Bool) → (if b then tested test (l ∷ ls) else None) ≡ Some q → (c : Bool) × (q ≡ made (truth c))
    by true e = tested_truth test (l ∷ ls) q e
    by false e = absurd (cc)

-- Bounds of words.

and_below : (m n : ℕ) → m < 2 ^ 32 → n < 2 ^ 32 → bit_and m n < 2 ^ 32
and_below m n p q = let l = and_le_l m n in omega arith

left_below : (m n : ℕ) → m < 2 ^ 32 → n < 2 ^ 32 → shift_left m n < 2 ^ 32
left_below m n p q = by (nat_lt n 32)
  where
    by : (b : Bool) → (if b then word_for (m * 2 ^ n) else 0) < 2 ^ 32
    by true = word_below (m * 2 ^ n)
    by false = omega arith

right_below : (m n : ℕ) → m < 2 ^ 32 → n < 2 ^ 32 → shift_right m n < 2 ^ 32
right_below m n p q = by (nat_lt n 32)
  where
    by : (b : Bool) → (if b then m / 2 ^ n else 0) < 2 ^ 32
    by true = let l = div-le_self m (2 ^ n) in omega arith
    by false = omega arith

not_word : (m : ℕ) → m < 2 ^ 32 → word_difference (2 ^ 32 - 1) m ≡ 2 ^ 32 - 1 - m
not_word m p =
    let e : 2 ^ 32 - 1 + (2 ^ 32 - m) ≡ 2 ^ 32 - 1 - m + 2 ^ 32 = omega arith in
    let lt : 2 ^ 32 - 1 - m < 2 ^ 32 = omega arith in
    ap word_for e ∙ add-mod_right (2 ^ 32 - 1 - m) (2 ^ 32) ∙ mod-eq_of_lt lt

zero_more : (m : ℕ) → word_difference 0 m ≡ word_for (2 ^ 32 - m)
zero_more m = let e : 0 + (2 ^ 32 - m) ≡ 2 ^ 32 - m = omega arith in ap word_for e

module _ (C : ControlLaws) (M : MemoryLaws) (A : ArithmeticLaws) (N : NextLaws) where
  -- two words with a word of them
  pair_row : (p : BasisPrimitive) (G : ℕ → ℕ → ℕ) (row : ℕ → ℕ → ℕ → Instr) → Total row G → Short row → ((m n : ℕ) → m < 2 ^ 32 → n < 2 ^ 32 → G m n < 2 ^ 32)
      → ((ls : List Literal) → row_at words p ls ≡ at_kind words (two word_in (λ a b. made (word (G a b)))) ls) → RowIsRight words p 1 (total row)
  pair_row p G row law short below table = record {
    long = λ packets pc d other xs. refl;
    does = λ code f lay front above mem free ready xs ls q h r packets are pc other has.
        by code f lay front above mem free q packets pc other (word_pairs lay front G q h (sym (table ls) ∙ r)) has;
  }
    where
      by : (code : List Instr) (f : Frame) (lay : List Word) (front above mem free : List ℕ) (q : Gives) (packets : Packets) (pc other : ℕ) {xs : List ℕ}
          → Two front (Words lay front (λ a b. made (word (G a b)) ≡ q)) xs → HasAt code pc (total row packets pc (length front) other xs)
          → Comes code f lay front mem (given q) (way_on q (pc + 1) other) (inside f pc (front ++ above) mem free)
      by code f lay front above mem free q packets pc other (both x y m n e e' w) has =
          subst (λ q. Comes code f lay front mem (given q) (way_on q (pc + 1) other) (inside f pc (front ++ above) mem free)) w.2
          (total_comes C M A N code f lay front mem free row G law short (literal (word (G m n))) x y m n pc above e e' (refl, below m n w.0 w.1) has)

  -- a truth value, by what the row gives
  truth_row : (k : Operands) (p : BasisPrimitive) (row : ℕ → ℕ → ℕ → Instr) (g : ℕ → ℕ → ℕ) → Total row g → Short row
      → ((ls : List Literal) (q : Gives) → row_at k p ls ≡ Some q → (c : Bool) × (q ≡ made (truth c)))
      → ((lay : List Word) (front : List ℕ) (c : Bool) (xs : List ℕ) (ls : List Literal) → HoldAll lay front xs ls → row_at k p ls ≡ Some (made (truth c)) → Two front (λ m n. g m n ≡ one_if c) xs)
      → RowIsRight k p 1 (total row)
  truth_row k p row g law short truths known = record {
    long = λ packets pc d other xs. refl;
    does = λ code f lay front above mem free ready xs ls q h r packets are pc other has.
        let t = truths ls q r in
        subst (λ q. Comes code f lay front mem (given q) (way_on q (pc + 1) other) (inside f pc (front ++ above) mem free)) (sym t.1)
        (by code f lay front above mem free ready t.0 packets pc other (known lay front t.0 xs ls h (r ∙ ap Some t.1)) has);
  }
    where
      by : (code : List Instr) (f : Frame) (lay : List Word) (front above mem free : List ℕ) → Ready f lay mem free → (c : Bool) (packets : Packets) (pc other : ℕ) {xs : List ℕ} → Two front (λ m n. g m n ≡ one_if c) xs
          → HasAt code pc (total row packets pc (length front) other xs) → Comes code f lay front mem (truth_value c) (pc + 1) (inside f pc (front ++ above) mem free)
      by code f lay front above mem free ready c packets pc other (both x y m n e e' is) has =
          total_comes C M A N code f lay front mem free row g law short (truth_value c) x y m n pc above e e' (subst (λ z. Is lay (truth_value c) z) (sym is) (ready.truths c)) has

  -- one operand, after a word; and the word itself
  before_row : (p : BasisPrimitive) (k : ℕ) (G : ℕ → ℕ) (row : ℕ → ℕ → ℕ → Instr) (g : ℕ → ℕ → ℕ) → Total row g → ((m : ℕ) → m < 2 ^ 32 → g k m ≡ G m) → ((m : ℕ) → m < 2 ^ 32 → G m < 2 ^ 32)
      → ((lay : List Word) (front : List ℕ) (q : Gives) (xs : List ℕ) (ls : List Literal) → HoldAll lay front xs ls → row_at words p ls ≡ Some q → One front (λ m. (m < 2 ^ 32) × (made (word (G m)) ≡ q)) xs)
      → RowIsRight words p 2 (from_word k row)
  before_row p k G row g law same below known = record {
    long = λ packets pc d other xs. refl;
    does = λ code f lay front above mem free ready xs ls q h r packets are pc other has. by code f lay front above mem free q packets pc other (known lay front q xs ls h r) has;
  }
    where
      by : (code : List Instr) (f : Frame) (lay : List Word) (front above mem free : List ℕ) (q : Gives) (packets : Packets) (pc other : ℕ) {xs : List ℕ} → One front (λ m. (m < 2 ^ 32) × (made (word (G m)) ≡ q)) xs
          → HasAt code pc (from_word k row packets pc (length front) other xs) → Comes code f lay front mem (given q) (way_on q (pc + 2) other) (inside f pc (front ++ above) mem free)
      by code f lay front above mem free q packets pc other (alone x m e w) has =
          subst (λ q. Comes code f lay front mem (given q) (way_on q (pc + 2) other) (inside f pc (front ++ above) mem free)) w.1
          (from_comes C M A N code f lay front mem free row g law (literal (word (G m))) k x m pc above e (same m w.0, below m w.0) has)

  pub moved_row : (k : Operands) (p : BasisPrimitive) → ((lay : List Word) (front : List ℕ) (q : Gives) (xs : List ℕ) (ls : List Literal) → HoldAll lay front xs ls → row_at k p ls ≡ Some q
      → One front (λ m. (l : Literal) × (made l ≡ q) × Is lay (value_of l) m) xs) → RowIsRight k p 1 moved
  moved_row k p known = record {
    long = λ packets pc d other xs. refl;
    does = λ code f lay front above mem free ready xs ls q h r packets are pc other has. by code f lay front above mem free q packets pc other (known lay front q xs ls h r) has;
  }
    where
      by : (code : List Instr) (f : Frame) (lay : List Word) (front above mem free : List ℕ) (q : Gives) (packets : Packets) (pc other : ℕ) {xs : List ℕ} → One front (λ m. (l : Literal) × (made l ≡ q) × Is lay (value_of l) m) xs
          → HasAt code pc (moved packets pc (length front) other xs) → Comes code f lay front mem (given q) (way_on q (pc + 1) other) (inside f pc (front ++ above) mem free)
      by code f lay front above mem free q packets pc other (alone x m e w) has =
          subst (λ q. Comes code f lay front mem (given q) (way_on q (pc + 1) other) (inside f pc (front ++ above) mem free)) w.1 (moved_comes C M A N code f lay front mem free (value_of w.0) x m pc above e w.2 has)

  known_int_less : (lay : List Word) (front : List ℕ) (c : Bool) (xs : List ℕ) (ls : List Literal) → HoldAll lay front xs ls → row_at ints Less ls ≡ Some (made (truth c))
      → Two front (λ m n. int_less m n ≡ one_if c) xs
  known_int_less lay front c xs ls h r = changed lay front (Ints lay front (λ a b. is_lt (int_cmp a b) ≡ c)) (λ m n. int_less m n ≡ one_if c)
      (λ m n w. ap one_if (lt_words lay front (λ a b. is_lt (int_cmp a b) ≡ c) m n w ∙ sym (int_lt_is w.0 w.1) ∙ w.4)) (int_orders lay front is_lt c h (sym (ints_less ls) ∙ r))

  known_int_greater : (lay : List Word) (front : List ℕ) (c : Bool) (xs : List ℕ) (ls : List Literal) → HoldAll lay front xs ls → row_at ints Greater ls ≡ Some (made (truth c))
      → Two front (λ m n. int_less n m ≡ one_if c) xs
  known_int_greater lay front c xs ls h r = changed lay front (Ints lay front (λ a b. is_gt (int_cmp a b) ≡ c)) (λ m n. int_less n m ≡ one_if c)
      (λ m n w. ap one_if (gt_words lay front (λ a b. is_gt (int_cmp a b) ≡ c) m n w ∙ sym (int_gt_is w.0 w.1) ∙ w.4)) (int_orders lay front is_gt c h (sym (ints_greater ls) ∙ r))

  known_int_equals : (lay : List Word) (front : List ℕ) (c : Bool) (xs : List ℕ) (ls : List Literal) → HoldAll lay front xs ls → row_at ints Equals ls ≡ Some (made (truth c))
      → Two front (λ m n. same_word m n ≡ one_if c) xs
  known_int_equals lay front c xs ls h r = changed lay front (λ m n. nat_eq m n ≡ c) (λ m n. same_word m n ≡ one_if c) (λ m n e. ap one_if e) (int_equals lay front c h (sym (ints_equals ls) ∙ r))

  known_word_less : (lay : List Word) (front : List ℕ) (c : Bool) (xs : List ℕ) (ls : List Literal) → HoldAll lay front xs ls → row_at words Less ls ≡ Some (made (truth c))
      → Two front (λ m n. word_less m n ≡ one_if c) xs
  known_word_less lay front c xs ls h r = changed lay front (λ m n. is_lt (nat_cmp m n) ≡ c) (λ m n. word_less m n ≡ one_if c) (λ m n e. ap one_if (sym (nat_lt_is m n) ∙ e)) (word_orders lay front is_lt c h (sym (words_less ls) ∙ r))

  known_word_greater : (lay : List Word) (front : List ℕ) (c : Bool) (xs : List ℕ) (ls : List Literal) → HoldAll lay front xs ls → row_at words Greater ls ≡ Some (made (truth c))
      → Two front (λ m n. word_less n m ≡ one_if c) xs
  known_word_greater lay front c xs ls h r = changed lay front (λ m n. is_gt (nat_cmp m n) ≡ c) (λ m n. word_less n m ≡ one_if c) (λ m n e. ap one_if (sym (nat_gt_is m n) ∙ e)) (word_orders lay front is_gt c h (sym (words_greater ls) ∙ r))

  known_word_equals : (lay : List Word) (front : List ℕ) (c : Bool) (xs : List ℕ) (ls : List Literal) → HoldAll lay front xs ls → row_at words Equals ls ≡ Some (made (truth c))
      → Two front (λ m n. same_word m n ≡ one_if c) xs
  known_word_equals lay front c xs ls h r = changed lay front (λ m n. nat_eq m n ≡ c) (λ m n. same_word m n ≡ one_if c) (λ m n e. ap one_if e) (word_equals lay front c h (sym (words_equals ls) ∙ r))

  known_char_less : (lay : List Word) (front : List ℕ) (c : Bool) (xs : List ℕ) (ls : List Literal) → HoldAll lay front xs ls → row_at chars Less ls ≡ Some (made (truth c))
      → Two front (λ m n. word_less m n ≡ one_if c) xs
  known_char_less lay front c xs ls h r = changed lay front (λ m n. is_lt (nat_cmp m n) ≡ c) (λ m n. word_less m n ≡ one_if c) (λ m n e. ap one_if (sym (nat_lt_is m n) ∙ e)) (char_orders lay front is_lt c h (sym (chars_less ls) ∙ r))

  known_char_greater : (lay : List Word) (front : List ℕ) (c : Bool) (xs : List ℕ) (ls : List Literal) → HoldAll lay front xs ls → row_at chars Greater ls ≡ Some (made (truth c))
      → Two front (λ m n. word_less n m ≡ one_if c) xs
  known_char_greater lay front c xs ls h r = changed lay front (λ m n. is_gt (nat_cmp m n) ≡ c) (λ m n. word_less n m ≡ one_if c) (λ m n e. ap one_if (sym (nat_gt_is m n) ∙ e)) (char_orders lay front is_gt c h (sym (chars_greater ls) ∙ r))

  known_char_equals : (lay : List Word) (front : List ℕ) (c : Bool) (xs : List ℕ) (ls : List Literal) → HoldAll lay front xs ls → row_at chars Equals ls ≡ Some (made (truth c))
      → Two front (λ m n. same_word m n ≡ one_if c) xs
  known_char_equals lay front c xs ls h r = changed lay front (λ m n. nat_eq m n ≡ c) (λ m n. same_word m n ≡ one_if c) (λ m n e. ap one_if e) (char_equals lay front c h (sym (chars_equals ls) ∙ r))

  pub bits : BitsAreRight
  bits = record {
    bits_and = pair_row BitsAnd bit_and And A.word_and (λ s d l r e. total_short bit_and s d l r e) and_below words_and;
    bits_or = pair_row BitsOr bit_or Or A.word_or (λ s d l r e. total_short bit_or s d l r e) (λ m n p q. or_lt 32 m n p q) words_or;
    bits_xor = pair_row BitsXor bit_xor Xor A.word_xor (λ s d l r e. total_short bit_xor s d l r e) (λ m n p q. xor_lt 32 m n p q) words_xor;
    left = pair_row ShiftLeft shift_left Shl A.shl (λ s d l r e. total_short shift_left s d l r e) left_below words_left;
    right = pair_row ShiftRight shift_right Shr A.shr (λ s d l r e. total_short shift_right s d l r e) right_below words_right;
    signed = pair_row ShiftSigned shift_signed Sar A.sar (λ s d l r e. total_short shift_signed s d l r e) signed_below words_signed;
    bits_not = before_row BitsNot (2 ^ 32 - 1) (λ m. 2 ^ 32 - 1 - m) WSub word_difference A.wsub (λ m p. not_word m p) (λ m p. omega arith)
        (λ lay front q xs ls h r. word_alone lay front (λ m. 2 ^ 32 - 1 - m) q h (sym (words_not ls) ∙ r));
    negate = before_row Negate 0 (λ m. word_for (2 ^ 32 - m)) WSub word_difference A.wsub (λ m p. zero_more m) (λ m p. word_below (2 ^ 32 - m))
        (λ lay front q xs ls h r. word_negated lay front (λ a. int_result (neg_ℤ a)) (λ m. 2 ^ 32 - m) q h (sym (words_negate ls) ∙ r));
  }

  pub conversions : ConversionsAreRight
  conversions = record {
    from_int = moved_row ints FromInt
        (λ lay front q xs ls h r. changed_one front (λ m. (a : ℤ) × (word_of a ≡ Some m) × (made (word (cast_unsigned w32 a)) ≡ q))
        (λ m w. (word (cast_unsigned w32 w.0), w.2, word_of_int w.0 m w.1)) (int_alone lay front (λ a. made (word (cast_unsigned w32 a))) q h (sym (ints_from ls) ∙ r)));
    char_code = moved_row chars CharCode
        (λ lay front q xs ls h r. changed_one front (λ m. (m < 256) × (made (int (pos m)) ≡ q))
        (λ m w. (int (pos m), w.1, int_of_small m (let p = w.0 in omega arith))) (char_alone lay front (λ a. made (int (pos a))) q h (sym (chars_code ls) ∙ r)));
  }

  pub truths : TruthsAreRight
  truths = record {
    int_less = truth_row ints Less ILt int_less A.ilt (short_ilt C M A N) (λ ls q r. kind_truth ints (λ a b. option_map is_lt (literal_cmp a b)) ls q (sym (ints_less ls) ∙ r)) known_int_less;
    int_greater = truth_row ints Greater (swapped ILt) (λ m n. int_less n m) (more_ints C M A N) (short_more_ints C M A N) (λ ls q r. kind_truth ints (λ a b. option_map is_gt (literal_cmp a b)) ls q (sym (ints_greater ls) ∙ r)) known_int_greater;
    int_equals = truth_row ints Equals Eq same_word A.eq (short_eq C M A N) (λ ls q r. kind_truth ints literal_eq ls q (sym (ints_equals ls) ∙ r)) known_int_equals;
    word_less = truth_row words Less ULt word_less A.ult (short_ult C M A N) (λ ls q r. kind_truth words (λ a b. option_map is_lt (literal_cmp a b)) ls q (sym (words_less ls) ∙ r)) known_word_less;
    word_greater = truth_row words Greater (swapped ULt) (λ m n. word_less n m) (more_words C M A N) (short_more_words C M A N) (λ ls q r. kind_truth words (λ a b. option_map is_gt (literal_cmp a b)) ls q (sym (words_greater ls) ∙ r)) known_word_greater;
    word_equals = truth_row words Equals Eq same_word A.eq (short_eq C M A N) (λ ls q r. kind_truth words literal_eq ls q (sym (words_equals ls) ∙ r)) known_word_equals;
    char_less = truth_row chars Less ULt word_less A.ult (short_ult C M A N) (λ ls q r. kind_truth chars (λ a b. option_map is_lt (literal_cmp a b)) ls q (sym (chars_less ls) ∙ r)) known_char_less;
    char_greater = truth_row chars Greater (swapped ULt) (λ m n. word_less n m) (more_words C M A N) (short_more_words C M A N) (λ ls q r. kind_truth chars (λ a b. option_map is_gt (literal_cmp a b)) ls q (sym (chars_greater ls) ∙ r)) known_char_greater;
    char_equals = truth_row chars Equals Eq same_word A.eq (short_eq C M A N) (λ ls q r. kind_truth chars literal_eq ls q (sym (chars_equals ls) ∙ r)) known_char_equals;
  }
