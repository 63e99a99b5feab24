-- Sums, quotients of words, and comparisons: the code of each does what its row of the table says.
use Rattle.std.proofs.Common.{◌≡◌, ℕ, suc, ◌+◌, ◌*◌, ◌/◌, ◌%◌, ◌-◌, ◌<◌, ◌≤◌, ◌^◌, List, [], ◌∷◌, ◌++◌, length, Option, Some, None, Bool, true, false, refl, sym, ap, ◌∙◌, subst, arith}
use Rattle.std.specs.Prelude.{ℤ, ◌+ℤ◌, ◌-ℤ◌, ◌*ℤ◌, int_lt, slice_get, nat_lt, nat_eq, not, option_map, ◌==◌, if◌then◌else◌}
use Rattle.std.specs.Ordering.{int_cmp, nat_cmp, is_lt, is_le, is_gt, is_ge}
use Rattle.std.specs.declared.cmp.Ordering.{Ordering}
use Rattle.std.proofs.Math.Nat.{mod-lt, mod-le, div-le_self}
use Rattle.word_arithmetic.specs.Arithmetic.{word_for, floor_div, floor_mod}
use Rattle.ir_code.specs.declared.instr.Instr.{Instr}
use Rattle.ir_code.specs.declared.instr.Instr.TheVariants.{Li, Add as AddRow, Sub as SubRow, Mul as MulRow, WAdd, WSub, WMul, WDiv, WMod, ILt, ULt, Eq}
use Rattle.ir_code.specs.Machine.{State, Goes, Halts, check, with_slot, next, put, total_step}
use Rattle.ir_code.specs.declared.halt.Halt.TheVariants.{NoStack}
use Rattle.ir_code.specs.Words.{int_of, word_of, one_if, int_sum, int_difference, int_product, word_sum, word_difference, word_product, word_quotient, word_remainder, int_less, word_less, same_word}
use Rattle.ir_code.specs.Laws.{ControlLaws, MemoryLaws, ArithmeticLaws, NextLaws, Total, Partial}
use Rattle.mlc_prims.specs.LitOf.{Literal, int, word, char, truth}
use Rattle.mlc_prims.specs.PrimOf.{Gives, made, raised, int_result}
use Rattle.mlc_prims.specs.Table.{numbers, compared, tested, literal_eq, unless_none, unless_zero, wrapped}
use Rattle.mlc_prims.specs.declared.basis.BasisPrimitive.{BasisPrimitive}
use Rattle.mlc_prims.specs.declared.basis.BasisPrimitive.TheVariants.{Add, Subtract, Multiply, Divide, Modulo, Less, LessEqual, Greater, GreaterEqual, Equals}
use Rattle.mlc_prims.specs.declared.prim.PrimExn.TheVariants.{Overflow, Div}
use Rattle.first_values.specs.Operations.{Operands, ints, words, chars, is_at, row_at}
use Rattle.first_values.specs.Values.{literal}
use Rattle.machine_code.specs.of_machine_routines.Layout.{Word, Is}
use Rattle.machine_code.specs.of_machine_routines.Runs.{HasAt, Frame, inside}
use Rattle.machine_code.proofs.of_machine_routines.Compares.{numbers_equal}
use Rattle.machine_code.specs.Rows.{Packets, HoldAll, no_operand, an_operand, Comes, Passes, given, way_on, WhenRaised}
use Rattle.machine_primitives.specs.RowLaws.{LateIsRight, RowIsRight, TestIsRight}
use Rattle.machine_primitives.specs.RowCode.{total, partial, holds, swapped, fails}
use Rattle.machine_primitives.specs.Laws.{SumsAreRight, WordQuotientsAreRight, ComparisonsAreRight}
use Rattle.machine_primitives.proofs.Orders.{ge_not_lt, le_not_gt, int_lt_is, int_gt_is, nat_lt_is, nat_gt_is, int_of-word, exact_some, exact_none}
use Rattle.machine_primitives.proofs.Shapes.{Short, at_raised, partial_short, total_comes, late_comes, holds_passes, fails_passes}

-- Two operands, of which something is known.
pub data Two (front : List ℕ) (P : ℕ → ℕ → Type 0) : List ℕ → Type 0 where
  both : (x y m n : ℕ) → slice_get front x ≡ Some m → slice_get front y ≡ Some n → P m n → Two front P (x ∷ y ∷ [])

-- the table's rows, at one kind of operands
abbrev pub at_kind : Operands → (List Literal → Option Gives) → List Literal → Option Gives
at_kind k row [] = None
at_kind k row (l ∷ ls) = if is_at k l then row (l ∷ ls) else None

module _ (lay : List Word) (front : List ℕ) where
  abbrev pub Ints : (ℤ → ℤ → Type 0) → ℕ → ℕ → Type 0
  Ints P m n = (a : ℤ) × (b : ℤ) × (word_of a ≡ Some m) × (word_of b ≡ Some n) × P a b

  abbrev pub Words : (ℕ → ℕ → Type 0) → ℕ → ℕ → Type 0
  Words P m n = (m < 2 ^ 32) × (n < 2 ^ 32) × P m n

  pub int_numbers : (F : ℤ → ℤ → Gives) (G : ℕ → ℕ → Gives) (g : Gives) {xs : List ℕ} {ls : List Literal} → HoldAll lay front xs ls → at_kind ints (numbers F G) ls ≡ Some g
      → Two front (Ints (λ a b. F a b ≡ g)) xs
  int_numbers F G g (an_operand x (int a) m e i (an_operand y (int b) n e' i' no_operand)) r = both x y m n e e' (a, b, i, i', (let s : F a b ≡ g = cc in s))
  int_numbers F G g (an_operand x (int a) m e i (an_operand y l n e' i' no_operand)) r = absurd (cc)
  int_numbers F G g h r = absurd (cc)

  pub word_numbers : (F : ℤ → ℤ → Gives) (G : ℕ → ℕ → Gives) (g : Gives) {xs : List ℕ} {ls : List Literal} → HoldAll lay front xs ls → at_kind words (numbers F G) ls ≡ Some g
      → Two front (Words (λ a b. G a b ≡ g)) xs
  word_numbers F G g (an_operand x (word a) m e i (an_operand y (word b) n e' i' no_operand)) r =
      let s : G a b ≡ g = cc in
      let p = i.1 in let q = i'.1 in let m_is = i.0 in let n_is = i'.0 in
      both x y m n e e' (omega arith, omega arith, ap (λ z. G z n) m_is ∙ ap (λ z. G a z) n_is ∙ s)
  word_numbers F G g (an_operand x (word a) m e i (an_operand y l n e' i' no_operand)) r = absurd (cc)
  word_numbers F G g h r = absurd (cc)

  pub int_orders : (test : Ordering → Bool) (c : Bool) {xs : List ℕ} {ls : List Literal} → HoldAll lay front xs ls → at_kind ints (compared test) ls ≡ Some (made (truth c))
      → Two front (Ints (λ a b. test (int_cmp a b) ≡ c)) xs
  int_orders test c (an_operand x (int a) m e i (an_operand y (int b) n e' i' no_operand)) r = both x y m n e e' (a, b, i, i', (let s : test (int_cmp a b) ≡ c = cc in s))
  int_orders test c (an_operand x (int a) m e i (an_operand y l n e' i' no_operand)) r = absurd (cc)
  int_orders test c h r = absurd (cc)

  pub word_orders : (test : Ordering → Bool) (c : Bool) {xs : List ℕ} {ls : List Literal} → HoldAll lay front xs ls → at_kind words (compared test) ls ≡ Some (made (truth c))
      → Two front (λ m n. test (nat_cmp m n) ≡ c) xs
  word_orders test c (an_operand x (word a) m e i (an_operand y (word b) n e' i' no_operand)) r =
      let s : test (nat_cmp a b) ≡ c = cc in let m_is = i.0 in let n_is = i'.0 in
      both x y m n e e' (ap (λ z. test (nat_cmp z n)) m_is ∙ ap (λ z. test (nat_cmp a z)) n_is ∙ s)
  word_orders test c (an_operand x (word a) m e i (an_operand y l n e' i' no_operand)) r = absurd (cc)
  word_orders test c h r = absurd (cc)

  pub char_orders : (test : Ordering → Bool) (c : Bool) {xs : List ℕ} {ls : List Literal} → HoldAll lay front xs ls → at_kind chars (compared test) ls ≡ Some (made (truth c))
      → Two front (λ m n. test (nat_cmp m n) ≡ c) xs
  char_orders test c (an_operand x (char a) m e i (an_operand y (char b) n e' i' no_operand)) r =
      let s : test (nat_cmp a b) ≡ c = cc in let m_is = i.0 in let n_is = i'.0 in
      both x y m n e e' (ap (λ z. test (nat_cmp z n)) m_is ∙ ap (λ z. test (nat_cmp a z)) n_is ∙ s)
  char_orders test c (an_operand x (char a) m e i (an_operand y l n e' i' no_operand)) r = absurd (cc)
  char_orders test c h r = absurd (cc)

  -- equality of two words
  pub answer_is : (o : Option Bool) (c : Bool) → option_map (λ holds. made (truth holds)) o ≡ Some (made (truth c)) → o ≡ Some c
  answer_is None c e = absurd (cc)
  answer_is (Some b) c e = let s : b ≡ c = cc in ap Some s

  pub int_equals : (c : Bool) {xs : List ℕ} {ls : List Literal} → HoldAll lay front xs ls → at_kind ints (tested literal_eq) ls ≡ Some (made (truth c)) → Two front (λ m n. nat_eq m n ≡ c) xs
  int_equals c (an_operand x (int a) m e i (an_operand y l n e' i' no_operand)) r = both x y m n e e' (numbers_equal lay (int a) l m n c i i' (answer_is (literal_eq (int a) l) c r))
  int_equals c h r = absurd (cc)

  pub word_equals : (c : Bool) {xs : List ℕ} {ls : List Literal} → HoldAll lay front xs ls → at_kind words (tested literal_eq) ls ≡ Some (made (truth c)) → Two front (λ m n. nat_eq m n ≡ c) xs
  word_equals c (an_operand x (word a) m e i (an_operand y l n e' i' no_operand)) r = both x y m n e e' (numbers_equal lay (word a) l m n c i i' (answer_is (literal_eq (word a) l) c r))
  word_equals c h r = absurd (cc)

  pub char_equals : (c : Bool) {xs : List ℕ} {ls : List Literal} → HoldAll lay front xs ls → at_kind chars (tested literal_eq) ls ≡ Some (made (truth c)) → Two front (λ m n. nat_eq m n ≡ c) xs
  char_equals c (an_operand x (char a) m e i (an_operand y l n e' i' no_operand)) r = both x y m n e e' (numbers_equal lay (char a) l m n c i i' (answer_is (literal_eq (char a) l) c r))
  char_equals c h r = absurd (cc)

pub word_below : (n : ℕ) → word_for n < 2 ^ 32
word_below n = mod-lt n (omega arith)

module _ (C : ControlLaws) (M : MemoryLaws) (A : ArithmeticLaws) (N : NextLaws) where
  -- Integers, exact or Overflow.
  pub int_ways : (lay : List Word) (z : ℤ) (q : Gives) → int_result z ≡ q → (k : ℕ) → Is lay (given (raised Overflow)) k → (pc other : ℕ) (o : Option ℕ) → word_of z ≡ o
      → ((r : ℕ) → o ≡ Some r → Is lay (given q) r × (way_on q (pc + 2) other ≡ pc + 2)) × (o ≡ None → Is lay (given q) k × (way_on q (pc + 2) other ≡ other))
  int_ways lay z q e k is pc other o w = (
    (λ r h. subst (λ q. Is lay (given q) r × (way_on q (pc + 2) other ≡ pc + 2)) (sym (exact_some z r (w ∙ h)) ∙ e) (w ∙ h, refl)),
    (λ h. subst (λ q. Is lay (given q) k × (way_on q (pc + 2) other ≡ other)) (sym (exact_none z (w ∙ h)) ∙ e) (is, refl)),
  )

  -- a sum, a difference or a product of integers
  pub exact_row : (p : BasisPrimitive) (F : ℤ → ℤ → ℤ) (G : ℕ → ℕ → Gives) (row : ℕ → ℕ → ℕ → Instr) (g : ℕ → ℕ → Option ℕ) → Partial row g → Short row
      → ((m n : ℕ) → g m n ≡ word_of (F (int_of m) (int_of n))) → ((ls : List Literal) → row_at ints p ls ≡ at_kind ints (numbers (λ a b. int_result (F a b)) G) ls)
      → LateIsRight (Some Overflow) ints p 2 (partial row)
  exact_row p F G row g law brief same table = record {
    long = λ packets pc d other xs. refl;
    does = λ code f lay front above mem free ready xs ls q h r packets are pc other has late.
        by code f lay front above mem free q packets (are Overflow) pc other (int_numbers lay front (λ a b. int_result (F a b)) G q h (sym (table ls) ∙ r)) has late;
  }
    where
      by : (code : List Instr) (f : Frame) (lay : List Word) (front above mem free : List ℕ) (q : Gives) (packets : Packets) → Is lay (given (raised Overflow)) (packets Overflow) → (pc other : ℕ) {xs : List ℕ}
          → Two front (Ints lay front (λ a b. int_result (F a b) ≡ q)) xs → HasAt code pc (partial row packets pc (length front) other xs)
          → WhenRaised q (HasAt code other (Li (length front) (packets Overflow) ∷ []))
          → Comes code f lay front mem (given q) (way_on q (pc + 2) (suc other)) (inside f pc (front ++ above) mem free)
      by code f lay front above mem free q packets are pc other (both x y m n e e' w) has late =
          let sum : word_of (F w.0 w.1) ≡ g m n =
          ap (λ z. word_of (F z w.1)) (sym (int_of-word w.0 m w.2)) ∙ ap (λ z. word_of (F (int_of m) z)) (sym (int_of-word w.1 n w.3)) ∙ sym (same m n) in
          let ways = int_ways lay (F w.0 w.1) q w.4 (packets Overflow) are pc (suc other) (g m n) sum in
          late_comes C M A N code f lay front mem free row g law brief (given q) x y m n (packets Overflow) pc (way_on q (pc + 2) (suc other)) other above e e' has
          (λ h. at_raised Overflow q (sym (exact_none (F w.0 w.1) (sum ∙ h)) ∙ w.4) late) ways.0 ways.1

  -- .. of words
  pub wrapped_row : (p : BasisPrimitive) (F : ℤ → ℤ → Gives) (G : ℕ → ℕ → ℕ) (row : ℕ → ℕ → ℕ → Instr) → Total row (λ m n. word_for (G m n)) → Short row
      → ((ls : List Literal) → row_at words p ls ≡ at_kind words (numbers F (λ a b. wrapped (G a b))) ls) → RowIsRight words p 1 (total row)
  wrapped_row p F G row law short table = record {
    long = λ packets pc d other xs. refl;
    does = λ code f lay front above mem free ready xs ls q h r packets are pc other has.
        by code f lay front above mem free q packets pc other (word_numbers lay front F (λ a b. wrapped (G a b)) q h (sym (table ls) ∙ r)) has;
  }
    where
      by : (code : List Instr) (f : Frame) (lay : List Word) (front above mem free : List ℕ) (q : Gives) (packets : Packets) (pc other : ℕ) {xs : List ℕ}
          → Two front (Words lay front (λ a b. wrapped (G a b) ≡ q)) xs → HasAt code pc (total row packets pc (length front) other xs)
          → Comes code f lay front mem (given q) (way_on q (pc + 1) other) (inside f pc (front ++ above) mem free)
      by code f lay front above mem free q packets pc other (both x y m n e e' w) has =
          subst (λ q. Comes code f lay front mem (given q) (way_on q (pc + 1) other) (inside f pc (front ++ above) mem free)) w.2
          (total_comes C M A N code f lay front mem free row (λ m n. word_for (G m n)) law short (literal (word (word_for (G m n)))) x y m n pc above e e' (refl, word_below (G m n)) has)

  -- a quotient or a remainder of words
  pub divided_row : (p : BasisPrimitive) (F : ℤ → ℤ → Gives) (D : ℕ → ℕ → ℕ) (row : ℕ → ℕ → ℕ → Instr) → Partial row (λ m n. if n == 0 then None else Some (D m n)) → Short row → ((m n : ℕ) → D m n ≤ m)
      → ((ls : List Literal) → row_at words p ls ≡ at_kind words (numbers F (λ a b. unless_none b (made (word (D a b))))) ls) → LateIsRight (Some Div) words p 2 (partial row)
  divided_row p F D row law brief less table = record {
    long = λ packets pc d other xs. refl;
    does = λ code f lay front above mem free ready xs ls q h r packets are pc other has late.
        by code f lay front above mem free q packets (are Div) pc other (word_numbers lay front F (λ a b. unless_none b (made (word (D a b)))) q h (sym (table ls) ∙ r)) has late;
  }
    where
      ways : (lay : List Word) (m n k : ℕ) (q : Gives) (pc other : ℕ) → m < 2 ^ 32 → Is lay (given (raised Div)) k → (b : Bool) → (n == 0) ≡ b → (if b then raised Div else made (word (D m n))) ≡ q
          → ((r : ℕ) → (if b then None else Some (D m n)) ≡ Some r → Is lay (given q) r × (way_on q (pc + 2) other ≡ pc + 2)) × ((if b then None else Some (D m n)) ≡ None → Is lay (given q) k × (way_on q (pc + 2) other ≡ other))
      ways lay m n k q pc other lt is true e s = (
        (λ r h. absurd (cc)),
        (λ h. subst (λ q. Is lay (given q) k × (way_on q (pc + 2) other ≡ other)) s (is, refl)),
      )
      ways lay m n k q pc other lt is false e s = (
        (λ r h. let g : D m n ≡ r = cc in let l = less m n in subst (λ q. Is lay (given q) r × (way_on q (pc + 2) other ≡ pc + 2)) s ((sym g, omega arith), refl)),
        (λ h. absurd (cc)),
      )

      raises : (m n : ℕ) (q : Gives) (b : Bool) → (if b then raised Div else made (word (D m n))) ≡ q → (if b then None else Some (D m n)) ≡ None → raised Div ≡ q
      raises m n q true s h = s
      raises m n q false s h = absurd (cc)

      by : (code : List Instr) (f : Frame) (lay : List Word) (front above mem free : List ℕ) (q : Gives) (packets : Packets) → Is lay (given (raised Div)) (packets Div) → (pc other : ℕ) {xs : List ℕ}
          → Two front (Words lay front (λ a b. unless_none b (made (word (D a b))) ≡ q)) xs → HasAt code pc (partial row packets pc (length front) other xs)
          → WhenRaised q (HasAt code other (Li (length front) (packets Div) ∷ []))
          → Comes code f lay front mem (given q) (way_on q (pc + 2) (suc other)) (inside f pc (front ++ above) mem free)
      by code f lay front above mem free q packets are pc other (both x y m n e e' w) has late =
          let c = ways lay m n (packets Div) q pc (suc other) w.0 are (n == 0) refl w.2 in
          late_comes C M A N code f lay front mem free row (λ m n. if n == 0 then None else Some (D m n)) law brief (given q) x y m n (packets Div) pc (way_on q (pc + 2) (suc other)) other above e e' has
          (λ h. at_raised Div q (raises m n q (n == 0) w.2 h) late) c.0 c.1

  -- A test, by what its row gives.
  pub holds_row : (k : Operands) (p : BasisPrimitive) (row : ℕ → ℕ → ℕ → Instr) (g : ℕ → ℕ → ℕ) → Total row g → Short row
      → ((lay : List Word) (front : List ℕ) (c : Bool) (xs : List ℕ) (ls : List Literal) → HoldAll lay front xs ls → row_at k p ls ≡ Some (made (truth c)) → Two front (λ m n. g m n ≡ one_if c) xs)
      → TestIsRight k p 2 (holds row)
  holds_row k p row g law short known = record {
    long = λ pc d other xs. refl;
    tests = λ code f lay front above mem free ready xs ls b h r pc other has. by code f lay front above mem free b pc other (known lay front b xs ls h r) has;
  }
    where
      by : (code : List Instr) (f : Frame) (lay : List Word) (front above mem free : List ℕ) (b : Bool) (pc other : ℕ) {xs : List ℕ} → Two front (λ m n. g m n ≡ one_if b) xs
          → HasAt code pc (holds row pc (length front) other xs) → Passes code f front mem free (if b then pc + 2 else other) (inside f pc (front ++ above) mem free)
      by code f lay front above mem free b pc other (both x y m n e e' is) has = holds_passes C M A N code f lay front mem free row g law short b x y m n pc other above e e' is has

  pub fails_row : (k : Operands) (p : BasisPrimitive) (row : ℕ → ℕ → ℕ → Instr) (g : ℕ → ℕ → ℕ) → Total row g → Short row
      → ((lay : List Word) (front : List ℕ) (c : Bool) (xs : List ℕ) (ls : List Literal) → HoldAll lay front xs ls → row_at k p ls ≡ Some (made (truth c)) → Two front (λ m n. g m n ≡ one_if (not c)) xs)
      → TestIsRight k p 3 (fails row)
  fails_row k p row g law short known = record {
    long = λ pc d other xs. refl;
    tests = λ code f lay front above mem free ready xs ls b h r pc other has. by code f lay front above mem free b pc other (known lay front b xs ls h r) has;
  }
    where
      by : (code : List Instr) (f : Frame) (lay : List Word) (front above mem free : List ℕ) (b : Bool) (pc other : ℕ) {xs : List ℕ} → Two front (λ m n. g m n ≡ one_if (not b)) xs
          → HasAt code pc (fails row pc (length front) other xs) → Passes code f front mem free (if b then pc + 3 else other) (inside f pc (front ++ above) mem free)
      by code f lay front above mem free b pc other (both x y m n e e' is) has = fails_passes C M A N code f lay front mem free row g law short b x y m n pc other above e e' is has

-- What is known of the operands of each comparison.

module _ (lay : List Word) (front : List ℕ) where
  pub changed : (P Q : ℕ → ℕ → Type 0) {xs : List ℕ} → ((m n : ℕ) → P m n → Q m n) → Two front P xs → Two front Q xs
  changed P Q h (both x y m n e e' p) = both x y m n e e' (h m n p)

  -- the order of integers, as their words tell it
  pub lt_words : (P : ℤ → ℤ → Type 0) (m n : ℕ) (w : Ints lay front P m n) → int_lt (int_of m) (int_of n) ≡ int_lt w.0 w.1
  lt_words P m n w = ap (λ z. int_lt z (int_of n)) (int_of-word w.0 m w.2) ∙ ap (λ z. int_lt w.0 z) (int_of-word w.1 n w.3)

  pub gt_words : (P : ℤ → ℤ → Type 0) (m n : ℕ) (w : Ints lay front P m n) → int_lt (int_of n) (int_of m) ≡ int_lt w.1 w.0
  gt_words P m n w = ap (λ z. int_lt z (int_of m)) (int_of-word w.1 n w.3) ∙ ap (λ z. int_lt w.1 z) (int_of-word w.0 m w.2)

pub not_not : (b : Bool) → not (not b) ≡ b
not_not true = refl
not_not false = refl

pub not_lt : (o : Ordering) (c : Bool) → is_ge o ≡ c → is_lt o ≡ not c
not_lt o c e = sym (not_not (is_lt o)) ∙ ap not (sym (ge_not_lt o) ∙ e)

pub not_gt : (o : Ordering) (c : Bool) → is_le o ≡ c → is_gt o ≡ not c
not_gt o c e = sym (not_not (is_gt o)) ∙ ap not (sym (le_not_gt o) ∙ e)

-- The rows of the table.

pub ints_add : (ls : List Literal) → row_at ints Add ls ≡ at_kind ints (numbers (λ a b. int_result (a +ℤ b)) (λ a b. wrapped (a + b))) ls
ints_add [] = refl
ints_add (l ∷ ls) = refl

pub words_add : (ls : List Literal) → row_at words Add ls ≡ at_kind words (numbers (λ a b. int_result (a +ℤ b)) (λ a b. wrapped (a + b))) ls
words_add [] = refl
words_add (l ∷ ls) = refl

pub ints_subtract : (ls : List Literal) → row_at ints Subtract ls ≡ at_kind ints (numbers (λ a b. int_result (a -ℤ b)) (λ a b. wrapped (a + (2 ^ 32 - b)))) ls
ints_subtract [] = refl
ints_subtract (l ∷ ls) = refl

pub words_subtract : (ls : List Literal) → row_at words Subtract ls ≡ at_kind words (numbers (λ a b. int_result (a -ℤ b)) (λ a b. wrapped (a + (2 ^ 32 - b)))) ls
words_subtract [] = refl
words_subtract (l ∷ ls) = refl

pub ints_multiply : (ls : List Literal) → row_at ints Multiply ls ≡ at_kind ints (numbers (λ a b. int_result (a *ℤ b)) (λ a b. wrapped (a * b))) ls
ints_multiply [] = refl
ints_multiply (l ∷ ls) = refl

pub words_multiply : (ls : List Literal) → row_at words Multiply ls ≡ at_kind words (numbers (λ a b. int_result (a *ℤ b)) (λ a b. wrapped (a * b))) ls
words_multiply [] = refl
words_multiply (l ∷ ls) = refl

pub words_divide : (ls : List Literal) → row_at words Divide ls ≡ at_kind words (numbers (λ a b. unless_zero b (int_result (floor_div a b))) (λ a b. unless_none b (made (word (a / b))))) ls
words_divide [] = refl
words_divide (l ∷ ls) = refl

pub words_modulo : (ls : List Literal) → row_at words Modulo ls ≡ at_kind words (numbers (λ a b. unless_zero b (made (int (floor_mod a b)))) (λ a b. unless_none b (made (word (a % b))))) ls
words_modulo [] = refl
words_modulo (l ∷ ls) = refl

pub ints_less : (ls : List Literal) → row_at ints Less ls ≡ at_kind ints (compared is_lt) ls
ints_less [] = refl
ints_less (l ∷ ls) = refl

pub ints_less_equal : (ls : List Literal) → row_at ints LessEqual ls ≡ at_kind ints (compared is_le) ls
ints_less_equal [] = refl
ints_less_equal (l ∷ ls) = refl

pub ints_greater : (ls : List Literal) → row_at ints Greater ls ≡ at_kind ints (compared is_gt) ls
ints_greater [] = refl
ints_greater (l ∷ ls) = refl

pub ints_greater_equal : (ls : List Literal) → row_at ints GreaterEqual ls ≡ at_kind ints (compared is_ge) ls
ints_greater_equal [] = refl
ints_greater_equal (l ∷ ls) = refl

pub ints_equals : (ls : List Literal) → row_at ints Equals ls ≡ at_kind ints (tested literal_eq) ls
ints_equals [] = refl
ints_equals (l ∷ ls) = refl

pub words_less : (ls : List Literal) → row_at words Less ls ≡ at_kind words (compared is_lt) ls
words_less [] = refl
words_less (l ∷ ls) = refl

pub words_less_equal : (ls : List Literal) → row_at words LessEqual ls ≡ at_kind words (compared is_le) ls
words_less_equal [] = refl
words_less_equal (l ∷ ls) = refl

pub words_greater : (ls : List Literal) → row_at words Greater ls ≡ at_kind words (compared is_gt) ls
words_greater [] = refl
words_greater (l ∷ ls) = refl

pub words_greater_equal : (ls : List Literal) → row_at words GreaterEqual ls ≡ at_kind words (compared is_ge) ls
words_greater_equal [] = refl
words_greater_equal (l ∷ ls) = refl

pub words_equals : (ls : List Literal) → row_at words Equals ls ≡ at_kind words (tested literal_eq) ls
words_equals [] = refl
words_equals (l ∷ ls) = refl

pub chars_less : (ls : List Literal) → row_at chars Less ls ≡ at_kind chars (compared is_lt) ls
chars_less [] = refl
chars_less (l ∷ ls) = refl

pub chars_less_equal : (ls : List Literal) → row_at chars LessEqual ls ≡ at_kind chars (compared is_le) ls
chars_less_equal [] = refl
chars_less_equal (l ∷ ls) = refl

pub chars_greater : (ls : List Literal) → row_at chars Greater ls ≡ at_kind chars (compared is_gt) ls
chars_greater [] = refl
chars_greater (l ∷ ls) = refl

pub chars_greater_equal : (ls : List Literal) → row_at chars GreaterEqual ls ≡ at_kind chars (compared is_ge) ls
chars_greater_equal [] = refl
chars_greater_equal (l ∷ ls) = refl

pub chars_equals : (ls : List Literal) → row_at chars Equals ls ≡ at_kind chars (tested literal_eq) ls
chars_equals [] = refl
chars_equals (l ∷ ls) = refl

-- Rows of the machine.

pub total_short : (g : ℕ → ℕ → ℕ) (s : State) (dst left right : ℕ) → nat_lt (s.fp + dst) (length s.stack) ≡ false → total_step g s dst left right ≡ Halts NoStack s
total_short g s dst left right e = ap (λ b. check b NoStack s (with_slot s left (λ x. with_slot s right (λ y. Goes (next (put s dst (g x y))))))) e

module _ (C : ControlLaws) (M : MemoryLaws) (A : ArithmeticLaws) (N : NextLaws) where
  pub sums : SumsAreRight
  sums = record {
    int_add = exact_row C M A N Add (λ a b. a +ℤ b) (λ a b. wrapped (a + b)) AddRow int_sum A.add (λ s d l r e. partial_short int_sum s d l r e) (λ m n. refl) ints_add;
    int_subtract = exact_row C M A N Subtract (λ a b. a -ℤ b) (λ a b. wrapped (a + (2 ^ 32 - b))) SubRow int_difference A.sub (λ s d l r e. partial_short int_difference s d l r e) (λ m n. refl) ints_subtract;
    int_multiply = exact_row C M A N Multiply (λ a b. a *ℤ b) (λ a b. wrapped (a * b)) MulRow int_product A.mul (λ s d l r e. partial_short int_product s d l r e) (λ m n. refl) ints_multiply;
    word_add = wrapped_row C M A N Add (λ a b. int_result (a +ℤ b)) (λ a b. a + b) WAdd A.wadd (λ s d l r e. total_short word_sum s d l r e) words_add;
    word_subtract = wrapped_row C M A N Subtract (λ a b. int_result (a -ℤ b)) (λ a b. a + (2 ^ 32 - b)) WSub A.wsub (λ s d l r e. total_short word_difference s d l r e) words_subtract;
    word_multiply = wrapped_row C M A N Multiply (λ a b. int_result (a *ℤ b)) (λ a b. a * b) WMul A.wmul (λ s d l r e. total_short word_product s d l r e) words_multiply;
  }

  pub word_quotients : WordQuotientsAreRight
  word_quotients = record {
    divide = divided_row C M A N Divide (λ a b. unless_zero b (int_result (floor_div a b))) (λ a b. a / b) WDiv A.wdiv (λ s d l r e. partial_short word_quotient s d l r e) (λ m n. div-le_self m n) words_divide;
    modulo = divided_row C M A N Modulo (λ a b. unless_zero b (made (int (floor_mod a b)))) (λ a b. a % b) WMod A.wmod (λ s d l r e. partial_short word_remainder s d l r e) (λ m n. mod-le m n) words_modulo;
  }

  abbrev pub int_more : ℕ → ℕ → ℕ
  int_more m n = int_less n m

  abbrev pub word_more : ℕ → ℕ → ℕ
  word_more m n = word_less n m

  pub more_ints : Total (swapped ILt) int_more
  more_ints s d l r x y h hl hr = A.ilt s d r l y x h hr hl

  pub more_words : Total (swapped ULt) word_more
  more_words s d l r x y h hl hr = A.ult s d r l y x h hr hl

  pub short_ilt : Short ILt
  short_ilt s d l r e = total_short int_less s d l r e

  pub short_ult : Short ULt
  short_ult s d l r e = total_short word_less s d l r e

  pub short_eq : Short Eq
  short_eq s d l r e = total_short same_word s d l r e

  pub short_more_ints : Short (swapped ILt)
  short_more_ints s d l r e = total_short int_less s d r l e

  pub short_more_words : Short (swapped ULt)
  short_more_words s d l r e = total_short word_less s d r l e

  pub comparisons : ComparisonsAreRight
  comparisons = record {
    int_less = holds_row C M A N ints Less ILt int_less A.ilt short_ilt
        (λ lay front c xs ls h r. changed lay front _ (λ m n. int_less m n ≡ one_if c)
        (λ m n w. ap one_if (lt_words lay front (λ a b. is_lt (int_cmp a b) ≡ c) m n w ∙ sym (int_lt_is w.0 w.1) ∙ w.4)) (int_orders lay front is_lt c h (sym (ints_less ls) ∙ r)));
    int_greater = holds_row C M A N ints Greater (swapped ILt) int_more more_ints short_more_ints
        (λ lay front c xs ls h r. changed lay front _ (λ m n. int_more m n ≡ one_if c)
        (λ m n w. ap one_if (gt_words lay front (λ a b. is_gt (int_cmp a b) ≡ c) m n w ∙ sym (int_gt_is w.0 w.1) ∙ w.4)) (int_orders lay front is_gt c h (sym (ints_greater ls) ∙ r)));
    int_less_equal = fails_row C M A N ints LessEqual (swapped ILt) int_more more_ints short_more_ints
        (λ lay front c xs ls h r. changed lay front _ (λ m n. int_more m n ≡ one_if (not c))
        (λ m n w. ap one_if (gt_words lay front (λ a b. is_le (int_cmp a b) ≡ c) m n w ∙ sym (int_gt_is w.0 w.1) ∙ not_gt (int_cmp w.0 w.1) c w.4)) (int_orders lay front is_le c h (sym (ints_less_equal ls) ∙ r)));
    int_greater_equal = fails_row C M A N ints GreaterEqual ILt int_less A.ilt short_ilt
        (λ lay front c xs ls h r. changed lay front _ (λ m n. int_less m n ≡ one_if (not c))
        (λ m n w. ap one_if (lt_words lay front (λ a b. is_ge (int_cmp a b) ≡ c) m n w ∙ sym (int_lt_is w.0 w.1) ∙ not_lt (int_cmp w.0 w.1) c w.4)) (int_orders lay front is_ge c h (sym (ints_greater_equal ls) ∙ r)));
    int_equals = holds_row C M A N ints Equals Eq same_word A.eq short_eq
        (λ lay front c xs ls h r. changed lay front _ (λ m n. same_word m n ≡ one_if c) (λ m n e. ap one_if e) (int_equals lay front c h (sym (ints_equals ls) ∙ r)));
    word_less = holds_row C M A N words Less ULt word_less A.ult short_ult
        (λ lay front c xs ls h r. changed lay front _ (λ m n. word_less m n ≡ one_if c) (λ m n e. ap one_if (sym (nat_lt_is m n) ∙ e)) (word_orders lay front is_lt c h (sym (words_less ls) ∙ r)));
    word_greater = holds_row C M A N words Greater (swapped ULt) word_more more_words short_more_words
        (λ lay front c xs ls h r. changed lay front _ (λ m n. word_more m n ≡ one_if c) (λ m n e. ap one_if (sym (nat_gt_is m n) ∙ e)) (word_orders lay front is_gt c h (sym (words_greater ls) ∙ r)));
    word_less_equal = fails_row C M A N words LessEqual (swapped ULt) word_more more_words short_more_words
        (λ lay front c xs ls h r. changed lay front _ (λ m n. word_more m n ≡ one_if (not c)) (λ m n e. ap one_if (sym (nat_gt_is m n) ∙ not_gt (nat_cmp m n) c e)) (word_orders lay front is_le c h (sym (words_less_equal ls) ∙ r)));
    word_greater_equal = fails_row C M A N words GreaterEqual ULt word_less A.ult short_ult
        (λ lay front c xs ls h r. changed lay front _ (λ m n. word_less m n ≡ one_if (not c)) (λ m n e. ap one_if (sym (nat_lt_is m n) ∙ not_lt (nat_cmp m n) c e)) (word_orders lay front is_ge c h (sym (words_greater_equal ls) ∙ r)));
    word_equals = holds_row C M A N words Equals Eq same_word A.eq short_eq
        (λ lay front c xs ls h r. changed lay front _ (λ m n. same_word m n ≡ one_if c) (λ m n e. ap one_if e) (word_equals lay front c h (sym (words_equals ls) ∙ r)));
    char_less = holds_row C M A N chars Less ULt word_less A.ult short_ult
        (λ lay front c xs ls h r. changed lay front _ (λ m n. word_less m n ≡ one_if c) (λ m n e. ap one_if (sym (nat_lt_is m n) ∙ e)) (char_orders lay front is_lt c h (sym (chars_less ls) ∙ r)));
    char_greater = holds_row C M A N chars Greater (swapped ULt) word_more more_words short_more_words
        (λ lay front c xs ls h r. changed lay front _ (λ m n. word_more m n ≡ one_if c) (λ m n e. ap one_if (sym (nat_gt_is m n) ∙ e)) (char_orders lay front is_gt c h (sym (chars_greater ls) ∙ r)));
    char_less_equal = fails_row C M A N chars LessEqual (swapped ULt) word_more more_words short_more_words
        (λ lay front c xs ls h r. changed lay front _ (λ m n. word_more m n ≡ one_if (not c)) (λ m n e. ap one_if (sym (nat_gt_is m n) ∙ not_gt (nat_cmp m n) c e)) (char_orders lay front is_le c h (sym (chars_less_equal ls) ∙ r)));
    char_greater_equal = fails_row C M A N chars GreaterEqual ULt word_less A.ult short_ult
        (λ lay front c xs ls h r. changed lay front _ (λ m n. word_less m n ≡ one_if (not c)) (λ m n e. ap one_if (sym (nat_lt_is m n) ∙ not_lt (nat_cmp m n) c e)) (char_orders lay front is_ge c h (sym (chars_greater_equal ls) ∙ r)));
    char_equals = holds_row C M A N chars Equals Eq same_word A.eq short_eq
        (λ lay front c xs ls h r. changed lay front _ (λ m n. same_word m n ≡ one_if c) (λ m n e. ap one_if e) (char_equals lay front c h (sym (chars_equals ls) ∙ r)));
  }
