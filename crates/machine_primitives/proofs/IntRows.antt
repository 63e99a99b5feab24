-- Remainders and negatives of integers.
use Rattle.std.proofs.Common.{◌≡◌, ℕ, zero, suc, ◌+◌, ◌-◌, ◌<◌, ◌≤◌, ◌^◌, List, [], ◌∷◌, ◌++◌, length, Option, Some, None, Bool, true, false, refl, sym, ap, ◌∙◌, subst, arith, length-append}
use Rattle.std.specs.Prelude.{ℤ, pos, negsuc, neg_ℤ, ◌-ℤ◌, int_rem, unsigned_abs, slice_get, slice_set, nat_lt, ◌==◌, if◌then◌else◌}
use Rattle.std.specs.Int.{w32, cast_unsigned}
use Rattle.std.specs.Option.{option_or}
use Rattle.std.proofs.lemmas.Bool.{eqb-true, ne_eqb, ltb-true}
use Rattle.std.proofs.lemmas.Int.{rem_below, fits_signed_from_abs, ints}
use Rattle.ir_code.specs.declared.instr.Instr.{Instr}
use Rattle.ir_code.specs.declared.instr.Instr.TheVariants.{Li, Jmp, Sub as SubRow, IRem}
use Rattle.ir_code.specs.declared.halt.Halt.TheVariants.{NoStack}
use Rattle.ir_code.specs.Words.{int_of, word_of, int_difference, int_remainder}
use Rattle.ir_code.specs.Machine.{Goes}
use Rattle.ir_code.specs.Laws.{ControlLaws, MemoryLaws, ArithmeticLaws, NextLaws, Partial}
use Rattle.mlc_prims.specs.LitOf.{Literal, int, int_in, word_in}
use Rattle.mlc_prims.specs.PrimOf.{Gives, made, raised, int_result}
use Rattle.mlc_prims.specs.Table.{one, two, unless_zero, wrapped}
use Rattle.mlc_prims.specs.declared.basis.BasisPrimitive.TheVariants.{Negate, Remainder}
use Rattle.mlc_prims.specs.declared.prim.PrimExn.TheVariants.{Overflow, Div}
use Rattle.first_values.specs.Operations.{ints as int_operands, row_at}
use Rattle.machine_code.specs.of_machine_routines.Layout.{Word, Is}
use Rattle.machine_code.specs.of_machine_routines.Runs.{HasAt, Frame, inside, Leads}
use Rattle.machine_code.proofs.of_machine_routines.Seams.{set_right, set_here}
use Rattle.machine_code.proofs.of_machine_routines.Leads.{trans, step_to, cut, out_after}
use Rattle.machine_code.proofs.of_machine_routines.Steps as steps
use Rattle.machine_code.specs.Rows.{Packets, HoldAll, no_operand, an_operand, Comes, given, way_on, WhenRaised}
use Rattle.machine_code.specs.Rows as rows
use Rattle.machine_primitives.specs.RowCode.{partial, negated}
use Rattle.machine_primitives.specs.Laws.{IntRowsAreRight}
use Rattle.machine_primitives.proofs.Orders.{int_of-word, exact_some, exact_none, word_of_int, fits_word_of}
use Rattle.machine_primitives.proofs.Shapes.{Short, at_raised, partial_short, short, there, does_li, same_comes, late_comes}
use Rattle.machine_primitives.proofs.MoreShapes.{short2, second, does_li2}
use Rattle.machine_primitives.proofs.Rows.{Two, both, at_kind, Ints}
use Rattle.machine_primitives.proofs.MoreRows.{One, alone}

module _ (lay : List Word) (front : List ℕ) where
  pub int_pairs : (G : ℤ → ℤ → Gives) (g : Gives) {xs : List ℕ} {ls : List Literal} → HoldAll lay front xs ls → at_kind int_operands (two int_in G) ls ≡ Some g
      → Two front (Ints lay front (λ a b. G a b ≡ g)) xs
  int_pairs G g (an_operand x (int a) m e i (an_operand y (int b) n e' i' no_operand)) r = both x y m n e e' (a, b, i, i', (let s : G a b ≡ g = cc in s))
  int_pairs G g (an_operand x (int a) m e i (an_operand y l n e' i' no_operand)) r = absurd (cc)
  int_pairs G g h r = absurd (cc)

  int_negated : (F : ℤ → Gives) (G : ℕ → Gives) (g : Gives) {xs : List ℕ} {ls : List Literal} → HoldAll lay front xs ls
      → at_kind int_operands (λ args. option_or (one int_in F args) (one word_in G args)) ls ≡ Some g → One front (λ m. (a : ℤ) × (word_of a ≡ Some m) × (F a ≡ g)) xs
  int_negated F G g (an_operand x (int a) m e i no_operand) r = alone x m e (a, i, (let s : F a ≡ g = cc in s))
  int_negated F G g h r = absurd (cc)

ints_remainder : (ls : List Literal) → row_at int_operands Remainder ls ≡ at_kind int_operands (two int_in (λ a b. unless_zero b (made (int (int_rem a b))))) ls
ints_remainder [] = refl
ints_remainder (l ∷ ls) = refl

ints_negate : (ls : List Literal) → row_at int_operands Negate ls ≡ at_kind int_operands (λ args. option_or (one int_in (λ a. int_result (neg_ℤ a)) args) (one word_in (λ a. wrapped (2 ^ 32 - a)) args)) ls
ints_negate [] = refl
ints_negate (l ∷ ls) = refl

pub abs_within : (b : ℤ) (n : ℕ) → word_of b ≡ Some n → unsigned_abs b ≤ 2 ^ 31
abs_within (pos k) n w = by (nat_lt k (2 ^ 31)) refl w
  where
    by : (c : Bool) → nat_lt k (2 ^ 31) ≡ c → (if c then Some k else None) ≡ Some n → k ≤ 2 ^ 31
    by true g e = let l = ltb-true k (2 ^ 31) g in omega arith
    by false g e = absurd (cc)
abs_within (negsuc k) n w = by (nat_lt k (2 ^ 31)) refl w
  where
    by : (c : Bool) → nat_lt k (2 ^ 31) ≡ c → (if c then Some (2 ^ 32 - suc k) else None) ≡ Some n → suc k ≤ 2 ^ 31
    by true g e = let l = ltb-true k (2 ^ 31) g in omega arith
    by false g e = absurd (cc)

-- a divisor other than 0
pub not_zero : (b : ℤ) (n : ℕ) (g : Gives) → word_of b ≡ Some n → (n == 0) ≡ false → (unless_zero b g ≡ g) × (0 < unsigned_abs b)
not_zero (pos zero) n g w e = let s : 0 ≡ n = (let q = word_of_int (pos 0) n w in sym q.0) in let c : (n == 0) ≡ true = ap (λ z. z == 0) (sym s) in absurd (cc)
not_zero (pos (suc k)) n g w e = (ap (λ c. if c then raised Div else g) (ne_eqb (suc k) 0 (λ h. omega arith)), omega arith)
not_zero (negsuc k) n g w e = (refl, omega arith)

rem_word : (a b : ℤ) (n : ℕ) → word_of b ≡ Some n → 0 < unsigned_abs b → word_of (int_rem a b) ≡ Some (cast_unsigned w32 (int_rem a b))
rem_word a b n w some =
    let lt = rem_below a b some in
    let le = abs_within b n w in
    ap (λ c. if c then Some (cast_unsigned w32 (int_rem a b)) else None) (fits_word_of (int_rem a b) (fits_signed_from_abs w32 (int_rem a b) (omega arith)))

module _ (C : ControlLaws) (M : MemoryLaws) (A : ArithmeticLaws) (N : NextLaws) where
  -- a remainder, of either kind of division, or Div
  rest_ways : (D : ℤ → ℤ → ℤ) → ((a b : ℤ) (n : ℕ) → word_of b ≡ Some n → 0 < unsigned_abs b → word_of (D a b) ≡ Some (cast_unsigned w32 (D a b)))
      → (lay : List Word) (m n k : ℕ) (q : Gives) (pc other : ℕ) (a b : ℤ) → word_of a ≡ Some m → word_of b ≡ Some n → Is lay (given (raised Div)) k → unless_zero b (made (int (D a b))) ≡ q
      → (c : Bool) → (n == 0) ≡ c
      → ((r : ℕ) → (if c then None else Some (cast_unsigned w32 (D (int_of m) (int_of n)))) ≡ Some r → Is lay (given q) r × (way_on q (pc + 2) other ≡ pc + 2))
      × ((if c then None else Some (cast_unsigned w32 (D (int_of m) (int_of n)))) ≡ None → Is lay (given q) k × (way_on q (pc + 2) other ≡ other))
  rest_ways D word lay m n k q pc other a b wa wb is s true e =
      let zero_n : n ≡ 0 = eqb-true n 0 e in
      let b_is : b ≡ pos 0 = sym (int_of-word b n wb) ∙ ap int_of zero_n in
      let q_is : raised Div ≡ q = sym (ap (λ z. unless_zero z (made (int (D a b)))) b_is) ∙ s in
      ((λ r h. absurd (cc)), (λ h. subst (λ q. Is lay (given q) k × (way_on q (pc + 2) other ≡ other)) q_is (is, refl)))
  rest_ways D word lay m n k q pc other a b wa wb is s false e =
      let z = not_zero b n (made (int (D a b))) wb e in
      let same : D (int_of m) (int_of n) ≡ D a b = ap (λ z. D z (int_of n)) (int_of-word a m wa) ∙ ap (λ z. D a z) (int_of-word b n wb) in (
        (λ r h. let g : cast_unsigned w32 (D (int_of m) (int_of n)) ≡ r = cc in
            subst (λ q. Is lay (given q) r × (way_on q (pc + 2) other ≡ pc + 2)) (sym z.0 ∙ s)
            (word a b n wb z.1 ∙ ap Some (ap (cast_unsigned w32) (sym same) ∙ g), refl)),
        (λ h. absurd (cc)),
      )

  rest_raises : (m n : ℕ) (q : Gives) (a b : ℤ) (D : ℤ → ℤ → ℤ) → word_of b ≡ Some n → unless_zero b (made (int (D a b))) ≡ q → (c : Bool) → (n == 0) ≡ c
      → (if c then None else Some (cast_unsigned w32 (D (int_of m) (int_of n)))) ≡ None → raised Div ≡ q
  rest_raises m n q a b D wb s true e h =
      let b_is : b ≡ pos 0 = sym (int_of-word b n wb) ∙ ap int_of (eqb-true n 0 e) in
      sym (ap (λ z. unless_zero z (made (int (D a b)))) b_is) ∙ s
  rest_raises m n q a b D wb s false e h = absurd (cc)

  pub rest_by : (D : ℤ → ℤ → ℤ) → ((a b : ℤ) (n : ℕ) → word_of b ≡ Some n → 0 < unsigned_abs b → word_of (D a b) ≡ Some (cast_unsigned w32 (D a b)))
      → (row : ℕ → ℕ → ℕ → Instr) → Partial row (λ m n. if n == 0 then None else Some (cast_unsigned w32 (D (int_of m) (int_of n)))) → Short row
      → (code : List Instr) (f : Frame) (lay : List Word) (front above mem free : List ℕ) (q : Gives) (packets : Packets) → Is lay (given (raised Div)) (packets Div) → (pc other : ℕ) {xs : List ℕ}
      → Two front (Ints lay front (λ a b. unless_zero b (made (int (D a b))) ≡ q)) xs → HasAt code pc (partial row packets pc (length front) other xs)
      → WhenRaised q (HasAt code other (Li (length front) (packets Div) ∷ []))
      → Comes code f lay front mem (given q) (way_on q (pc + 2) (suc other)) (inside f pc (front ++ above) mem free)
  rest_by D word row law brief code f lay front above mem free q packets are pc other (both x y m n e e' w) has late =
      let c = rest_ways D word lay m n (packets Div) q pc (suc other) w.0 w.1 w.2 w.3 are w.4 (n == 0) refl in
      late_comes C M A N code f lay front mem free row (λ m n. if n == 0 then None else Some (cast_unsigned w32 (D (int_of m) (int_of n)))) law brief (given q) x y m n (packets Div) pc (way_on q (pc + 2) (suc other)) other above e e' has
      (λ h. at_raised Div q (rest_raises m n q w.0 w.1 D w.3 w.4 (n == 0) refl h) late) c.0 c.1

  -- A row that may have no result, of a word and the operand.
  pub negated_by : (code : List Instr) (f : Frame) (lay : List Word) (front above mem free : List ℕ) (q : Gives) (packets : Packets) → Is lay (given (raised Overflow)) (packets Overflow) → (pc other : ℕ) {xs : List ℕ}
      → One front (λ m. (a : ℤ) × (word_of a ≡ Some m) × (int_result (neg_ℤ a) ≡ q)) xs → HasAt code pc (negated packets pc (length front) other xs)
      → Comes code f lay front mem (given q) (way_on q (pc + 4) other) (inside f pc (front ++ above) mem free)
  negated_by code f lay front [] mem free q packets are pc other (alone x m e w) has =
      rows.Comes.lacks_stack (cut code N NoStack (inside f pc (front ++ []) mem free) (Li (length front) (packets Overflow)) has.0 (short C M A N code f lay front mem free pc _))
  negated_by code f lay front (a ∷ []) mem free q packets are pc other (alone x m e w) has =
      let k = packets Overflow in
      let s1 : Leads code (inside f pc (front ++ a ∷ []) mem free) (inside f (pc + 1) (front ++ k ∷ []) mem free) =
      step_to code N (Li (length front) k) has.0 (does_li C M A N code f lay front mem free pc k a []) in
      rows.Comes.lacks_stack (out_after code s1 (cut code N NoStack (inside f (pc + 1) (front ++ k ∷ []) mem free) (Li (suc (length front)) 0) has.1.0 (short2 C M A N code f lay front mem free (pc + 1) (k ∷ []) _ (omega arith))))
  negated_by code f lay front (a ∷ b ∷ rest) mem free q packets are pc other (alone x m e w) has = by (int_difference 0 m) refl
    where
      k : ℕ
      k = packets Overflow

      start : Leads code (inside f pc (front ++ a ∷ b ∷ rest) mem free) (inside f (pc + 1 + 1) (front ++ packets Overflow ∷ 0 ∷ rest) mem free)
      start =
          trans code (step_to code N (Li (length front) (packets Overflow)) has.0 (does_li C M A N code f lay front mem free pc (packets Overflow) a (b ∷ rest)))
          (step_to code N (Li (suc (length front)) 0) has.1.0 (does_li2 C M A N code f lay front mem free (pc + 1) 0 (packets Overflow) b rest))

      has_slot : length f.lower + length front < length (f.lower ++ (front ++ packets Overflow ∷ 0 ∷ rest))
      has_slot = omega (arith, length-append f.lower (front ++ packets Overflow ∷ 0 ∷ rest), length-append front (packets Overflow ∷ 0 ∷ rest))

      negative : (z : ℤ) → pos 0 -ℤ z ≡ neg_ℤ z
      negative z = omega (arith, ints)

      result_is : int_difference 0 m ≡ word_of (neg_ℤ w.0)
      result_is = ap (λ z. word_of (pos 0 -ℤ z)) (int_of-word w.0 m w.1) ∙ ap word_of (negative w.0)

      left_there : slice_get (f.lower ++ (front ++ packets Overflow ∷ 0 ∷ rest)) (length f.lower + suc (length front)) ≡ Some 0
      left_there = steps.holds C M A f (pc + 1 + 1) (front ++ packets Overflow ∷ 0 ∷ rest) mem free (suc (length front)) 0 (second C M A N code f lay front mem free (packets Overflow) 0 rest)

      right_there : slice_get (f.lower ++ (front ++ packets Overflow ∷ 0 ∷ rest)) (length f.lower + x) ≡ Some m
      right_there = steps.holds C M A f (pc + 1 + 1) (front ++ packets Overflow ∷ 0 ∷ rest) mem free x m (there C M A N code f lay front mem free x m (packets Overflow ∷ 0 ∷ rest) e)

      by : (o : Option ℕ) → int_difference 0 m ≡ o → Comes code f lay front mem (given q) (way_on q (pc + 4) other) (inside f pc (front ++ a ∷ b ∷ rest) mem free)
      by None g =
          let s3 : Leads code (inside f (pc + 1 + 1) (front ++ packets Overflow ∷ 0 ∷ rest) mem free) (inside f (pc + 1 + 1 + 1) (front ++ packets Overflow ∷ 0 ∷ rest) mem free) =
          step_to code N (SubRow (length front) (suc (length front)) x) has.1.1.0 (A.sub.none (inside f (pc + 1 + 1) (front ++ packets Overflow ∷ 0 ∷ rest) mem free) (length front) (suc (length front)) x 0 m has_slot left_there right_there g) in
          let s4 : Leads code (inside f (pc + 1 + 1 + 1) (front ++ packets Overflow ∷ 0 ∷ rest) mem free) (inside f other (front ++ packets Overflow ∷ 0 ∷ rest) mem free) =
          step_to code N (Jmp other) has.1.1.1.0 (C.jmp (inside f (pc + 1 + 1 + 1) (front ++ packets Overflow ∷ 0 ∷ rest) mem free) other) in
          subst (λ q. Comes code f lay front mem (given q) (way_on q (pc + 4) other) (inside f pc (front ++ a ∷ b ∷ rest) mem free)) (sym (exact_none (neg_ℤ w.0) (sym result_is ∙ g)) ∙ w.2)
          (same_comes C M A N code f lay front mem free (given (raised Overflow)) (packets Overflow) other (inside f pc (front ++ a ∷ b ∷ rest) mem free) (0 ∷ rest) are (trans code start (trans code s3 s4)) (omega arith))
      by (Some r) g =
          let n4 : pc + 1 + 1 + 2 ≡ pc + 4 = omega arith in
          let set : slice_set (f.lower ++ (front ++ packets Overflow ∷ 0 ∷ rest)) (length f.lower + length front) r ≡ f.lower ++ (front ++ r ∷ 0 ∷ rest) =
          set_right f.lower (front ++ packets Overflow ∷ 0 ∷ rest) (length front) r ∙ ap (λ z. f.lower ++ z) (set_here front (0 ∷ rest) (packets Overflow) r) in
          let s3 : Leads code (inside f (pc + 1 + 1) (front ++ packets Overflow ∷ 0 ∷ rest) mem free) (inside f (pc + 4) (front ++ r ∷ 0 ∷ rest) mem free) =
          step_to code N (SubRow (length front) (suc (length front)) x) has.1.1.0
          (A.sub.some (inside f (pc + 1 + 1) (front ++ packets Overflow ∷ 0 ∷ rest) mem free) (length front) (suc (length front)) x 0 m r has_slot left_there right_there g
          ∙ ap (λ z. Goes (record (inside f (pc + 1 + 1) (front ++ packets Overflow ∷ 0 ∷ rest) mem free) { pc = pc + 1 + 1 + 2; stack = z })) set ∙ ap (λ z. Goes (inside f z (front ++ r ∷ 0 ∷ rest) mem free)) n4) in
          subst (λ q. Comes code f lay front mem (given q) (way_on q (pc + 4) other) (inside f pc (front ++ a ∷ b ∷ rest) mem free)) (sym (exact_some (neg_ℤ w.0) r (sym result_is ∙ g)) ∙ w.2)
          (same_comes C M A N code f lay front mem free (given (made (int (neg_ℤ w.0)))) r (pc + 4) (inside f pc (front ++ a ∷ b ∷ rest) mem free) (0 ∷ rest) (sym result_is ∙ g) (trans code start s3) (omega arith))

  pub int_rows : IntRowsAreRight
  int_rows = record {
    remainder = record {
      long = λ packets pc d other xs. refl;
      does = λ code f lay front above mem free ready xs ls q h r packets are pc other has late.
          rest_by int_rem rem_word IRem A.irem (λ s d l r e. partial_short int_remainder s d l r e) code f lay front above mem free q packets (are Div) pc other (int_pairs lay front (λ a b. unless_zero b (made (int (int_rem a b)))) q h (sym (ints_remainder ls) ∙ r)) has late;
    };
    negate = record {
      long = λ packets pc d other xs. refl;
      does = λ code f lay front above mem free ready xs ls q h r packets are pc other has.
          negated_by code f lay front above mem free q packets (are Overflow) pc other (int_negated lay front (λ a. int_result (neg_ℤ a)) (λ a. wrapped (2 ^ 32 - a)) q h (sym (ints_negate ls) ∙ r)) has;
    };
  }
