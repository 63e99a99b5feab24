-- Divisions and absolute values of integers.
use Rattle.std.proofs.Common.{◌≡◌, ℕ, zero, suc, ◌+◌, ◌-◌, ◌/◌, ◌%◌, ◌<◌, ◌^◌, List, [], ◌∷◌, ◌++◌, length, Option, Some, None, Bool, true, false, ◌&&◌, ◌||◌, refl, sym, ap, ◌∙◌, subst, arith}
use Rattle.std.specs.Prelude.{ℤ, pos, negsuc, neg_ℤ, int_div, int_lt, unsigned_abs, ◌==◌, if◌then◌else◌, FitsSigned}
use Rattle.std.specs.Int.{w32, cast_unsigned}
use Rattle.std.proofs.lemmas.Bool.{eqb-true}
use Rattle.std.proofs.lemmas.Int.{fits_signed_from_abs}
use Rattle.word_arithmetic.specs.Arithmetic.{floor_div, floor_mod}
use Rattle.word_arithmetic.specs.Laws.{DivisionIsFloored}
use Rattle.ir_code.specs.declared.instr.Instr.{Instr}
use Rattle.ir_code.specs.declared.instr.Instr.TheVariants.{Li, IDiv, IMod, IQuot, ILt}
use Rattle.ir_code.specs.declared.halt.Halt.TheVariants.{NoStack}
use Rattle.ir_code.specs.Words.{int_of, word_of, one_if, int_less, undivided, int_floor_remainder}
use Rattle.ir_code.specs.Laws.{ControlLaws, MemoryLaws, ArithmeticLaws, NextLaws, Partial}
use Rattle.mlc_prims.specs.LitOf.{Literal, int, int_in}
use Rattle.mlc_prims.specs.PrimOf.{Gives, made, raised, int_result}
use Rattle.mlc_prims.specs.Table.{one, two, numbers, unless_zero, unless_none}
use Rattle.mlc_prims.specs.LitOf.{word}
use Rattle.mlc_prims.specs.declared.basis.BasisPrimitive.TheVariants.{Divide, Modulo, Quotient, Absolute}
use Rattle.mlc_prims.specs.declared.prim.PrimExn.TheVariants.{Overflow, Div}
use Rattle.first_values.specs.Operations.{ints, row_at}
use Rattle.machine_code.specs.of_machine_routines.Layout.{Word, Is}
use Rattle.machine_code.specs.of_machine_routines.Runs.{HasAt, Frame, inside, Leads}
use Rattle.machine_code.proofs.of_machine_routines.Leads.{trans, cut}
use Rattle.machine_code.specs.Rows.{Packets, HoldAll, Comes, given, way_on}
use Rattle.machine_code.specs.Rows as rows
use Rattle.machine_primitives.specs.RowCode.{divided, magnitude}
use Rattle.machine_primitives.specs.Laws.{DivisionsAreRight}
use Rattle.machine_primitives.proofs.Orders.{int_of-word, fits_of_word, fits_word_of, word_of_int, exact_some}
use Rattle.machine_primitives.proofs.Shapes.{partial_short, short, raising_comes, same_comes}
use Rattle.machine_primitives.proofs.Window.{old, young, lacks, li, mov, brz, brz_zero, comes_after, at}
use Rattle.machine_primitives.proofs.Window as window
use Rattle.machine_primitives.proofs.Rows.{Two, both, at_kind, Ints, int_numbers}
use Rattle.machine_primitives.proofs.MoreRows.{One, alone, int_alone}
use Rattle.machine_primitives.proofs.IntRows.{int_pairs, abs_within, not_zero, rest_by, negated_by}
use Rattle.machine_primitives.proofs.Quotients.{floored_small, rounded_down_fits, towards_zero_fits, least_down, least_towards_zero}

ints_divide : (ls : List Literal) → row_at ints Divide ls ≡ at_kind ints (numbers (λ a b. unless_zero b (int_result (floor_div a b))) (λ a b. unless_none b (made (word (a / b))))) ls
ints_divide [] = refl
ints_divide (l ∷ ls) = refl

ints_quotient : (ls : List Literal) → row_at ints Quotient ls ≡ at_kind ints (two int_in (λ a b. unless_zero b (int_result (int_div a b)))) ls
ints_quotient [] = refl
ints_quotient (l ∷ ls) = refl

ints_modulo : (ls : List Literal) → row_at ints Modulo ls ≡ at_kind ints (numbers (λ a b. unless_zero b (made (int (floor_mod a b)))) (λ a b. unless_none b (made (word (a % b))))) ls
ints_modulo [] = refl
ints_modulo (l ∷ ls) = refl

ints_absolute : (ls : List Literal) → row_at ints Absolute ls ≡ at_kind ints (one int_in (λ a. int_result (if int_lt a (pos 0) then neg_ℤ a else a))) ls
ints_absolute [] = refl
ints_absolute (l ∷ ls) = refl

mod_word : DivisionIsFloored → (a b : ℤ) (n : ℕ) → word_of b ≡ Some n → 0 < unsigned_abs b → word_of (floor_mod a b) ≡ Some (cast_unsigned w32 (floor_mod a b))
mod_word law a b n w some =
    let lt = floored_small law a b some in
    let le = abs_within b n w in
    ap (λ c. if c then Some (cast_unsigned w32 (floor_mod a b)) else None) (fits_word_of (floor_mod a b) (fits_signed_from_abs w32 (floor_mod a b) (omega arith)))

-- the least integer by -1 has no quotient
both_true : (p q r : Bool) → p ≡ false → (p || (q && r)) ≡ true → (q ≡ true) × (r ≡ true)
both_true true q r e h = absurd (cc)
both_true false true true e h = (refl, refl)
both_true false true false e h = absurd (cc)
both_true false false r e h = absurd (cc)

quotients_apart : (a b : ℤ) (m n : ℕ) → word_of a ≡ Some m → word_of b ≡ Some n → undivided m n ≡ false → a ≡ negsuc (2 ^ 31 - 1) → b ≡ negsuc 0 → ⊥
quotients_apart a b m n wa wb e ea eb =
    let m_is : m ≡ 2 ^ 31 = (let w = word_of_int a m wa in w.0) ∙ ap (cast_unsigned w32) ea in
    let n_is : n ≡ 2 ^ 32 - 1 = (let w = word_of_int b n wb in w.0) ∙ ap (cast_unsigned w32) eb in
    let t : true ≡ undivided m n = ap (λ z. undivided z (2 ^ 32 - 1)) (sym m_is) ∙ ap (λ z. undivided m z) (sym n_is) in
    absurd (cc)

module _ (C : ControlLaws) (M : MemoryLaws) (A : ArithmeticLaws) (N : NextLaws) where
  module _ (D : ℤ → ℤ → ℤ) (fits : (a d : ℤ) → FitsSigned w32 a → 0 < unsigned_abs d → (a ≡ negsuc (2 ^ 31 - 1) → d ≡ negsuc 0 → ⊥) → FitsSigned w32 (D a d))
      (least : int_result (D (int_of (2 ^ 31)) (int_of (2 ^ 32 - 1))) ≡ raised Overflow) where
    abbrev G : ℕ → ℕ → Option ℕ
    G m n = if undivided m n then None else Some (cast_unsigned w32 (D (int_of m) (int_of n)))

    quotient_ways : (lay : List Word) (m n k : ℕ) (q : Gives) (behind other : ℕ) (a b : ℤ) → word_of a ≡ Some m → word_of b ≡ Some n → Is lay (given (raised Overflow)) k → int_result (D a b) ≡ q
        → 0 < unsigned_abs b → (n == 0) ≡ false → (c : Bool) → undivided m n ≡ c
        → ((r : ℕ) → (if c then None else Some (cast_unsigned w32 (D (int_of m) (int_of n)))) ≡ Some r → Is lay (given q) r × (way_on q behind other ≡ behind))
        × ((if c then None else Some (cast_unsigned w32 (D (int_of m) (int_of n)))) ≡ None → Is lay (given q) k × (way_on q behind other ≡ other))
    quotient_ways lay m n k q behind other a b wa wb is s some nz true e =
        let t = both_true (n == 0) (m == 2 ^ 31) (n == 2 ^ 32 - 1) nz e in
        let a_is : a ≡ int_of (2 ^ 31) = sym (int_of-word a m wa) ∙ ap int_of (eqb-true m (2 ^ 31) t.0) in
        let b_is : b ≡ int_of (2 ^ 32 - 1) = sym (int_of-word b n wb) ∙ ap int_of (eqb-true n (2 ^ 32 - 1) t.1) in
        let q_is : raised Overflow ≡ q = sym least ∙ ap (λ z. int_result (D z (int_of (2 ^ 32 - 1)))) (sym a_is) ∙ ap (λ z. int_result (D a z)) (sym b_is) ∙ s in
        ((λ r h. absurd (cc)), (λ h. subst (λ q. Is lay (given q) k × (way_on q behind other ≡ other)) q_is (is, refl)))
    quotient_ways lay m n k q behind other a b wa wb is s some nz false e =
        let same : D (int_of m) (int_of n) ≡ D a b = ap (λ z. D z (int_of n)) (int_of-word a m wa) ∙ ap (λ z. D a z) (int_of-word b n wb) in
        let has_word : word_of (D a b) ≡ Some (cast_unsigned w32 (D a b)) =
        ap (λ c. if c then Some (cast_unsigned w32 (D a b)) else None) (fits_word_of (D a b) (fits a b (fits_of_word a m wa) some (quotients_apart a b m n wa wb e))) in (
          (λ r h. let g : cast_unsigned w32 (D (int_of m) (int_of n)) ≡ r = cc in
              let w : word_of (D a b) ≡ Some r = has_word ∙ ap Some (ap (cast_unsigned w32) (sym same) ∙ g) in
              subst (λ q. Is lay (given q) r × (way_on q behind other ≡ behind)) (sym (exact_some (D a b) r w) ∙ s) (w, refl)),
          (λ h. absurd (cc)),
        )

    quotient_by : (row : ℕ → ℕ → ℕ → Instr) → Partial row (λ m n. if undivided m n then None else Some (cast_unsigned w32 (D (int_of m) (int_of n))))
        → (code : List Instr) (f : Frame) (lay : List Word) (front above mem free : List ℕ) (q : Gives) (packets : Packets)
        → Is lay (given (raised Div)) (packets Div) → Is lay (given (raised Overflow)) (packets Overflow) → (pc other : ℕ) {xs : List ℕ}
        → Two front (Ints lay front (λ a b. unless_zero b (int_result (D a b)) ≡ q)) xs → HasAt code pc (divided row packets pc (length front) other xs)
        → Comes code f lay front mem (given q) (way_on q (pc + 5) other) (inside f pc (front ++ above) mem free)
    quotient_by row law code f lay front [] mem free q packets div over pc other (both x y m n e e' w) has =
        rows.Comes.lacks_stack (cut code N NoStack (inside f pc (front ++ []) mem free) (Li (length front) (packets Div)) has.0 (short C M A N code f lay front mem free pc _))
    quotient_by row law code f lay front (a ∷ rest) mem free q packets div over pc other (both x y m n e e' w) has = by (n == 0) refl
      where
        first : length front ≡ length front + 0
        first = omega arith

        k : ℕ
        k = packets Div

        s1 : Leads code (at C M A N code f front pc (a ∷ rest) mem free) (at C M A N code f front (pc + 1) (packets Div ∷ rest) mem free)
        s1 = li C M A N code f front pc 0 (length front) (a ∷ rest) mem free first (omega arith) (packets Div) has.0

        by : (c : Bool) → (n == 0) ≡ c → Comes code f lay front mem (given q) (way_on q (pc + 5) other) (inside f pc (front ++ a ∷ rest) mem free)
        by true z =
            let n_is : n ≡ 0 = eqb-true n 0 z in
            let b_is : w.1 ≡ pos 0 = sym (int_of-word w.1 n w.3) ∙ ap int_of n_is in
            let q_is : raised Div ≡ q = sym (ap (λ z. unless_zero z (int_result (D w.0 w.1))) b_is) ∙ w.4 in
            let s2 = brz_zero C M A N code f front (pc + 1) (packets Div ∷ rest) mem free y other (old C M A N code f front (packets Div ∷ rest) y 0 (e' ∙ ap Some n_is)) has.1.0 in
            subst (λ q. Comes code f lay front mem (given q) (way_on q (pc + 5) other) (inside f pc (front ++ a ∷ rest) mem free)) q_is
            (same_comes C M A N code f lay front mem free (given (raised Div)) (packets Div) other (inside f pc (front ++ a ∷ rest) mem free) rest div (trans code s1 s2) (omega arith))
        by false z =
            let some = not_zero w.1 n (int_result (D w.0 w.1)) w.3 z in
            let above_zero : 0 < n = (let apart : n ≡ 0 → ⊥ = λ h. (let t : true ≡ (n == 0) = ap (λ v. v == 0) (sym h) in absurd (cc)) in nonzero n apart) in
            let s2 = brz C M A N code f front (pc + 1) (packets Div ∷ rest) mem free y other n (old C M A N code f front (packets Div ∷ rest) y n e') above_zero has.1.0 in
            let n5 : pc + 1 + 1 + 3 ≡ pc + 5 = omega arith in
            let ways = quotient_ways lay m n (packets Overflow) q (pc + 1 + 1 + 3) other w.0 w.1 w.2 w.3 over (sym some.0 ∙ w.4) some.1 z (undivided m n) refl in
            comes_after code f lay front mem (trans code s1 s2)
            (subst (λ p. Comes code f lay front mem (given q) (way_on q p other) (inside f (pc + 1 + 1) (front ++ packets Div ∷ rest) mem free)) n5
            (raising_comes C M A N code f lay front mem free row (λ m n. if undivided m n then None else Some (cast_unsigned w32 (D (int_of m) (int_of n)))) law (given q) x y m n (packets Overflow)
            (pc + 1 + 1) (way_on q (pc + 1 + 1 + 3) other) other (packets Div ∷ rest) e e' has.1.1 ways.0 ways.1))
          where
            nonzero : (n : ℕ) → (n ≡ 0 → ⊥) → 0 < n
            nonzero zero h = absurd (h refl)
            nonzero (suc n) h = omega arith

  -- an integer without its sign
  absolute_by : (code : List Instr) (f : Frame) (lay : List Word) (front above mem free : List ℕ) (q : Gives) (packets : Packets) → Is lay (given (raised Overflow)) (packets Overflow) → (pc other : ℕ) {xs : List ℕ}
      → One front (λ m. (a : ℤ) × (word_of a ≡ Some m) × (int_result (if int_lt a (pos 0) then neg_ℤ a else a) ≡ q)) xs → HasAt code pc (magnitude packets pc (length front) other xs)
      → Comes code f lay front mem (given q) (way_on q (pc + 8) other) (inside f pc (front ++ above) mem free)
  absolute_by code f lay front [] mem free q packets over pc other (alone x m e w) has =
      rows.Comes.lacks_stack (cut code N NoStack (inside f pc (front ++ []) mem free) (Li (suc (length front)) 0) has.0 (lacks C M A N code f front pc 1 (suc (length front)) [] mem free _ (omega arith) (omega arith)))
  absolute_by code f lay front (a ∷ []) mem free q packets over pc other (alone x m e w) has =
      rows.Comes.lacks_stack (cut code N NoStack (inside f pc (front ++ a ∷ []) mem free) (Li (suc (length front)) 0) has.0 (lacks C M A N code f front pc 1 (suc (length front)) (a ∷ []) mem free _ (omega arith) (omega arith)))
  absolute_by code f lay front (a ∷ b ∷ rest) mem free q packets over pc other (alone x m e w) has = by (int_lt w.0 (pos 0)) refl
    where
      first : length front ≡ length front + 0
      first = omega arith

      second : suc (length front) ≡ length front + 1
      second = omega arith

      sign : ℕ
      sign = int_less m 0

      start : Leads code (at C M A N code f front pc (a ∷ b ∷ rest) mem free) (at C M A N code f front (pc + 1 + 1 + 1) (m ∷ int_less m 0 ∷ rest) mem free)
      start =
          trans code (li C M A N code f front pc 1 (suc (length front)) (a ∷ b ∷ rest) mem free second (omega arith) 0 has.0)
          (trans code (window.two C M A N code f front (pc + 1) 1 (suc (length front)) (a ∷ 0 ∷ rest) mem free second (omega arith) ILt int_less A.ilt x (suc (length front)) m 0
          (old C M A N code f front (a ∷ 0 ∷ rest) x m e) (young C M A N code f front (a ∷ 0 ∷ rest) 1 (suc (length front)) 0 second refl) has.1.0)
          (mov C M A N code f front (pc + 1 + 1) 0 (length front) (a ∷ int_less m 0 ∷ rest) mem free first (omega arith) x m (old C M A N code f front (a ∷ int_less m 0 ∷ rest) x m e) has.1.1.0))

      sign_is : (c : Bool) → int_lt w.0 (pos 0) ≡ c → int_less m 0 ≡ one_if c
      sign_is c g = ap (λ z. one_if (int_lt z (int_of 0))) (int_of-word w.0 m w.1) ∙ ap one_if g

      by : (c : Bool) → int_lt w.0 (pos 0) ≡ c → Comes code f lay front mem (given q) (way_on q (pc + 8) other) (inside f pc (front ++ a ∷ b ∷ rest) mem free)
      by true g =
          let s4 = brz C M A N code f front (pc + 1 + 1 + 1) (m ∷ int_less m 0 ∷ rest) mem free (suc (length front)) (pc + 8) 1
          (young C M A N code f front (m ∷ int_less m 0 ∷ rest) 1 (suc (length front)) 1 second (ap Some (sign_is true g))) (omega arith) has.1.1.1.0 in
          let n8 : pc + 1 + 1 + 1 + 1 + 4 ≡ pc + 8 = omega arith in
          comes_after code f lay front mem (trans code start s4)
          (subst (λ p. Comes code f lay front mem (given q) (way_on q p other) (inside f (pc + 1 + 1 + 1 + 1) (front ++ m ∷ int_less m 0 ∷ rest) mem free)) n8
          (negated_by C M A N code f lay front (m ∷ int_less m 0 ∷ rest) mem free q packets over (pc + 1 + 1 + 1 + 1) other (alone x m e (w.0, w.1, sym (ap (λ c. int_result (if c then neg_ℤ w.0 else w.0)) g) ∙ w.2)) has.1.1.1.1))
      by false g =
          let s4 = brz_zero C M A N code f front (pc + 1 + 1 + 1) (m ∷ int_less m 0 ∷ rest) mem free (suc (length front)) (pc + 8)
          (young C M A N code f front (m ∷ int_less m 0 ∷ rest) 1 (suc (length front)) 0 second (ap Some (sign_is false g))) has.1.1.1.0 in
          subst (λ q. Comes code f lay front mem (given q) (way_on q (pc + 8) other) (inside f pc (front ++ a ∷ b ∷ rest) mem free))
          (sym (exact_some w.0 m w.1) ∙ sym (ap (λ c. int_result (if c then neg_ℤ w.0 else w.0)) g) ∙ w.2)
          (same_comes C M A N code f lay front mem free (given (made (int w.0))) m (pc + 8) (inside f pc (front ++ a ∷ b ∷ rest) mem free) (int_less m 0 ∷ rest) w.1 (trans code start s4) (omega arith))

  pub divisions : DivisionIsFloored → DivisionsAreRight
  divisions floored = record {
    divide = record {
      long = λ packets pc d other xs. refl;
      does = λ code f lay front above mem free ready xs ls q h r packets are pc other has.
          quotient_by floor_div (rounded_down_fits floored) least_down IDiv A.idiv code f lay front above mem free q packets (are Div) (are Overflow) pc other
          (int_numbers lay front (λ a b. unless_zero b (int_result (floor_div a b))) (λ a b. unless_none b (made (word (a / b)))) q h (sym (ints_divide ls) ∙ r)) has;
    };
    quotient = record {
      long = λ packets pc d other xs. refl;
      does = λ code f lay front above mem free ready xs ls q h r packets are pc other has.
          quotient_by int_div towards_zero_fits least_towards_zero IQuot A.iquot code f lay front above mem free q packets (are Div) (are Overflow) pc other
          (int_pairs lay front (λ a b. unless_zero b (int_result (int_div a b))) q h (sym (ints_quotient ls) ∙ r)) has;
    };
    modulo = record {
      long = λ packets pc d other xs. refl;
      does = λ code f lay front above mem free ready xs ls q h r packets are pc other has late.
          rest_by C M A N floor_mod (mod_word floored) IMod A.imod (λ s d l r e. partial_short int_floor_remainder s d l r e) code f lay front above mem free q packets (are Div) pc other
          (int_numbers lay front (λ a b. unless_zero b (made (int (floor_mod a b)))) (λ a b. unless_none b (made (word (a % b)))) q h (sym (ints_modulo ls) ∙ r)) has late;
    };
    absolute = record {
      long = λ packets pc d other xs. refl;
      does = λ code f lay front above mem free ready xs ls q h r packets are pc other has.
          absolute_by code f lay front above mem free q packets (are Overflow) pc other
          (int_alone lay front (λ a. int_result (if int_lt a (pos 0) then neg_ℤ a else a)) q h (sym (ints_absolute ls) ∙ r)) has;
    };
  }
