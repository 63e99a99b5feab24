-- Comparisons of texts, as values and as tests.
use Rattle.std.proofs.Common.{◌≡◌, ℕ, ◌+◌, ◌<◌, List, [], ◌∷◌, ◌++◌, length, Some, Bool, true, false, ◌⊎◌, inl, inr, refl, sym, ap, ◌∙◌, subst, arith}
use Rattle.std.specs.Prelude.{slice_get, slice_set, not, option_map, if◌then◌else◌}
use Rattle.std.specs.Cmp.Lexicographic.{slice_cmp}
use Rattle.std.specs.Ordering.{nat_cmp, is_lt, is_le, is_eq, is_gt, is_ge, ordering_reverse}
use Rattle.std.specs.declared.cmp.Ordering.{Ordering}
use Rattle.std.specs.declared.cmp.Ordering.TheVariants as order
use Rattle.std.specs.Str.{bytes_eq}
use Rattle.std.proofs.lemmas.Cmp.{nat_list_cmp_total}
use Rattle.std.proofs.lemmas.Map.Text.{is_eq-slice_cmp}
use Rattle.ir_code.specs.declared.instr.Instr.{Instr}
use Rattle.ir_code.specs.declared.instr.Instr.TheVariants.{Li, Eq, ULt, SCmp}
use Rattle.ir_code.specs.declared.halt.Halt.TheVariants.{NoStack}
use Rattle.ir_code.specs.Words.{one_if, order_code, same_word, word_less}
use Rattle.ir_code.specs.Machine.{State, StepResult, Halts, check}
use Rattle.ir_code.specs.Laws.{ControlLaws, MemoryLaws, ArithmeticLaws, NextLaws, Total}
use Rattle.mlc_prims.specs.LitOf.{Literal, string, truth}
use Rattle.mlc_prims.specs.PrimOf.{Gives, made}
use Rattle.mlc_prims.specs.Table.{compared, tested, literal_cmp, literal_eq}
use Rattle.mlc_prims.specs.declared.basis.BasisPrimitive.{BasisPrimitive}
use Rattle.mlc_prims.specs.declared.basis.BasisPrimitive.TheVariants.{Less, LessEqual, Greater, GreaterEqual, Equals}
use Rattle.first_values.specs.Values.{truth_value}
use Rattle.first_values.specs.Operations.{texts, row_at}
use Rattle.machine_code.specs.of_machine_routines.Layout.{Word, TextAt, Shows, Is}
use Rattle.machine_code.specs.of_machine_routines.Runs.{HasAt, Frame, inside, Leads}
use Rattle.machine_code.proofs.of_machine_routines.Leads.{trans, cut}
use Rattle.machine_code.specs.Rows.{Packets, HoldAll, no_operand, an_operand, Ready, Comes, Passes, passes, given, way_on}
use Rattle.machine_code.specs.Rows as rows
use Rattle.machine_primitives.specs.RowLaws.{RowIsRight, TestIsRight}
use Rattle.machine_primitives.specs.RowCode.{against, holds, fails, swapped, are_same}
use Rattle.machine_primitives.specs.Laws.{TextOrdersAreRight}
use Rattle.machine_primitives.proofs.Shapes.{Short, past, same_comes}
use Rattle.machine_primitives.proofs.Window.{at, old, young, lacks, li, jmp, brz, brz_zero, scmp}
use Rattle.machine_primitives.proofs.Window as window
use Rattle.machine_primitives.proofs.Rows.{Two, both, at_kind, more_words}
use Rattle.machine_primitives.proofs.MoreRows.{kind_truth}

-- Two texts, whose order passes a test or not.

abbrev Ordered : List Word → (Ordering → Bool) → Bool → ℕ → ℕ → Type 0
Ordered lay test c m n = (s : List ℕ) × (t : List ℕ) × TextAt lay s m × TextAt lay t n × (test (slice_cmp nat_cmp s t) ≡ c)

abbrev Known : BasisPrimitive → (Ordering → Bool) → Type 0
Known p test = (lay : List Word) (front : List ℕ) (c : Bool) (xs : List ℕ) (ls : List Literal) → HoldAll lay front xs ls → row_at texts p ls ≡ Some (made (truth c)) → Two front (Ordered lay test c) xs

text_orders : (test : Ordering → Bool) (lay : List Word) (front : List ℕ) (c : Bool) {xs : List ℕ} {ls : List Literal} → HoldAll lay front xs ls → at_kind texts (compared test) ls ≡ Some (made (truth c)) → Two front (Ordered lay test c) xs
text_orders test lay front c (an_operand x (string s) m e i (an_operand y (string t) n e' i' no_operand)) r =
    both x y m n e e' (s, t, i, i', (let q : test (slice_cmp nat_cmp s t) ≡ c = cc in q))
text_orders test lay front c (an_operand x (string s) m e i (an_operand y l n e' i' no_operand)) r = absurd (cc)
text_orders test lay front c h r = absurd (cc)

text_equal : (lay : List Word) (front : List ℕ) (c : Bool) {xs : List ℕ} {ls : List Literal} → HoldAll lay front xs ls → at_kind texts (tested literal_eq) ls ≡ Some (made (truth c)) → Two front (Ordered lay is_eq c) xs
text_equal lay front c (an_operand x (string s) m e i (an_operand y (string t) n e' i' no_operand)) r =
    both x y m n e e' (s, t, i, i', is_eq-slice_cmp s t ∙ (let q : bytes_eq s t ≡ c = cc in q))
text_equal lay front c (an_operand x (string s) m e i (an_operand y l n e' i' no_operand)) r = absurd (cc)
text_equal lay front c h r = absurd (cc)

texts_less : (ls : List Literal) → row_at texts Less ls ≡ at_kind texts (compared is_lt) ls
texts_less [] = refl
texts_less (l ∷ ls) = refl

texts_less_equal : (ls : List Literal) → row_at texts LessEqual ls ≡ at_kind texts (compared is_le) ls
texts_less_equal [] = refl
texts_less_equal (l ∷ ls) = refl

texts_greater : (ls : List Literal) → row_at texts Greater ls ≡ at_kind texts (compared is_gt) ls
texts_greater [] = refl
texts_greater (l ∷ ls) = refl

texts_greater_equal : (ls : List Literal) → row_at texts GreaterEqual ls ≡ at_kind texts (compared is_ge) ls
texts_greater_equal [] = refl
texts_greater_equal (l ∷ ls) = refl

texts_equals : (ls : List Literal) → row_at texts Equals ls ≡ at_kind texts (tested literal_eq) ls
texts_equals [] = refl
texts_equals (l ∷ ls) = refl

known_less : Known Less is_lt
known_less lay front c xs ls h r = text_orders is_lt lay front c h (sym (texts_less ls) ∙ r)

known_less_equal : Known LessEqual is_le
known_less_equal lay front c xs ls h r = text_orders is_le lay front c h (sym (texts_less_equal ls) ∙ r)

known_greater : Known Greater is_gt
known_greater lay front c xs ls h r = text_orders is_gt lay front c h (sym (texts_greater ls) ∙ r)

known_greater_equal : Known GreaterEqual is_ge
known_greater_equal lay front c xs ls h r = text_orders is_ge lay front c h (sym (texts_greater_equal ls) ∙ r)

known_equals : Known Equals is_eq
known_equals lay front c xs ls h r = text_equal lay front c h (sym (texts_equals ls) ∙ r)

-- the other way round
abbrev other_order : Ordering → Ordering
other_order order.Less = order.Greater
other_order order.Equal = order.Equal
other_order order.Greater = order.Less

reversed_is : (o : Ordering) → ordering_reverse o ≡ other_order o
reversed_is order.Less = refl
reversed_is order.Equal = refl
reversed_is order.Greater = refl

round : (s t : List ℕ) → slice_cmp nat_cmp t s ≡ other_order (slice_cmp nat_cmp s t)
round s t = nat_list_cmp_total.antisymm t s ∙ reversed_is (slice_cmp nat_cmp s t)

no_slot : (b : Bool) (s : State) (led : StepResult) → b ≡ false → check b NoStack s led ≡ Halts NoStack s
no_slot b s led e = ap (λ b. check b NoStack s led) e

short_scmp : Short SCmp
short_scmp s d l r e = no_slot _ s _ e

short_round : Short (swapped SCmp)
short_round s d l r e = no_slot _ s _ e

-- a word is 0 where a test has one answer, and above 0 where it has the other
abbrev Tells : ℕ → Bool → Bool → Type 0
Tells n zero b = ((n ≡ 0) × (b ≡ zero)) ⊎ ((0 < n) × (b ≡ not zero))

module _ (C : ControlLaws) (M : MemoryLaws) (A : ArithmeticLaws) (N : NextLaws) where
  -- what a comparison of texts gives
  abbrev Compares : (ℕ → ℕ → ℕ → Instr) → (Ordering → Ordering) → Type 0
  Compares row h = (code : List Instr) (f : Frame) (front : List ℕ) (pc k x : ℕ) (ws mem free : List ℕ) → x ≡ length front + k → k < length ws
      → (lay : List Word) (y z v w : ℕ) (s t : List ℕ) → slice_get (front ++ ws) y ≡ Some v → slice_get (front ++ ws) z ≡ Some w → Shows lay mem → TextAt lay s v → TextAt lay t w
      → slice_get code pc ≡ Some (row x y z)
      → Leads code (at C M A N code f front pc ws mem free) (at C M A N code f front (pc + 1) (slice_set ws k (order_code (h (slice_cmp nat_cmp s t)))) mem free)

  compares : Compares SCmp (λ o. o)
  compares code f front pc k x ws mem free here lt lay y z v w s t e g show i j has = scmp C M A N code f front pc k x ws mem free here lt lay y z v w s t e g show i j has

  compares_round : Compares (swapped SCmp) other_order
  compares_round code f front pc k x ws mem free here lt lay y z v w s t e g show i j has =
      subst (λ o. Leads code (at C M A N code f front pc ws mem free) (at C M A N code f front (pc + 1) (slice_set ws k (order_code o)) mem free)) (round s t)
      (scmp C M A N code f front pc k x ws mem free here lt lay z y w v t s g e show j i has)

  -- As a value: tested against a number.
  against_row : (p : BasisPrimitive) (n : ℕ) (row : ℕ → ℕ → ℕ → Instr) (h : Ordering → Ordering) → Compares row h → (test : ℕ → ℕ → ℕ → Instr) (g : ℕ → ℕ → ℕ) → Total test g
      → (tells : Ordering → Bool) → ((o : Ordering) → g (order_code (h o)) n ≡ one_if (tells o)) → ((ls : List Literal) (q : Gives) → row_at texts p ls ≡ Some q → (c : Bool) × (q ≡ made (truth c)))
      → Known p tells → RowIsRight texts p 3 (against n row test)
  against_row p n row h compare test g law tells says truths known = record {
    long = λ packets pc d other xs. refl;
    does = λ code f lay front above mem free ready xs ls q h r packets are pc other has.
        let t = truths ls q r in
        subst (λ q. Comes code f lay front mem (given q) (way_on q (pc + 3) other) (inside f pc (front ++ above) mem free)) (sym t.1)
        (by code f lay front above mem free ready t.0 packets pc other (known lay front t.0 xs ls h (r ∙ ap Some t.1)) has);
  }
    where
      by : (code : List Instr) (f : Frame) (lay : List Word) (front above mem free : List ℕ) → Ready f lay mem free → (c : Bool) (packets : Packets) (pc other : ℕ) {xs : List ℕ}
          → Two front (Ordered lay tells c) xs → HasAt code pc (against n row test packets pc (length front) other xs)
          → Comes code f lay front mem (truth_value c) (pc + 3) (inside f pc (front ++ above) mem free)
      by code f lay front [] mem free ready c packets pc other (both x y u v e e' w) has =
          rows.Comes.lacks_stack (cut code N NoStack (inside f pc (front ++ []) mem free) (Li (length front + 1) n) has.0 (lacks C M A N code f front pc 1 (length front + 1) [] mem free _ refl (omega arith)))
      by code f lay front (a ∷ []) mem free ready c packets pc other (both x y u v e e' w) has =
          rows.Comes.lacks_stack (cut code N NoStack (inside f pc (front ++ a ∷ []) mem free) (Li (length front + 1) n) has.0 (lacks C M A N code f front pc 1 (length front + 1) (a ∷ []) mem free _ refl (omega arith)))
      by code f lay front (a ∷ b ∷ rest) mem free ready c packets pc other (both x y u v e e' w) has =
          let first : length front ≡ length front + 0 = omega arith in
          let d = order_code (h (slice_cmp nat_cmp w.0 w.1)) in
          let s1 = li C M A N code f front pc 1 (length front + 1) (a ∷ b ∷ rest) mem free refl (omega arith) n has.0 in
          let s2 = compare code f front (pc + 1) 0 (length front) (a ∷ n ∷ rest) mem free first (omega arith) lay x y u v w.0 w.1 (old C M A N code f front (a ∷ n ∷ rest) x u e)
          (old C M A N code f front (a ∷ n ∷ rest) y v e') ready.shows w.2 w.3 has.1.0 in
          let s3 = window.two C M A N code f front (pc + 1 + 1) 0 (length front) (d ∷ n ∷ rest) mem free first (omega arith) test g law (length front) (length front + 1) d n
          (young C M A N code f front (d ∷ n ∷ rest) 0 (length front) d first refl) (young C M A N code f front (d ∷ n ∷ rest) 1 (length front + 1) n refl refl) has.1.1.0 in
          let n3 : pc + 1 + 1 + 1 ≡ pc + 3 = omega arith in
          let is : g d n ≡ one_if c = says (slice_cmp nat_cmp w.0 w.1) ∙ ap one_if w.4 in
          subst (λ z. Comes code f lay front mem (truth_value c) z (inside f pc (front ++ a ∷ b ∷ rest) mem free)) n3
          (same_comes C M A N code f lay front mem free (truth_value c) (g d n) (pc + 1 + 1 + 1) (inside f pc (front ++ a ∷ b ∷ rest) mem free) (n ∷ rest)
          (subst (λ z. Is lay (truth_value c) z) (sym is) (ready.truths c)) (trans code s1 (trans code s2 s3)) (omega arith))

  -- As a test: where the comparison doesn't give 0, or where it does.
  holds_order : (p : BasisPrimitive) (row : ℕ → ℕ → ℕ → Instr) (h : Ordering → Ordering) → Short row → Compares row h → (test : Ordering → Bool)
      → ((o : Ordering) → Tells (order_code (h o)) false (test o)) → Known p test → TestIsRight texts p 2 (holds row)
  holds_order p row h none compare test says known = record {
    long = λ pc d other xs. refl;
    tests = λ code f lay front above mem free ready xs ls c hold r pc other has. by code f lay front above mem free ready c pc other (known lay front c xs ls hold r) has;
  }
    where
      by : (code : List Instr) (f : Frame) (lay : List Word) (front above mem free : List ℕ) → Ready f lay mem free → (c : Bool) (pc other : ℕ) {xs : List ℕ}
          → Two front (Ordered lay test c) xs → HasAt code pc (holds row pc (length front) other xs)
          → Passes code f front mem free (if c then pc + 2 else other) (inside f pc (front ++ above) mem free)
      by code f lay front [] mem free ready c pc other (both x y u v e e' w) has =
          rows.Passes.lacks_stack (cut code N NoStack (inside f pc (front ++ []) mem free) (row (length front) x y) has.0
          (none (inside f pc (front ++ []) mem free) (length front) x y (past C M A N code f lay front mem free)))
      by code f lay front (a ∷ rest) mem free ready c pc other (both x y u v e e' w) has = go (says (slice_cmp nat_cmp w.0 w.1))
        where
          first : length front ≡ length front + 0
          first = omega arith

          s1 : Leads code (at C M A N code f front pc (a ∷ rest) mem free) (at C M A N code f front (pc + 1) (order_code (h (slice_cmp nat_cmp w.0 w.1)) ∷ rest) mem free)
          s1 = compare code f front pc 0 (length front) (a ∷ rest) mem free first (omega arith) lay x y u v w.0 w.1 (old C M A N code f front (a ∷ rest) x u e) (old C M A N code f front (a ∷ rest) y v e') ready.shows w.2 w.3 has.0

          go : Tells (order_code (h (slice_cmp nat_cmp w.0 w.1))) false (test (slice_cmp nat_cmp w.0 w.1)) → Passes code f front mem free (if c then pc + 2 else other) (inside f pc (front ++ a ∷ rest) mem free)
          go (inl t) =
              let d = order_code (h (slice_cmp nat_cmp w.0 w.1)) in
              let s2 = brz_zero C M A N code f front (pc + 1) (d ∷ rest) mem free (length front) other (young C M A N code f front (d ∷ rest) 0 (length front) 0 first (ap Some t.0)) has.1.0 in
              subst (λ b. Passes code f front mem free (if b then pc + 2 else other) (inside f pc (front ++ a ∷ rest) mem free)) (sym t.1 ∙ w.4) (passes f.acc (d ∷ rest) (trans code s1 s2) (omega arith))
          go (inr t) =
              let d = order_code (h (slice_cmp nat_cmp w.0 w.1)) in
              let n2 : pc + 1 + 1 ≡ pc + 2 = omega arith in
              let s2 = brz C M A N code f front (pc + 1) (d ∷ rest) mem free (length front) other d (young C M A N code f front (d ∷ rest) 0 (length front) d first refl) t.0 has.1.0 in
              subst (λ b. Passes code f front mem free (if b then pc + 2 else other) (inside f pc (front ++ a ∷ rest) mem free)) (sym t.1 ∙ w.4)
              (subst (λ z. Passes code f front mem free z (inside f pc (front ++ a ∷ rest) mem free)) n2 (passes f.acc (d ∷ rest) (trans code s1 s2) (omega arith)))

  fails_order : (p : BasisPrimitive) (row : ℕ → ℕ → ℕ → Instr) (h : Ordering → Ordering) → Short row → Compares row h → (test : Ordering → Bool)
      → ((o : Ordering) → Tells (order_code (h o)) true (test o)) → Known p test → TestIsRight texts p 3 (fails row)
  fails_order p row h none compare test says known = record {
    long = λ pc d other xs. refl;
    tests = λ code f lay front above mem free ready xs ls c hold r pc other has. by code f lay front above mem free ready c pc other (known lay front c xs ls hold r) has;
  }
    where
      by : (code : List Instr) (f : Frame) (lay : List Word) (front above mem free : List ℕ) → Ready f lay mem free → (c : Bool) (pc other : ℕ) {xs : List ℕ}
          → Two front (Ordered lay test c) xs → HasAt code pc (fails row pc (length front) other xs)
          → Passes code f front mem free (if c then pc + 3 else other) (inside f pc (front ++ above) mem free)
      by code f lay front [] mem free ready c pc other (both x y u v e e' w) has =
          rows.Passes.lacks_stack (cut code N NoStack (inside f pc (front ++ []) mem free) (row (length front) x y) has.0
          (none (inside f pc (front ++ []) mem free) (length front) x y (past C M A N code f lay front mem free)))
      by code f lay front (a ∷ rest) mem free ready c pc other (both x y u v e e' w) has = go (says (slice_cmp nat_cmp w.0 w.1))
        where
          first : length front ≡ length front + 0
          first = omega arith

          s1 : Leads code (at C M A N code f front pc (a ∷ rest) mem free) (at C M A N code f front (pc + 1) (order_code (h (slice_cmp nat_cmp w.0 w.1)) ∷ rest) mem free)
          s1 = compare code f front pc 0 (length front) (a ∷ rest) mem free first (omega arith) lay x y u v w.0 w.1 (old C M A N code f front (a ∷ rest) x u e) (old C M A N code f front (a ∷ rest) y v e') ready.shows w.2 w.3 has.0

          go : Tells (order_code (h (slice_cmp nat_cmp w.0 w.1))) true (test (slice_cmp nat_cmp w.0 w.1)) → Passes code f front mem free (if c then pc + 3 else other) (inside f pc (front ++ a ∷ rest) mem free)
          go (inl t) =
              let d = order_code (h (slice_cmp nat_cmp w.0 w.1)) in
              let s2 = brz_zero C M A N code f front (pc + 1) (d ∷ rest) mem free (length front) (pc + 3) (young C M A N code f front (d ∷ rest) 0 (length front) 0 first (ap Some t.0)) has.1.0 in
              subst (λ b. Passes code f front mem free (if b then pc + 3 else other) (inside f pc (front ++ a ∷ rest) mem free)) (sym t.1 ∙ w.4) (passes f.acc (d ∷ rest) (trans code s1 s2) (omega arith))
          go (inr t) =
              let d = order_code (h (slice_cmp nat_cmp w.0 w.1)) in
              let s2 = brz C M A N code f front (pc + 1) (d ∷ rest) mem free (length front) (pc + 3) d (young C M A N code f front (d ∷ rest) 0 (length front) d first refl) t.0 has.1.0 in
              let s3 = jmp C M A N code f front (pc + 1 + 1) (d ∷ rest) mem free other has.1.1.0 in
              subst (λ b. Passes code f front mem free (if b then pc + 3 else other) (inside f pc (front ++ a ∷ rest) mem free)) (sym t.1 ∙ w.4) (passes f.acc (d ∷ rest) (trans code s1 (trans code s2 s3)) (omega arith))

  -- whether two texts are the same
  same_test : TestIsRight texts Equals 4 are_same
  same_test = record {
    long = λ pc d other xs. refl;
    tests = λ code f lay front above mem free ready xs ls c hold r pc other has. by code f lay front above mem free ready c pc other (known_equals lay front c xs ls hold r) has;
  }
    where
      one_or_not : (o : Ordering) → ((same_word (order_code o) 1 ≡ 1) × (is_eq o ≡ true)) ⊎ ((same_word (order_code o) 1 ≡ 0) × (is_eq o ≡ false))
      one_or_not order.Less = inr (refl, refl)
      one_or_not order.Equal = inl (refl, refl)
      one_or_not order.Greater = inr (refl, refl)

      by : (code : List Instr) (f : Frame) (lay : List Word) (front above mem free : List ℕ) → Ready f lay mem free → (c : Bool) (pc other : ℕ) {xs : List ℕ}
          → Two front (Ordered lay is_eq c) xs → HasAt code pc (are_same pc (length front) other xs)
          → Passes code f front mem free (if c then pc + 4 else other) (inside f pc (front ++ above) mem free)
      by code f lay front [] mem free ready c pc other (both x y u v e e' w) has =
          rows.Passes.lacks_stack (cut code N NoStack (inside f pc (front ++ []) mem free) (Li (length front + 1) 1) has.0 (lacks C M A N code f front pc 1 (length front + 1) [] mem free _ refl (omega arith)))
      by code f lay front (a ∷ []) mem free ready c pc other (both x y u v e e' w) has =
          rows.Passes.lacks_stack (cut code N NoStack (inside f pc (front ++ a ∷ []) mem free) (Li (length front + 1) 1) has.0 (lacks C M A N code f front pc 1 (length front + 1) (a ∷ []) mem free _ refl (omega arith)))
      by code f lay front (a ∷ b ∷ rest) mem free ready c pc other (both x y u v e e' w) has = go (one_or_not (slice_cmp nat_cmp w.0 w.1))
        where
          first : length front ≡ length front + 0
          first = omega arith

          start : Leads code (at C M A N code f front pc (a ∷ b ∷ rest) mem free) (at C M A N code f front (pc + 1 + 1 + 1) (same_word (order_code (slice_cmp nat_cmp w.0 w.1)) 1 ∷ 1 ∷ rest) mem free)
          start =
              let d = order_code (slice_cmp nat_cmp w.0 w.1) in
              trans code (li C M A N code f front pc 1 (length front + 1) (a ∷ b ∷ rest) mem free refl (omega arith) 1 has.0)
              (trans code (scmp C M A N code f front (pc + 1) 0 (length front) (a ∷ 1 ∷ rest) mem free first (omega arith) lay x y u v w.0 w.1 (old C M A N code f front (a ∷ 1 ∷ rest) x u e)
              (old C M A N code f front (a ∷ 1 ∷ rest) y v e') ready.shows w.2 w.3 has.1.0)
              (window.two C M A N code f front (pc + 1 + 1) 0 (length front) (d ∷ 1 ∷ rest) mem free first (omega arith) Eq same_word A.eq (length front) (length front + 1) d 1
              (young C M A N code f front (d ∷ 1 ∷ rest) 0 (length front) d first refl) (young C M A N code f front (d ∷ 1 ∷ rest) 1 (length front + 1) 1 refl refl) has.1.1.0))

          go : ((same_word (order_code (slice_cmp nat_cmp w.0 w.1)) 1 ≡ 1) × (is_eq (slice_cmp nat_cmp w.0 w.1) ≡ true)) ⊎ ((same_word (order_code (slice_cmp nat_cmp w.0 w.1)) 1 ≡ 0) × (is_eq (slice_cmp nat_cmp w.0 w.1) ≡ false))
              → Passes code f front mem free (if c then pc + 4 else other) (inside f pc (front ++ a ∷ b ∷ rest) mem free)
          go (inl t) =
              let g = same_word (order_code (slice_cmp nat_cmp w.0 w.1)) 1 in
              let n4 : pc + 1 + 1 + 1 + 1 ≡ pc + 4 = omega arith in
              let s4 = brz C M A N code f front (pc + 1 + 1 + 1) (g ∷ 1 ∷ rest) mem free (length front) other g (young C M A N code f front (g ∷ 1 ∷ rest) 0 (length front) g first refl) (omega (arith, t.0)) has.1.1.1.0 in
              subst (λ q. Passes code f front mem free (if q then pc + 4 else other) (inside f pc (front ++ a ∷ b ∷ rest) mem free)) (sym t.1 ∙ w.4)
              (subst (λ z. Passes code f front mem free z (inside f pc (front ++ a ∷ b ∷ rest) mem free)) n4 (passes f.acc (g ∷ 1 ∷ rest) (trans code start s4) (omega arith)))
          go (inr t) =
              let g = same_word (order_code (slice_cmp nat_cmp w.0 w.1)) 1 in
              let s4 = brz_zero C M A N code f front (pc + 1 + 1 + 1) (g ∷ 1 ∷ rest) mem free (length front) other (young C M A N code f front (g ∷ 1 ∷ rest) 0 (length front) 0 first (ap Some t.0)) has.1.1.1.0 in
              subst (λ q. Passes code f front mem free (if q then pc + 4 else other) (inside f pc (front ++ a ∷ b ∷ rest) mem free)) (sym t.1 ∙ w.4)
              (passes f.acc (g ∷ 1 ∷ rest) (trans code start s4) (omega arith))

  pub text_orders_right : TextOrdersAreRight
  text_orders_right = record {
    less = against_row Less 0 SCmp (λ o. o) compares Eq same_word A.eq is_lt less_says (λ ls q r. kind_truth texts (λ a b. option_map is_lt (literal_cmp a b)) ls q (sym (texts_less ls) ∙ r)) known_less;
    less_equal = against_row LessEqual 0 (swapped SCmp) other_order compares_round (swapped ULt) (λ m n. word_less n m) (more_words C M A N) is_le less_equal_says (λ ls q r. kind_truth texts (λ a b. option_map is_le (literal_cmp a b)) ls q (sym (texts_less_equal ls) ∙ r)) known_less_equal;
    greater = against_row Greater 0 (swapped SCmp) other_order compares_round Eq same_word A.eq is_gt greater_says (λ ls q r. kind_truth texts (λ a b. option_map is_gt (literal_cmp a b)) ls q (sym (texts_greater ls) ∙ r)) known_greater;
    greater_equal = against_row GreaterEqual 0 SCmp (λ o. o) compares (swapped ULt) (λ m n. word_less n m) (more_words C M A N) is_ge greater_equal_says (λ ls q r. kind_truth texts (λ a b. option_map is_ge (literal_cmp a b)) ls q (sym (texts_greater_equal ls) ∙ r)) known_greater_equal;
    equals = against_row Equals 1 SCmp (λ o. o) compares Eq same_word A.eq is_eq equals_says (λ ls q r. kind_truth texts literal_eq ls q (sym (texts_equals ls) ∙ r)) known_equals;
    is_less = fails_order Less SCmp (λ o. o) short_scmp compares is_lt less_tells known_less;
    is_less_equal = holds_order LessEqual (swapped SCmp) other_order short_round compares_round is_le less_equal_tells known_less_equal;
    is_greater = fails_order Greater (swapped SCmp) other_order short_round compares_round is_gt greater_tells known_greater;
    is_greater_equal = holds_order GreaterEqual SCmp (λ o. o) short_scmp compares is_ge greater_equal_tells known_greater_equal;
    are_equal = same_test;
  }
    where
      less_says : (o : Ordering) → same_word (order_code o) 0 ≡ one_if (is_lt o)
      less_says order.Less = refl
      less_says order.Equal = refl
      less_says order.Greater = refl

      less_equal_says : (o : Ordering) → word_less 0 (order_code (other_order o)) ≡ one_if (is_le o)
      less_equal_says order.Less = refl
      less_equal_says order.Equal = refl
      less_equal_says order.Greater = refl

      greater_says : (o : Ordering) → same_word (order_code (other_order o)) 0 ≡ one_if (is_gt o)
      greater_says order.Less = refl
      greater_says order.Equal = refl
      greater_says order.Greater = refl

      greater_equal_says : (o : Ordering) → word_less 0 (order_code o) ≡ one_if (is_ge o)
      greater_equal_says order.Less = refl
      greater_equal_says order.Equal = refl
      greater_equal_says order.Greater = refl

      equals_says : (o : Ordering) → same_word (order_code o) 1 ≡ one_if (is_eq o)
      equals_says order.Less = refl
      equals_says order.Equal = refl
      equals_says order.Greater = refl

      less_tells : (o : Ordering) → Tells (order_code o) true (is_lt o)
      less_tells order.Less = inl (refl, refl)
      less_tells order.Equal = inr (omega arith, refl)
      less_tells order.Greater = inr (omega arith, refl)

      greater_tells : (o : Ordering) → Tells (order_code (other_order o)) true (is_gt o)
      greater_tells order.Less = inr (omega arith, refl)
      greater_tells order.Equal = inr (omega arith, refl)
      greater_tells order.Greater = inl (refl, refl)

      less_equal_tells : (o : Ordering) → Tells (order_code (other_order o)) false (is_le o)
      less_equal_tells order.Less = inr (omega arith, refl)
      less_equal_tells order.Equal = inr (omega arith, refl)
      less_equal_tells order.Greater = inl (refl, refl)

      greater_equal_tells : (o : Ordering) → Tells (order_code o) false (is_ge o)
      greater_equal_tells order.Less = inl (refl, refl)
      greater_equal_tells order.Equal = inr (omega arith, refl)
      greater_equal_tells order.Greater = inr (omega arith, refl)
