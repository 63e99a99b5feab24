-- Shapes of code that use the slot behind that of the result too.
use Rattle.std.proofs.Common.{◌≡◌, ℕ, suc, ◌+◌, ◌<◌, ◌≤◌, List, [], ◌∷◌, ◌++◌, length, Some, sym, ap, ◌∙◌, subst, ⊎_elim, arith, length-append}
use Rattle.std.specs.Prelude.{slice_get, slice_set}
use Rattle.std.proofs.lemmas.Bool.{cases_lt, lt-ltb, le-ltb}
use Rattle.ir_code.specs.declared.instr.Instr.{Instr}
use Rattle.ir_code.specs.declared.instr.Instr.TheVariants.{Li, Mov, Brz, Ld, Eq, ULt}
use Rattle.ir_code.specs.declared.halt.Halt.TheVariants.{NoStack}
use Rattle.ir_code.specs.Words.{one_if, same_word, word_less}
use Rattle.ir_code.specs.Machine.{State, StepResult, Goes, Halts, act, check, on_slot}
use Rattle.ir_code.specs.Laws.{ControlLaws, MemoryLaws, ArithmeticLaws, NextLaws, Total}
use Rattle.first_values.specs.Values.{Value}
use Rattle.machine_code.specs.of_machine_routines.Layout.{Word, Is}
use Rattle.machine_code.specs.of_machine_routines.Runs.{HasAt, Frame, inside, Leads}
use Rattle.machine_code.proofs.of_machine_routines.Seams.{get_right, set_right, get_here}
use Rattle.machine_code.proofs.of_machine_routines.Leads.{trans, step_to, cut, out_after}
use Rattle.machine_code.proofs.of_machine_routines.Steps as steps
use Rattle.machine_code.specs.Rows.{Comes}
use Rattle.machine_code.specs.Rows as rows
use Rattle.machine_primitives.proofs.Shapes.{Short, past, short, room, written, there, does_li, does_mov, does_two, same_comes}

module _ (C : ControlLaws) (M : MemoryLaws) (A : ArithmeticLaws) (N : NextLaws) (code : List Instr) (f : Frame) (lay : List Word) (front mem free : List ℕ) where
  abbrev at : ℕ → List ℕ → State
  at pc rest = inside f pc (front ++ rest) mem free

  pub short2 : (pc : ℕ) (rest : List ℕ) (led : StepResult) → length rest ≤ 1 → on_slot (at pc rest) (suc (length front)) led ≡ Halts NoStack (at pc rest)
  short2 pc rest led le = ap (λ b. check b NoStack (at pc rest) led) (le-ltb _ _ (omega (arith, length-append f.lower (front ++ rest), length-append front rest)))

  pub second : (a b : ℕ) (rest : List ℕ) → slice_get (front ++ a ∷ b ∷ rest) (suc (length front)) ≡ Some b
  second a b rest =
      let n : length front + 1 ≡ suc (length front) = omega arith in
      subst (λ k. slice_get (front ++ a ∷ b ∷ rest) k ≡ Some b) n (get_right front (a ∷ b ∷ rest) 1)

  written2 : (pc a b v : ℕ) (rest : List ℕ) → steps.with_slot C M A f pc (front ++ a ∷ b ∷ rest) mem free (suc (length front)) v ≡ at (pc + 1) (a ∷ v ∷ rest)
  written2 pc a b v rest =
      let n : length front + 1 ≡ suc (length front) = omega arith in
      ap (λ z. inside f (pc + 1) z mem free) (subst (λ k. slice_set (front ++ a ∷ b ∷ rest) k v ≡ front ++ a ∷ v ∷ rest) n (set_right front (a ∷ b ∷ rest) 1 v))

  room2 : (a b : ℕ) (rest : List ℕ) → suc (length front) < length (front ++ a ∷ b ∷ rest)
  room2 a b rest = omega (arith, length-append front (a ∷ b ∷ rest))

  pub does_li2 : (pc v a b : ℕ) (rest : List ℕ) → act (at pc (a ∷ b ∷ rest)) (Li (suc (length front)) v) ≡ Goes (at (pc + 1) (a ∷ v ∷ rest))
  does_li2 pc v a b rest = steps.does_li C M A f pc (front ++ a ∷ b ∷ rest) mem free (suc (length front)) v (room2 a b rest) ∙ ap Goes (written2 pc a b v rest)

  -- A word below a limit, or a packet.
  pub limited_comes : (v : Value) (x m k limit pc place other : ℕ) (above : List ℕ) → slice_get front x ≡ Some m
      → HasAt code pc (Li (length front) k ∷ Li (suc (length front)) limit ∷ ULt (suc (length front)) x (suc (length front)) ∷ Brz (suc (length front)) other ∷ Mov (length front) x ∷ [])
      → (m < limit → Is lay v m × (place ≡ pc + 5)) → (limit ≤ m → Is lay v k × (place ≡ other)) → Comes code f lay front mem v place (at pc above)
  limited_comes v x m k limit pc place other [] e has below above_it =
      rows.Comes.lacks_stack (cut code N NoStack (at pc []) (Li (length front) k) has.0 (short C M A N code f lay front mem free pc _))
  limited_comes v x m k limit pc place other (a ∷ []) e has below above_it =
      let s1 : Leads code (at pc (a ∷ [])) (at (pc + 1) (k ∷ [])) = step_to code N (Li (length front) k) has.0 (does_li C M A N code f lay front mem free pc k a []) in
      rows.Comes.lacks_stack (out_after code s1 (cut code N NoStack (at (pc + 1) (k ∷ [])) (Li (suc (length front)) limit) has.1.0 (short2 (pc + 1) (k ∷ []) _ (omega arith))))
  limited_comes v x m k limit pc place other (a ∷ b ∷ rest) e has below above_it =
      ⊎_elim
      (λ lt.
      let w = below lt in
      let s4 : Leads code (at (pc + 1 + 1 + 1) (k ∷ word_less m limit ∷ rest)) (at (pc + 1 + 1 + 1 + 1) (k ∷ word_less m limit ∷ rest)) =
      step_to code N (Brz (suc (length front)) other) has.1.1.1.0
      (steps.does_brz C M A f (pc + 1 + 1 + 1) (front ++ k ∷ word_less m limit ∷ rest) mem free (suc (length front)) other (word_less m limit) (second k (word_less m limit) rest)
      (let g : word_less m limit ≡ 1 = ap one_if (lt-ltb m limit lt) in omega arith)) in
      let n5 : pc + 1 + 1 + 1 + 1 + 1 ≡ pc + 5 = omega arith in
      let s5 : Leads code (at (pc + 1 + 1 + 1 + 1) (k ∷ word_less m limit ∷ rest)) (at (pc + 5) (m ∷ word_less m limit ∷ rest)) =
      step_to code N (Mov (length front) x) has.1.1.1.1.0
      (does_mov C M A N code f lay front mem free (pc + 1 + 1 + 1 + 1) x m k (word_less m limit ∷ rest) e ∙ ap (λ z. Goes (at z (m ∷ word_less m limit ∷ rest))) n5) in
      subst (λ z. Comes code f lay front mem v z (at pc (a ∷ b ∷ rest))) (sym w.1)
      (same_comes C M A N code f lay front mem free v m (pc + 5) (at pc (a ∷ b ∷ rest)) (word_less m limit ∷ rest) w.0 (trans code start (trans code s4 s5)) (omega arith)))
      (λ le.
      let w = above_it le in
      let s4 : Leads code (at (pc + 1 + 1 + 1) (k ∷ word_less m limit ∷ rest)) (at other (k ∷ word_less m limit ∷ rest)) =
      step_to code N (Brz (suc (length front)) other) has.1.1.1.0
      (steps.does_brz_zero C M A f (pc + 1 + 1 + 1) (front ++ k ∷ word_less m limit ∷ rest) mem free (suc (length front)) other
      (second k (word_less m limit) rest ∙ ap (λ z. Some (one_if z)) (le-ltb m limit le))) in
      subst (λ z. Comes code f lay front mem v z (at pc (a ∷ b ∷ rest))) (sym w.1)
      (same_comes C M A N code f lay front mem free v k other (at pc (a ∷ b ∷ rest)) (word_less m limit ∷ rest) w.0 (trans code start s4) (omega arith)))
      (cases_lt m limit)
    where
      start : Leads code (at pc (a ∷ b ∷ rest)) (at (pc + 1 + 1 + 1) (k ∷ word_less m limit ∷ rest))
      start =
          let s1 : Leads code (at pc (a ∷ b ∷ rest)) (at (pc + 1) (k ∷ b ∷ rest)) = step_to code N (Li (length front) k) has.0 (does_li C M A N code f lay front mem free pc k a (b ∷ rest)) in
          let s2 : Leads code (at (pc + 1) (k ∷ b ∷ rest)) (at (pc + 1 + 1) (k ∷ limit ∷ rest)) = step_to code N (Li (suc (length front)) limit) has.1.0 (does_li2 (pc + 1) limit k b rest) in
          let s3 : Leads code (at (pc + 1 + 1) (k ∷ limit ∷ rest)) (at (pc + 1 + 1 + 1) (k ∷ word_less m limit ∷ rest)) =
          step_to code N (ULt (suc (length front)) x (suc (length front))) has.1.1.0
          (steps.does_two C M A f (pc + 1 + 1) (front ++ k ∷ limit ∷ rest) mem free ULt word_less A.ult (suc (length front)) x (suc (length front)) m limit (room2 k limit rest)
          (there C M A N code f lay front mem free x m (k ∷ limit ∷ rest) e) (second k limit rest) ∙ ap Goes (written2 (pc + 1 + 1) k limit (word_less m limit) rest)) in
          trans code s1 (trans code s2 s3)

  -- The contrary of a row that gives 1 or 0.
  pub contrary_comes : (row : ℕ → ℕ → ℕ → Instr) (g : ℕ → ℕ → ℕ) → Total row g → Short row → (v : Value) (x y m n pc : ℕ) (above : List ℕ) → slice_get front x ≡ Some m
      → slice_get front y ≡ Some n → Is lay v (same_word (g m n) 0) → HasAt code pc (row (length front) x y ∷ Li (suc (length front)) 0 ∷ Eq (length front) (length front) (suc (length front)) ∷ [])
      → Comes code f lay front mem v (pc + 3) (at pc above)
  contrary_comes row g law none v x y m n pc [] e h is has =
      rows.Comes.lacks_stack (cut code N NoStack (at pc []) (row (length front) x y) has.0 (none (at pc []) (length front) x y (past C M A N code f lay front mem free)))
  contrary_comes row g law none v x y m n pc (a ∷ []) e h is has =
      let s1 : Leads code (at pc (a ∷ [])) (at (pc + 1) (g m n ∷ [])) = step_to code N (row (length front) x y) has.0 (does_two C M A N code f lay front mem free row g law pc x y m n a [] e h) in
      rows.Comes.lacks_stack (out_after code s1 (cut code N NoStack (at (pc + 1) (g m n ∷ [])) (Li (suc (length front)) 0) has.1.0 (short2 (pc + 1) (g m n ∷ []) _ (omega arith))))
  contrary_comes row g law none v x y m n pc (a ∷ b ∷ rest) e h is has =
      let q = g m n in
      let n3 : pc + 1 + 1 + 1 ≡ pc + 3 = omega arith in
      let s1 : Leads code (at pc (a ∷ b ∷ rest)) (at (pc + 1) (q ∷ b ∷ rest)) = step_to code N (row (length front) x y) has.0 (does_two C M A N code f lay front mem free row g law pc x y m n a (b ∷ rest) e h) in
      let s2 : Leads code (at (pc + 1) (q ∷ b ∷ rest)) (at (pc + 1 + 1) (q ∷ 0 ∷ rest)) = step_to code N (Li (suc (length front)) 0) has.1.0 (does_li2 (pc + 1) 0 q b rest) in
      let s3 : Leads code (at (pc + 1 + 1) (q ∷ 0 ∷ rest)) (at (pc + 3) (same_word q 0 ∷ 0 ∷ rest)) =
      step_to code N (Eq (length front) (length front) (suc (length front))) has.1.1.0
      (steps.does_two C M A f (pc + 1 + 1) (front ++ q ∷ 0 ∷ rest) mem free Eq same_word A.eq (length front) (length front) (suc (length front)) q 0 (room C M A N code f lay front mem free q (0 ∷ rest))
      (get_here front (0 ∷ rest) q) (second q 0 rest) ∙ ap Goes (written C M A N code f lay front mem free (pc + 1 + 1) q (same_word q 0) (0 ∷ rest)) ∙ ap (λ z. Goes (at z (same_word q 0 ∷ 0 ∷ rest))) n3) in
      same_comes C M A N code f lay front mem free v (same_word q 0) (pc + 3) (at pc (a ∷ b ∷ rest)) (0 ∷ rest) is (trans code s1 (trans code s2 s3)) (omega arith)

  -- A word of the memory.
  pub loads_comes : (v : Value) (x y n pc : ℕ) (above : List ℕ) → slice_get front x ≡ Some y → slice_get mem (y + 0) ≡ Some n → Is lay v n → HasAt code pc (Ld (length front) x 0 ∷ [])
      → Comes code f lay front mem v (pc + 1) (at pc above)
  loads_comes v x y n pc [] e g is has = rows.Comes.lacks_stack (cut code N NoStack (at pc []) (Ld (length front) x 0) has.0 (short C M A N code f lay front mem free pc _))
  loads_comes v x y n pc (a ∷ rest) e g is has =
      same_comes C M A N code f lay front mem free v n (pc + 1) (at pc (a ∷ rest)) rest is
      (step_to code N (Ld (length front) x 0) has.0
      (steps.does_ld C M A f pc (front ++ a ∷ rest) mem free (length front) x 0 y n (room C M A N code f lay front mem free a rest) (there C M A N code f lay front mem free x y (a ∷ rest) e) g
      ∙ ap Goes (written C M A N code f lay front mem free pc a n rest))) (omega arith)
