-- What short pieces of code do behind the front of a frame.
use Rattle.std.proofs.Common.{◌≡◌, ℕ, suc, ◌+◌, ◌<◌, List, [], ◌∷◌, ◌++◌, length, Option, Some, None, Bool, true, false, refl, sym, ap, ◌∙◌, subst, arith, append_assoc, append-nil, length-append}
use Rattle.std.specs.Prelude.{slice_get, slice_set, nat_lt, not, if◌then◌else◌}
use Rattle.std.proofs.lemmas.Bool.{le-ltb}
use Rattle.ir_code.specs.declared.instr.Instr.{Instr}
use Rattle.ir_code.specs.declared.instr.Instr.TheVariants.{Li, Mov, Jmp, Brz}
use Rattle.ir_code.specs.declared.halt.Halt.TheVariants.{NoStack}
use Rattle.ir_code.specs.Words.{one_if}
use Rattle.ir_code.specs.Machine.{State, StepResult, Goes, Halts, act, check, on_slot, with_slot, partial_step, result_step}
use Rattle.ir_code.specs.Laws.{ControlLaws, MemoryLaws, ArithmeticLaws, NextLaws, Total, Partial}
use Rattle.mlc_prims.specs.PrimOf.{Gives, made, raised}
use Rattle.mlc_prims.specs.declared.prim.PrimExn.{PrimExn}
use Rattle.first_values.specs.Values.{Value}
use Rattle.machine_code.specs.of_machine_routines.Layout.{Word, Is}
use Rattle.machine_code.specs.of_machine_routines.Runs.{HasAt, Frame, inside, Leads}
use Rattle.machine_code.proofs.of_machine_routines.Seams.{get_left, get_here, set_here, set_right}
use Rattle.machine_code.proofs.of_machine_routines.Leads.{trans, step_to, cut}
use Rattle.machine_code.proofs.of_machine_routines.Steps as steps
use Rattle.machine_code.specs.Rows.{Comes, comes, Passes, passes, WhenRaised}
use Rattle.machine_code.specs.Rows as rows

-- a row that wants its slot
abbrev pub Short : (ℕ → ℕ → ℕ → Instr) → Type 0
Short row = (s : State) (dst left right : ℕ) → nat_lt (s.fp + dst) (length s.stack) ≡ false → act s (row dst left right) ≡ Halts NoStack s

-- what is known where something is raised
pub at_raised : (x : PrimExn) (q : Gives) {X : Type 0} → raised x ≡ q → WhenRaised q X → X
at_raised x (raised y) e h = h
at_raised x (made l) e h = absurd (cc)

-- a row that may have no result wants its slot first
pub partial_short : (g : ℕ → ℕ → Option ℕ) (s : State) (dst left right : ℕ) → nat_lt (s.fp + dst) (length s.stack) ≡ false → partial_step g s dst left right ≡ Halts NoStack s
partial_short g s dst left right e = ap (λ b. check b NoStack s (with_slot s left (λ x. with_slot s right (λ y. result_step s dst (g x y))))) e

module _ (C : ControlLaws) (M : MemoryLaws) (A : ArithmeticLaws) (N : NextLaws) (code : List Instr) (f : Frame) (lay : List Word) (front mem free : List ℕ) where
  abbrev at : ℕ → List ℕ → State
  at pc rest = inside f pc (front ++ rest) mem free

  pub past : nat_lt (length f.lower + length front) (length (f.lower ++ (front ++ []))) ≡ false
  past = le-ltb _ _ (omega (arith, length-append f.lower (front ++ []), length-append front []))

  -- a slot past the stack
  pub short : (pc : ℕ) (led : StepResult) → on_slot (at pc []) (length front) led ≡ Halts NoStack (at pc [])
  short pc led = ap (λ b. check b NoStack (at pc []) led) past

  pub room : (a : ℕ) (rest : List ℕ) → length front < length (front ++ a ∷ rest)
  room a rest = omega (arith, length-append front (a ∷ rest))

  pub written : (pc a v : ℕ) (rest : List ℕ) → steps.with_slot C M A f pc (front ++ a ∷ rest) mem free (length front) v ≡ at (pc + 1) (v ∷ rest)
  written pc a v rest = ap (λ z. inside f (pc + 1) z mem free) (set_here front rest a v)

  pub there : (x v : ℕ) (rest : List ℕ) → slice_get front x ≡ Some v → slice_get (front ++ rest) x ≡ Some v
  there x v rest e = get_left front rest x v e

  pub does_li : (pc v a : ℕ) (rest : List ℕ) → act (at pc (a ∷ rest)) (Li (length front) v) ≡ Goes (at (pc + 1) (v ∷ rest))
  does_li pc v a rest = steps.does_li C M A f pc (front ++ a ∷ rest) mem free (length front) v (room a rest) ∙ ap Goes (written pc a v rest)

  pub does_mov : (pc x v a : ℕ) (rest : List ℕ) → slice_get front x ≡ Some v → act (at pc (a ∷ rest)) (Mov (length front) x) ≡ Goes (at (pc + 1) (v ∷ rest))
  does_mov pc x v a rest e = steps.does_mov C M A f pc (front ++ a ∷ rest) mem free (length front) x v (room a rest) (there x v (a ∷ rest) e) ∙ ap Goes (written pc a v rest)

  pub does_two : (row : ℕ → ℕ → ℕ → Instr) (g : ℕ → ℕ → ℕ) → Total row g → (pc x y v w a : ℕ) (rest : List ℕ) → slice_get front x ≡ Some v → slice_get front y ≡ Some w
      → act (at pc (a ∷ rest)) (row (length front) x y) ≡ Goes (at (pc + 1) (g v w ∷ rest))
  does_two row g law pc x y v w a rest e h =
      steps.does_two C M A f pc (front ++ a ∷ rest) mem free row g law (length front) x y v w (room a rest) (there x v (a ∷ rest) e) (there y w (a ∷ rest) h)
      ∙ ap Goes (written pc a (g v w) rest)

  -- it comes to a place with a word for the value, and the memory as it was
  pub same_comes : (v : Value) (y place : ℕ) (s : State) (rest : List ℕ) → Is lay v y → (l : Leads code s (at place (y ∷ rest))) → 0 < l.steps → Comes code f lay front mem v place s
  same_comes v y place s rest is l pos =
      let e : at place (y ∷ rest) ≡ inside f place ((front ++ y ∷ []) ++ rest) (mem ++ []) free =
      ap (λ z. inside f place z mem free) (sym (append_assoc front (y ∷ []) rest)) ∙ ap (λ z. inside f place ((front ++ y ∷ []) ++ rest) z free) (sym (append-nil mem)) in
      let p : (a : Leads code s (inside f place ((front ++ y ∷ []) ++ rest) (mem ++ []) free)) × (0 < a.steps) =
      subst (λ t. (a : Leads code s t) × (0 < a.steps)) e (l, pos) in
      comes y f.acc rest [] free (subst (λ z. Is z v y) (sym (append-nil lay)) is) p.0 p.1

  -- A row that always has a result.
  pub total_comes : (row : ℕ → ℕ → ℕ → Instr) (g : ℕ → ℕ → ℕ) → Total row g → Short row → (v : Value) (x y m n pc : ℕ) (above : List ℕ) → slice_get front x ≡ Some m
      → slice_get front y ≡ Some n → Is lay v (g m n) → HasAt code pc (row (length front) x y ∷ []) → Comes code f lay front mem v (pc + 1) (at pc above)
  total_comes row g law none v x y m n pc [] e h is has = rows.Comes.lacks_stack (cut code N NoStack (at pc []) (row (length front) x y) has.0 (none (at pc []) (length front) x y past))
  total_comes row g law none v x y m n pc (a ∷ above) e h is has =
      same_comes v (g m n) (pc + 1) (at pc (a ∷ above)) above is (step_to code N (row (length front) x y) has.0 (does_two row g law pc x y m n a above e h)) (omega arith)

  -- The word itself.
  pub moved_comes : (v : Value) (x m pc : ℕ) (above : List ℕ) → slice_get front x ≡ Some m → Is lay v m → HasAt code pc (Mov (length front) x ∷ [])
      → Comes code f lay front mem v (pc + 1) (at pc above)
  moved_comes v x m pc [] e is has = rows.Comes.lacks_stack (cut code N NoStack (at pc []) (Mov (length front) x) has.0 (short pc _))
  moved_comes v x m pc (a ∷ above) e is has = same_comes v m (pc + 1) (at pc (a ∷ above)) above is (step_to code N (Mov (length front) x) has.0 (does_mov pc x m a above e)) (omega arith)

  -- A row of a word and the operand.
  pub from_comes : (row : ℕ → ℕ → ℕ → Instr) (g : ℕ → ℕ → ℕ) → Total row g → (v : Value) (k x m pc : ℕ) (above : List ℕ) → slice_get front x ≡ Some m → Is lay v (g k m)
      → HasAt code pc (Li (length front) k ∷ row (length front) (length front) x ∷ []) → Comes code f lay front mem v (pc + 2) (at pc above)
  from_comes row g law v k x m pc [] e is has = rows.Comes.lacks_stack (cut code N NoStack (at pc []) (Li (length front) k) has.0 (short pc _))
  from_comes row g law v k x m pc (a ∷ above) e is has =
      let n2 : pc + 1 + 1 ≡ pc + 2 = omega arith in
      let s1 : Leads code (at pc (a ∷ above)) (at (pc + 1) (k ∷ above)) = step_to code N (Li (length front) k) has.0 (does_li pc k a above) in
      let s2 : Leads code (at (pc + 1) (k ∷ above)) (at (pc + 2) (g k m ∷ above)) =
      step_to code N (row (length front) (length front) x) has.1.0
      (steps.does_two C M A f (pc + 1) (front ++ k ∷ above) mem free row g law (length front) (length front) x k m (room k above) (get_here front above k) (there x m (k ∷ above) e)
      ∙ ap Goes (written (pc + 1) k (g k m) above) ∙ ap (λ z. Goes (at z (g k m ∷ above))) n2) in
      same_comes v (g k m) (pc + 2) (at pc (a ∷ above)) above is (trans code s1 s2) (omega arith)

  -- A row that may have none: with the packet in the slot it goes on elsewhere.
  pub raising_comes : (row : ℕ → ℕ → ℕ → Instr) (g : ℕ → ℕ → Option ℕ) → Partial row g → (v : Value) (x y m n k pc place other : ℕ) (above : List ℕ) → slice_get front x ≡ Some m
      → slice_get front y ≡ Some n → HasAt code pc (Li (length front) k ∷ row (length front) x y ∷ Jmp other ∷ [])
      → ((r : ℕ) → g m n ≡ Some r → Is lay v r × (place ≡ pc + 3)) → (g m n ≡ None → Is lay v k × (place ≡ other)) → Comes code f lay front mem v place (at pc above)
  raising_comes row g law v x y m n k pc place other [] e h has some none =
      rows.Comes.lacks_stack (cut code N NoStack (at pc []) (Li (length front) k) has.0 (short pc _))
  raising_comes row g law v x y m n k pc place other (a ∷ above) e h has some none = by (g m n) refl
    where
      s1 : Leads code (at pc (a ∷ above)) (at (pc + 1) (k ∷ above))
      s1 = step_to code N (Li (length front) k) has.0 (does_li pc k a above)

      has_slot : length f.lower + length front < length (f.lower ++ (front ++ k ∷ above))
      has_slot = omega (arith, length-append f.lower (front ++ k ∷ above), length-append front (k ∷ above))

      by : (o : Option ℕ) → g m n ≡ o → Comes code f lay front mem v place (at pc (a ∷ above))
      by None q =
          let law2 = law.none (at (pc + 1) (k ∷ above)) (length front) x y m n has_slot
          (steps.holds C M A f (pc + 1) (front ++ k ∷ above) mem free x m (there x m (k ∷ above) e)) (steps.holds C M A f (pc + 1) (front ++ k ∷ above) mem free y n (there y n (k ∷ above) h)) q in
          let s2 : Leads code (at (pc + 1) (k ∷ above)) (at (pc + 1 + 1) (k ∷ above)) = step_to code N (row (length front) x y) has.1.0 law2 in
          let s3 : Leads code (at (pc + 1 + 1) (k ∷ above)) (at other (k ∷ above)) = step_to code N (Jmp other) has.1.1.0 (C.jmp (at (pc + 1 + 1) (k ∷ above)) other) in
          let w = none q in
          subst (λ z. Comes code f lay front mem v z (at pc (a ∷ above))) (sym w.1) (same_comes v k other (at pc (a ∷ above)) above w.0 (trans code s1 (trans code s2 s3)) (omega arith))
      by (Some r) q =
          let law2 = law.some (at (pc + 1) (k ∷ above)) (length front) x y m n r has_slot
          (steps.holds C M A f (pc + 1) (front ++ k ∷ above) mem free x m (there x m (k ∷ above) e)) (steps.holds C M A f (pc + 1) (front ++ k ∷ above) mem free y n (there y n (k ∷ above) h)) q in
          let set : slice_set (f.lower ++ (front ++ k ∷ above)) (length f.lower + length front) r ≡ f.lower ++ (front ++ r ∷ above) =
          set_right f.lower (front ++ k ∷ above) (length front) r ∙ ap (λ z. f.lower ++ z) (set_here front above k r) in
          let n3 : pc + 1 + 2 ≡ pc + 3 = omega arith in
          let s2 : Leads code (at (pc + 1) (k ∷ above)) (at (pc + 3) (r ∷ above)) =
          step_to code N (row (length front) x y) has.1.0
          (law2 ∙ ap (λ z. Goes (record (at (pc + 1) (k ∷ above)) { pc = pc + 1 + 2; stack = z })) set ∙ ap (λ z. Goes (at z (r ∷ above))) n3) in
          let w = some r q in
          subst (λ z. Comes code f lay front mem v z (at pc (a ∷ above))) (sym w.1) (same_comes v r (pc + 3) (at pc (a ∷ above)) above w.0 (trans code s1 s2) (omega arith))

  -- .. or where the packet comes there.
  pub late_comes : (row : ℕ → ℕ → ℕ → Instr) (g : ℕ → ℕ → Option ℕ) → Partial row g → Short row → (v : Value) (x y m n k pc place other : ℕ) (above : List ℕ) → slice_get front x ≡ Some m
      → slice_get front y ≡ Some n → HasAt code pc (row (length front) x y ∷ Jmp other ∷ []) → (g m n ≡ None → HasAt code other (Li (length front) k ∷ []))
      → ((r : ℕ) → g m n ≡ Some r → Is lay v r × (place ≡ pc + 2)) → (g m n ≡ None → Is lay v k × (place ≡ suc other)) → Comes code f lay front mem v place (at pc above)
  late_comes row g law brief v x y m n k pc place other [] e h has late some none =
      rows.Comes.lacks_stack (cut code N NoStack (at pc []) (row (length front) x y) has.0 (brief (at pc []) (length front) x y past))
  late_comes row g law brief v x y m n k pc place other (a ∷ above) e h has late some none = by (g m n) refl
    where
      has_slot : length f.lower + length front < length (f.lower ++ (front ++ a ∷ above))
      has_slot = omega (arith, length-append f.lower (front ++ a ∷ above), length-append front (a ∷ above))

      by : (o : Option ℕ) → g m n ≡ o → Comes code f lay front mem v place (at pc (a ∷ above))
      by None q =
          let law2 = law.none (at pc (a ∷ above)) (length front) x y m n has_slot
          (steps.holds C M A f pc (front ++ a ∷ above) mem free x m (there x m (a ∷ above) e)) (steps.holds C M A f pc (front ++ a ∷ above) mem free y n (there y n (a ∷ above) h)) q in
          let s1 : Leads code (at pc (a ∷ above)) (at (pc + 1) (a ∷ above)) = step_to code N (row (length front) x y) has.0 law2 in
          let s2 : Leads code (at (pc + 1) (a ∷ above)) (at other (a ∷ above)) = step_to code N (Jmp other) has.1.0 (C.jmp (at (pc + 1) (a ∷ above)) other) in
          let n1 : other + 1 ≡ suc other = omega arith in
          let s3 : Leads code (at other (a ∷ above)) (at (suc other) (k ∷ above)) =
          step_to code N (Li (length front) k) (late q).0 (does_li other k a above ∙ ap (λ z. Goes (at z (k ∷ above))) n1) in
          let w = none q in
          subst (λ z. Comes code f lay front mem v z (at pc (a ∷ above))) (sym w.1) (same_comes v k (suc other) (at pc (a ∷ above)) above w.0 (trans code s1 (trans code s2 s3)) (omega arith))
      by (Some r) q =
          let law2 = law.some (at pc (a ∷ above)) (length front) x y m n r has_slot
          (steps.holds C M A f pc (front ++ a ∷ above) mem free x m (there x m (a ∷ above) e)) (steps.holds C M A f pc (front ++ a ∷ above) mem free y n (there y n (a ∷ above) h)) q in
          let set : slice_set (f.lower ++ (front ++ a ∷ above)) (length f.lower + length front) r ≡ f.lower ++ (front ++ r ∷ above) =
          set_right f.lower (front ++ a ∷ above) (length front) r ∙ ap (λ z. f.lower ++ z) (set_here front above a r) in
          let s1 : Leads code (at pc (a ∷ above)) (at (pc + 2) (r ∷ above)) =
          step_to code N (row (length front) x y) has.0 (law2 ∙ ap (λ z. Goes (record (at pc (a ∷ above)) { pc = pc + 2; stack = z })) set) in
          let w = some r q in
          subst (λ z. Comes code f lay front mem v z (at pc (a ∷ above))) (sym w.1) (same_comes v r (pc + 2) (at pc (a ∷ above)) above w.0 s1 (omega arith))

  -- A test by a row that gives 1 or 0.
  test_steps : (row : ℕ → ℕ → ℕ → Instr) (g : ℕ → ℕ → ℕ) → Total row g → (b : Bool) (x y m n target pc a : ℕ) (above : List ℕ) → slice_get front x ≡ Some m
      → slice_get front y ≡ Some n → g m n ≡ one_if b → slice_get code pc ≡ Some (row (length front) x y) → slice_get code (pc + 1) ≡ Some (Brz (length front) target)
      → (l : Leads code (at pc (a ∷ above)) (at (if b then pc + 2 else target) (g m n ∷ above))) × (0 < l.steps)
  test_steps row g law true x y m n target pc a above e h is has has' =
      let w = g m n in
      let n2 : pc + 1 + 1 ≡ pc + 2 = omega arith in
      let s1 : Leads code (at pc (a ∷ above)) (at (pc + 1) (w ∷ above)) = step_to code N (row (length front) x y) has (does_two row g law pc x y m n a above e h) in
      let s2 : Leads code (at (pc + 1) (w ∷ above)) (at (pc + 2) (w ∷ above)) =
      step_to code N (Brz (length front) target) has'
      (steps.does_brz C M A f (pc + 1) (front ++ w ∷ above) mem free (length front) target w (get_here front above w) (omega arith) ∙ ap (λ z. Goes (at z (w ∷ above))) n2) in
      (trans code s1 s2, omega arith)
  test_steps row g law false x y m n target pc a above e h is has has' =
      let w = g m n in
      let s1 : Leads code (at pc (a ∷ above)) (at (pc + 1) (w ∷ above)) = step_to code N (row (length front) x y) has (does_two row g law pc x y m n a above e h) in
      let s2 : Leads code (at (pc + 1) (w ∷ above)) (at target (w ∷ above)) =
      step_to code N (Brz (length front) target) has' (steps.does_brz_zero C M A f (pc + 1) (front ++ w ∷ above) mem free (length front) target (get_here front above w ∙ ap Some is)) in
      (trans code s1 s2, omega arith)

  pub holds_passes : (row : ℕ → ℕ → ℕ → Instr) (g : ℕ → ℕ → ℕ) → Total row g → Short row → (b : Bool) (x y m n pc other : ℕ) (above : List ℕ) → slice_get front x ≡ Some m
      → slice_get front y ≡ Some n → g m n ≡ one_if b → HasAt code pc (row (length front) x y ∷ Brz (length front) other ∷ [])
      → Passes code f front mem free (if b then pc + 2 else other) (at pc above)
  holds_passes row g law none b x y m n pc other [] e h is has =
      rows.Passes.lacks_stack (cut code N NoStack (at pc []) (row (length front) x y) has.0 (none (at pc []) (length front) x y past))
  holds_passes row g law none b x y m n pc other (a ∷ above) e h is has =
      let l = test_steps row g law b x y m n other pc a above e h is has.0 has.1.0 in
      passes f.acc (g m n ∷ above) l.0 l.1

  pub fails_passes : (row : ℕ → ℕ → ℕ → Instr) (g : ℕ → ℕ → ℕ) → Total row g → Short row → (b : Bool) (x y m n pc other : ℕ) (above : List ℕ) → slice_get front x ≡ Some m
      → slice_get front y ≡ Some n → g m n ≡ one_if (not b) → HasAt code pc (row (length front) x y ∷ Brz (length front) (pc + 3) ∷ Jmp other ∷ [])
      → Passes code f front mem free (if b then pc + 3 else other) (at pc above)
  fails_passes row g law none b x y m n pc other [] e h is has =
      rows.Passes.lacks_stack (cut code N NoStack (at pc []) (row (length front) x y) has.0 (none (at pc []) (length front) x y past))
  fails_passes row g law none true x y m n pc other (a ∷ above) e h is has =
      let l = test_steps row g law false x y m n (pc + 3) pc a above e h is has.0 has.1.0 in
      passes f.acc (g m n ∷ above) l.0 l.1
  fails_passes row g law none false x y m n pc other (a ∷ above) e h is has =
      let l = test_steps row g law true x y m n (pc + 3) pc a above e h is has.0 has.1.0 in
      let n2 : pc + 1 + 1 ≡ pc + 2 = omega arith in
      let s3 : Leads code (at (pc + 2) (g m n ∷ above)) (at other (g m n ∷ above)) =
      step_to code N (Jmp other) (subst (λ z. slice_get code z ≡ Some (Jmp other)) n2 has.1.1.0) (C.jmp (at (pc + 2) (g m n ∷ above)) other) in
      passes f.acc (g m n ∷ above) (trans code l.0 s3) (let p = l.1 in omega arith)
