-- A switch goes to the place of the tag's arm, by a jump table or a search.
use Rattle.std.proofs.Common.{◌≡◌, ℕ, zero, suc, ◌+◌, ◌<◌, ◌≤◌, max, List, [], ◌∷◌, ◌++◌, length, Some, None, Bool, true, false, ◌&&◌, refl, sym, ap, ◌∙◌, subst, ⊎_elim, arith, append_assoc, length-append}
use Rattle.std.specs.Prelude.{slice_get, min, nat_eq, nat_le, if◌then◌else◌}
use Rattle.std.proofs.lemmas.Bool.{cases_lt, ne_eqb, leb-true}
use Rattle.ir_code.specs.declared.instr.Instr.{Instr}
use Rattle.ir_code.specs.declared.instr.Instr.TheVariants.{Li, Jmp, Switch, Ld}
use Rattle.ir_code.specs.Machine.{State}
use Rattle.ir_code.specs.Laws.{ControlLaws, MemoryLaws, ArithmeticLaws}
use Rattle.ir_ssa.specs.Tree.{Bodies, last, arm}
use Rattle.machine_routines.specs.FindCode.{Target, member_at, or_place, jumps, table_code, search_of, search_code, finds, Rises, Below}
use Rattle.machine_routines.specs.Runs.{HasAt, Frame, Leads}
use Rattle.machine_routines.proofs.Finds.{searches, search_goes}
use Rattle.machine_routines.proofs.Leads.{trans, step_to}
use Rattle.machine_routines.proofs.Seams.{has_front, has_back, get_left, get_here}
use Rattle.machine_routines.proofs.Steps as steps
use Rattle.machine_code.specs.Code.{slot, Scope, Spot, Places, arms_end, rise, body_size, targets}
use Rattle.machine_code.proofs.RoutineLaws.{RoutineLaws}
use Rattle.machine_code.proofs.Sets.{below_more}
use Rattle.machine_code.proofs.Sim.{Call, state_at}
use Rattle.machine_code.proofs.Sizes.{jumps_length}
use Rattle.machine_code.proofs.Slots.{push_li, push_ld, does_jmp, whole}

pub targets_below : (at : Places) (q d : ℕ) (scope : Scope) (ls : List Spot) (bs : Bodies) → Below (arms_end bs) (targets at q d scope ls bs)
targets_below at q d scope ls (last b) = tt
targets_below at q d scope ls (arm i b bs) =
    let next = q + body_size at d scope ls b in
    (omega arith, below_more (arms_end bs) (max (suc i) (arms_end bs)) (targets at next d scope ls bs) (omega arith) (targets_below at next d scope ls bs))

two_true : (x y : Bool) → (x && y) ≡ true → (x ≡ true) × (y ≡ true)
two_true true y e = (refl, e)
two_true false y e = absurd (cc)

pub targets_rise : (at : Places) (least q d : ℕ) (scope : Scope) (ls : List Spot) (bs : Bodies) → rise least bs ≡ true → Rises least (targets at q d scope ls bs)
targets_rise at least q d scope ls (last b) e = tt
targets_rise at least q d scope ls (arm i b bs) e =
    let both = two_true (nat_le least i) (rise (suc i) bs) e in
    (leb-true least i both.0, targets_rise at (suc i) (q + body_size at d scope ls b) d scope ls bs both.1)

not_in : (t n : ℕ) (set : List Target) → Below n set → n ≤ t → member_at t set ≡ None
not_in t n [] h le = refl
not_in t n (m ∷ ms) h le =
    let e : nat_eq t m.tag ≡ false = ne_eqb t m.tag (λ e. let a = h.0 in omega arith) in
    ap (λ b. if b then Some m.place else member_at t ms) e ∙ not_in t n ms h.1 le

jump_in : (code : List Instr) (set : List Target) (p t i n pc : ℕ) → HasAt code pc (jumps set p i n) → (j : ℕ) → j < n → i + j ≡ t
    → slice_get code (pc + j) ≡ Some (Jmp (or_place (member_at t set) p))
jump_in code set p t i zero pc has j lt e = absurd (omega arith)
jump_in code set p t i (suc n) pc has zero lt e =
    let same : i ≡ t = omega arith in
    let there : pc + zero ≡ pc = omega arith in
    subst (λ z. slice_get code z ≡ Some (Jmp (or_place (member_at t set) p))) (sym there)
    (subst (λ z. slice_get code pc ≡ Some (Jmp (or_place (member_at z set) p))) same has.0)
jump_in code set p t i (suc n) pc has (suc j) lt e =
    let there : pc + 1 + j ≡ pc + suc j = omega arith in
    subst (λ z. slice_get code z ≡ Some (Jmp (or_place (member_at t set) p))) there (jump_in code set p t (suc i) n (pc + 1) has.1 j (omega arith) (omega arith))

module _ (C : ControlLaws) (M : MemoryLaws) (A : ArithmeticLaws) (N : RoutineLaws) (base : ℕ) (code : List Instr) (f : Call) (hand : ℕ) (ws above mem free : List ℕ) (d t : ℕ) (deep : length ws ≡ d) (p : ℕ) (set : List Target) where
  abbrev at : ℕ → ℕ → List ℕ → State
  at pc acc rest = state_at base f hand pc acc rest mem free

  abbrev frame : ℕ → Frame
  frame acc = record { lower = f.lower; handler = hand; acc = acc; base = base }

  -- where the jump of the tag stands
  jump_there : (n pc : ℕ) → Below n set → HasAt code (pc + 1) (jumps set p 0 n ++ (Jmp p ∷ [])) → slice_get code (pc + 1 + min t n) ≡ Some (Jmp (or_place (member_at t set) p))
  jump_there n pc below has =
      ⊎_elim
      (λ lt. let there : pc + 1 + t ≡ pc + 1 + min t n = omega arith in
      subst (λ z. slice_get code z ≡ Some (Jmp (or_place (member_at t set) p))) there (jump_in code set p t 0 n (pc + 1) (has_front code (pc + 1) (jumps set p 0 n) _ has) t lt (omega arith)))
      (λ le. let there : pc + 1 + n ≡ pc + 1 + min t n = omega arith in
      let none = not_in t n set below le in
      subst (λ z. slice_get code z ≡ Some (Jmp (or_place (member_at t set) p))) there
      (subst (λ o. slice_get code (pc + 1 + n) ≡ Some (Jmp (or_place o p))) (sym none) (has_back code (pc + 1) (pc + 1 + n) (jumps set p 0 n) (Jmp p ∷ []) (omega (arith, jumps_length set p 0 n)) has).0))
      (cases_lt t n)

  -- by a table, with the tag behind the words of the frame
  pub table_there : (n pc acc : ℕ) → Below n set → HasAt code pc (table_code set (slot d) p n) → Leads code (at pc acc ((ws ++ t ∷ []) ++ above)) (at (or_place (member_at t set) p) acc ((ws ++ t ∷ []) ++ above))
  table_there n pc acc below has =
      let words = (ws ++ t ∷ []) ++ above in
      let at_d : slice_get words d ≡ Some t = get_left (ws ++ t ∷ []) above d t (subst (λ z. slice_get (ws ++ t ∷ []) z ≡ Some t) deep (get_here ws [] t)) in
      let q = or_place (member_at t set) p in
      trans code
      (step_to code N.next (Switch (slot d) n) has.0 (steps.does_switch C M A (frame acc) pc (whole C M A base f hand pc acc mem free words) mem free (slot d) n t at_d))
      (step_to code N.next (Jmp q) (jump_there n pc below has.1) (does_jmp C M A base f hand (pc + 1 + min t n) acc mem free words q))

  -- by a search, from the load of the tag on
  pub search_there : (pc acc a b x y : ℕ) → slice_get ws x ≡ Some y → slice_get mem (y + 0) ≡ Some t → Rises 0 set
      → HasAt code pc (Li (slot (suc d)) 0 ∷ Ld (slot d) (slot x) 0 ∷ search_code (pc + 2) (slot d) (slot (suc d)) p (search_of true p (length set) set))
      → (word : ℕ) × Leads code (at pc acc (ws ++ a ∷ b ∷ above)) (at (or_place (member_at t set) p) acc (ws ++ t ∷ word ∷ above))
  search_there pc acc a b x y e loaded rises has =
      let s = search_of true p (length set) set in
      let ws1 = ws ++ a ∷ [] in
      let deep1 : length ws1 ≡ suc d = omega (arith, length-append ws (a ∷ [])) in
      let s0 : ws1 ++ b ∷ above ≡ ws ++ a ∷ b ∷ above = append_assoc ws (a ∷ []) (b ∷ above) in
      let s1 : (ws1 ++ 0 ∷ []) ++ above ≡ ws ++ a ∷ 0 ∷ above = append_assoc ws1 (0 ∷ []) above ∙ append_assoc ws (a ∷ []) (0 ∷ above) in
      let s2 : (ws ++ t ∷ []) ++ (0 ∷ above) ≡ ws ++ t ∷ 0 ∷ above = append_assoc ws (t ∷ []) (0 ∷ above) in
      let l0 : Leads code (at pc acc (ws1 ++ b ∷ above)) (at (pc + 1) acc ((ws1 ++ 0 ∷ []) ++ above)) =
      step_to code N.next (Li (slot (suc d)) 0) has.0 ((push_li C M A base f hand pc acc mem free ws1 (suc d) deep1 0).some b above) in
      let l1 : Leads code (at (pc + 1) acc (ws ++ a ∷ 0 ∷ above)) (at (pc + 1 + 1) acc ((ws ++ t ∷ []) ++ (0 ∷ above))) =
      step_to code N.next (Ld (slot d) (slot x) 0) has.1.0 ((push_ld C M A base f hand (pc + 1) acc mem free ws d deep x 0 y t e loaded).some a (0 ∷ above)) in
      let m0 : Leads code (at pc acc (ws ++ a ∷ b ∷ above)) (at (pc + 1) acc (ws ++ a ∷ 0 ∷ above)) =
      subst (λ l. Leads code (at pc acc l) (at (pc + 1) acc (ws ++ a ∷ 0 ∷ above))) s0 (subst (λ l. Leads code (at pc acc (ws1 ++ b ∷ above)) (at (pc + 1) acc l)) s1 l0) in
      let n2 : pc + 1 + 1 ≡ pc + 2 = omega arith in
      let m1 : Leads code (at (pc + 1) acc (ws ++ a ∷ 0 ∷ above)) (at (pc + 2) acc (ws ++ t ∷ 0 ∷ above)) =
      subst (λ z. Leads code (at (pc + 1) acc (ws ++ a ∷ 0 ∷ above)) (at z acc (ws ++ t ∷ 0 ∷ above))) n2 (subst (λ l. Leads code (at (pc + 1) acc (ws ++ a ∷ 0 ∷ above)) (at (pc + 1 + 1) acc l)) s2 l1) in
      let c = search_goes C M A N.next code (frame acc) (f.back ∷ f.frame ∷ ws) above mem free t (slot d) (ap slot deep) p s (pc + 2) 0
      (subst (λ z. HasAt code z (search_code (pc + 2) (slot d) (slot (suc d)) p s)) n2 has.1.1) in
      let found : finds t s p ≡ or_place (member_at t set) p = searches true p t 0 (length set) set (omega arith) rises in
      (c.word, subst (λ z. Leads code (at pc acc (ws ++ a ∷ b ∷ above)) (at z acc (ws ++ t ∷ c.word ∷ above))) found (trans code m0 (trans code m1 c.leads)))
