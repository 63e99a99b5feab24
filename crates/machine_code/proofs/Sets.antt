-- What the routine of a set does: it goes on in the member's function.
use Rattle.std.proofs.Common.{◌≡◌, ℕ, zero, suc, ◌+◌, ◌-◌, ◌<◌, ◌≤◌, max, List, [], ◌∷◌, ◌++◌, length, Some, Bool, true, false, refl, sym, ap, ◌∙◌, subst, ⊎_elim, arith, append_assoc, length-append}
use Rattle.std.specs.Prelude.{slice_get, nat_eq, if◌then◌else◌, get_or}
use Rattle.std.specs.List.{AllByRecursion}
use Rattle.std.proofs.lemmas.Bool.{cases_lt, ltb-true}
use Rattle.ir_code.specs.declared.instr.Instr.{Instr}
use Rattle.ir_code.specs.declared.instr.Instr.TheVariants.{Li, Ld}
use Rattle.ir_code.specs.declared.halt.Halt.TheVariants.{NoStack}
use Rattle.ir_code.specs.Machine.{State, Goes, Halts, act, run}
use Rattle.ir_code.specs.Laws.{ControlLaws, MemoryLaws, ArithmeticLaws}
use Rattle.ir_ssa.specs.of_first_values.Operations.{Member}
use Rattle.ir_ssa.specs.of_first_values.Operations as values
use Rattle.ir_ssa.specs.of_first_values.WellFormed.{Rise}
use Rattle.machine_routines.specs.FindCode.{Target, member_at, way_code, Rises, Below}
use Rattle.machine_routines.specs.Runs.{HasAt, Frame, Leads, CutBy}
use Rattle.machine_routines.proofs.Seams.{cut_at}
use Rattle.machine_routines.proofs.Leads.{trans, step_to, cut as cut_here}
use Rattle.machine_code.specs.Code.{slot}
use Rattle.machine_code.specs.Image.{tags_end, set_way, set_code, placed}
use Rattle.machine_code.proofs.RoutineLaws.{RoutineLaws}
use Rattle.machine_code.proofs.Sim.{Call, state_at}
use Rattle.machine_code.proofs.Slots.{short, push_li, push_ld}

rises_from : (fun_at : ℕ → ℕ) (least : ℕ) (m : Member) (ms : List Member) → least ≤ m.tag → Rise (m ∷ ms) → Rises least (placed fun_at (m ∷ ms))
rises_from fun_at least m [] le h = (le, tt)
rises_from fun_at least m (n ∷ ms) le h = (le, rises_from fun_at (suc m.tag) n ms (ltb-true m.tag n.tag h.0) h.1)

pub placed_rises : (fun_at : ℕ → ℕ) (set : List Member) → Rise set → Rises 0 (placed fun_at set)
placed_rises fun_at [] h = tt
placed_rises fun_at (m ∷ ms) h = rises_from fun_at 0 m ms (omega arith) h

pub rise_at : (sets : List (List Member)) (i : ℕ) → AllByRecursion Rise sets → Rise (get_or sets i [])
rise_at [] i h = tt
rise_at (s ∷ sets) zero h = h.0
rise_at (s ∷ sets) (suc i) h = rise_at sets i h.1

pub below_more : (n n' : ℕ) (set : List Target) → n ≤ n' → Below n set → Below n' set
below_more n n' [] le h = tt
below_more n n' (m ∷ ms) le h = (let a = h.0 in omega arith, below_more n n' ms le h.1)

tags_below : (set : List Target) → Below (tags_end set) set
tags_below [] = tt
tags_below (m ∷ ms) = (omega arith, below_more (tags_end ms) (max (suc m.tag) (tags_end ms)) ms (omega arith) (tags_below ms))

pub member_placed : (fun_at : ℕ → ℕ) (t q : ℕ) (set : List Member) → values.member_at t set ≡ Some q → member_at t (placed fun_at set) ≡ Some (fun_at q)
member_placed fun_at t q [] e = absurd (cc)
member_placed fun_at t q (m ∷ ms) e = by (nat_eq t m.tag) e (λ g. member_placed fun_at t q ms g)
  where
    by : (b : Bool) → (if b then Some m.function else values.member_at t ms) ≡ Some q → (values.member_at t ms ≡ Some q → member_at t (placed fun_at ms) ≡ Some (fun_at q))
        → (if b then Some (fun_at m.function) else member_at t (placed fun_at ms)) ≡ Some (fun_at q)
    by true e more = let same : m.function ≡ q = cc in ap (λ z. Some (fun_at z)) same
    by false e more = more e

module _ (C : ControlLaws) (M : MemoryLaws) (A : ArithmeticLaws) (N : RoutineLaws) (code : List Instr) (base : ℕ) where
  -- it enters the function, or the stack is exhausted
  pub data Enters (s : State) (f : Call) (hand acc : ℕ) (words mem free : List ℕ) (q : ℕ) : Type 0 where
    enters : (above : List ℕ) (a : Leads code s (state_at base f hand q acc (words ++ above) mem free)) → 0 < a.steps → Enters s f hand acc words mem free q
    no_stack_for : CutBy code NoStack s → Enters s f hand acc words mem free q

  module _ (f : Call) (hand acc pc k t q cw : ℕ) (mem free : List ℕ) (set : List Target) (e : member_at t set ≡ Some q) (rises : Rises 0 set) (tag_there : slice_get mem cw ≡ Some t) (has : HasAt code pc (set_code pc k set)) where
    abbrev at : ℕ → List ℕ → State
    at n rest = state_at base f hand n acc rest mem free

    abbrev frame : Frame
    frame = record { lower = f.lower; handler = hand; acc = acc; base = base }

    -- where the stack has the two words behind those of the frame
    with_room : (words pad above : List ℕ) (a b : ℕ) → length (words ++ pad) + 1 ≡ k → Enters (at pc (cw ∷ (words ++ (pad ++ a ∷ b ∷ above)))) f hand acc (cw ∷ words) mem free q
    with_room words pad above a b deep =
        let ws = cw ∷ (words ++ pad) in
        let deep_ws : length ws ≡ k = omega arith in
        let ws1 = ws ++ a ∷ [] in
        let deep1 : length ws1 ≡ k + 1 = omega (arith, length-append ws (a ∷ [])) in
        let whole_is : cw ∷ (words ++ (pad ++ a ∷ b ∷ above)) ≡ ws1 ++ b ∷ above = ap (λ z. cw ∷ z) (sym (append_assoc words pad (a ∷ b ∷ above))) ∙ sym (append_assoc ws (a ∷ []) (b ∷ above)) in
        let s0 = at pc (ws1 ++ b ∷ above) in
        let l0 : Leads code s0 (at (pc + 1) ((ws1 ++ 0 ∷ []) ++ above)) =
        step_to code N.next (Li (k + 3) 0) has.0 (slot_li (k + 1) (k + 3) (omega arith) ws1 deep1 b above) in
        let s1 : (ws1 ++ 0 ∷ []) ++ above ≡ ws ++ a ∷ (0 ∷ above) = append_assoc ws1 (0 ∷ []) above ∙ append_assoc ws (a ∷ []) (0 ∷ above) in
        let l1 : Leads code (at (pc + 1) (ws ++ a ∷ (0 ∷ above))) (at (pc + 1 + 1) ((ws ++ t ∷ []) ++ (0 ∷ above))) =
        step_to code N.next (Ld (k + 2) 2 0) has.1.0 (slot_ld k (k + 2) (omega arith) (words ++ pad) deep_ws a (0 ∷ above)) in
        let s2 : (ws ++ t ∷ []) ++ (0 ∷ above) ≡ cw ∷ ((words ++ pad) ++ t ∷ 0 ∷ above) = append_assoc ws (t ∷ []) (0 ∷ above) in
        let rest = (words ++ pad) ++ t ∷ 0 ∷ above in
        let n2 : pc + 1 + 1 ≡ pc + 2 = omega arith in
        let k3 : k + 3 ≡ suc (k + 2) = omega arith in
        let front = f.back ∷ f.frame ∷ cw ∷ (words ++ pad) in
        let deep_front : length front ≡ k + 2 = omega arith in
        let h3 = subst (λ z. HasAt code z (way_code set (pc + 2) (k + 2) (k + 3) 0 (set_way set))) n2 has.1.1 in
        let h4 = subst (λ z. HasAt code (pc + 2) (way_code set (pc + 2) (k + 2) z 0 (set_way set))) k3 h3 in
        let c = N.find code frame front above mem free t (k + 2) deep_front 0 set (tags_end set) (pc + 2) 0 q rises (tags_below set) e h4 in
        let l01 = trans code l0 (subst (λ z. Leads code (at (pc + 1) z) (at (pc + 1 + 1) ((ws ++ t ∷ []) ++ (0 ∷ above)))) (sym s1) l1) in
        let l02 : Leads code s0 (at (pc + 2) (cw ∷ rest)) = subst (λ z. Leads code s0 (at z (cw ∷ rest))) n2 (subst (λ z. Leads code s0 (at (pc + 1 + 1) z)) s2 l01) in
        let l03 = trans code l02 c.leads in
        finish l03 whole_is (pad ++ (t ∷ c.word ∷ above)) (ap (λ z. cw ∷ z) (append_assoc words pad (t ∷ c.word ∷ above))) (let p = c.some in omega arith)
      where
        slot_li : (d n : ℕ) → slot d ≡ n → (ws : List ℕ) (deep : length ws ≡ d) (b : ℕ) (above : List ℕ) → act (at pc (ws ++ b ∷ above)) (Li n 0) ≡ Goes (at (pc + 1) ((ws ++ 0 ∷ []) ++ above))
        slot_li d n e ws deep b above = subst (λ z. act (at pc (ws ++ b ∷ above)) (Li z 0) ≡ Goes (at (pc + 1) ((ws ++ 0 ∷ []) ++ above))) e ((push_li C M A base f hand pc acc mem free ws d deep 0).some b above)

        slot_ld : (d n : ℕ) → slot d ≡ n → (ws : List ℕ) (deep : length (cw ∷ ws) ≡ d) (a : ℕ) (above : List ℕ) → act (at (pc + 1) (cw ∷ (ws ++ a ∷ above))) (Ld n 2 0) ≡ Goes (at (pc + 1 + 1) (((cw ∷ ws) ++ t ∷ []) ++ above))
        slot_ld d n e ws deep a above =
            let zero_more : cw ≡ cw + 0 = omega arith in
            subst (λ z. act (at (pc + 1) (cw ∷ (ws ++ a ∷ above))) (Ld z 2 0) ≡ Goes (at (pc + 1 + 1) (((cw ∷ ws) ++ t ∷ []) ++ above))) e
            ((push_ld C M A base f hand (pc + 1) acc mem free (cw ∷ ws) d deep 0 0 cw t refl (subst (λ z. slice_get mem z ≡ Some t) zero_more tag_there)).some a above)

        finish : {rest0 rest1 rest2 : List ℕ} → (l : Leads code (at pc rest1) (at q rest2)) → rest0 ≡ rest1 → (above' : List ℕ) → rest2 ≡ (cw ∷ words) ++ above' → 0 < l.steps → Enters (at pc rest0) f hand acc (cw ∷ words) mem free q
        finish {rest0} {rest1} {rest2} l e0 above' e2 pos = enters above' (record { steps = l.steps; by = λ j o. ap (λ z. run code (l.steps + j) (at pc z) o) e0 ∙ l.by j o ∙ ap (λ z. run code j (at q z) o) e2 }) pos

    pub set_enters : (words above : List ℕ) → suc (length words) ≤ k → Enters (at pc (cw ∷ (words ++ above))) f hand acc (cw ∷ words) mem free q
    set_enters words above fits =
        ⊎_elim
        (λ lt. no_stack_for (cut_here code N.next NoStack (at pc (cw ∷ (words ++ above))) (Li (k + 3) 0) has.0
        (let n : slot (k + 1) ≡ k + 3 = omega arith in
        subst (λ z. act (at pc (cw ∷ (words ++ above))) (Li z 0) ≡ Halts NoStack (at pc (cw ∷ (words ++ above)))) n (short C M A base f hand pc acc mem free (cw ∷ (words ++ above)) (k + 1) _ (omega (arith, length-append words above))))))
        (λ le. let c = cut_at (k - suc (length words)) above (omega arith) in
        two c.0 c.1 c.2 c.3 le)
        (cases_lt (length above) (k - suc (length words) + 2))
      where
        two : (pad rest : List ℕ) → above ≡ pad ++ rest → length pad ≡ k - suc (length words) → k - suc (length words) + 2 ≤ length above → Enters (at pc (cw ∷ (words ++ above))) f hand acc (cw ∷ words) mem free q
        two pad [] e l le = absurd (omega (arith, ap length e, length-append pad []))
        two pad (a ∷ []) e l le = absurd (omega (arith, ap length e, length-append pad (a ∷ [])))
        two pad (a ∷ b ∷ rest) e l le = subst (λ z. Enters (at pc (cw ∷ (words ++ z))) f hand acc (cw ∷ words) mem free q) (sym e) (with_room words pad rest a b (omega (arith, length-append words pad)))
