-- What single instructions do to a state at a place in a function.
use Rattle.std.proofs.Common.{◌≡◌, ℕ, suc, ◌+◌, ◌<◌, ◌≤◌, List, [], ◌∷◌, ◌++◌, length, Option, Some, None, Bool, true, false, refl, sym, ap, ◌∙◌, subst, arith, append_assoc, length-append}
use Rattle.std.specs.Prelude.{slice_get, slice_set, nat_lt, ◌&&◌}
use Rattle.std.specs.Cmp.Lexicographic.{slice_cmp}
use Rattle.std.specs.Ordering.{nat_cmp}
use Rattle.std.proofs.lemmas.Bool.{le-ltb}
use Rattle.std.proofs.lemmas.List.{set-append_left, length-set}
use Rattle.ir_code.specs.declared.instr.Instr.{Instr}
use Rattle.ir_code.specs.declared.instr.Instr.TheVariants.{Li, Mov, Jmp, Brz, Call as CallRow, Ret, Acc, PushHandler, PopHandler, Alloc, Ld, St, ULt, Eq, SCmp, Print}
use Rattle.ir_code.specs.declared.halt.Halt.TheVariants.{NoHeap, NoStack}
use Rattle.ir_code.specs.Words.{same_word, word_less, order_code}
use Rattle.ir_code.specs.Machine.{State, StepResult, Goes, Prints, Halts, act, check, on_slot, string_at, has_bytes, all_bytes, next}
use Rattle.ir_code.specs.Laws.{ControlLaws, MemoryLaws, ArithmeticLaws, Partial, Total}
use Rattle.machine_routines.specs.Layout.{Word, TextAt, Shows}
use Rattle.machine_routines.specs.Runs.{Frame, inside}
use Rattle.machine_routines.proofs.Seams.{get_left, get_right, set_right, get_here, set_here}
use Rattle.machine_routines.proofs.LayoutLemmas.{text_string}
use Rattle.machine_routines.proofs.Steps as steps
use Rattle.machine_code.specs.Code.{slot}
use Rattle.machine_code.proofs.Sim.{Call, state_at, back_to}

module _ (C : ControlLaws) (M : MemoryLaws) (A : ArithmeticLaws) (base : ℕ) (f : Call) (hand pc acc : ℕ) (mem free : List ℕ) where
  abbrev at : List ℕ → State
  at rest = state_at base f hand pc acc rest mem free

  abbrev at_next : List ℕ → State
  at_next rest = state_at base f hand (pc + 1) acc rest mem free

  abbrev pub F : Frame
  F = record { lower = f.lower; handler = hand; acc = acc; base = base }

  abbrev pub whole : List ℕ → List ℕ
  whole rest = f.back ∷ f.frame ∷ rest

  pub whole_get : (ws above : List ℕ) (x v : ℕ) → slice_get ws x ≡ Some v → slice_get (whole (ws ++ above)) (slot x) ≡ Some v
  whole_get ws above x v e = get_left ws above x v e

  room : (ws above : List ℕ) (a d : ℕ) → length ws ≡ d → slot d < length (whole (ws ++ a ∷ above))
  room ws above a d e = omega (arith, length-append ws (a ∷ above))

  var_set : (ws above : List ℕ) (a d v : ℕ) → length ws ≡ d → slice_set (ws ++ a ∷ above) d v ≡ (ws ++ v ∷ []) ++ above
  var_set ws above a d v e = subst (λ n. slice_set (ws ++ a ∷ above) n v ≡ (ws ++ v ∷ []) ++ above) e (set_here ws above a v ∙ sym (append_assoc ws (v ∷ []) above))

  pub here_get : (ws above : List ℕ) (a d : ℕ) → length ws ≡ d → slice_get (ws ++ a ∷ above) d ≡ Some a
  here_get ws above a d e = subst (λ n. slice_get (ws ++ a ∷ above) n ≡ Some a) e (get_here ws above a)

  -- to the form with the new word behind those of the frame
  pushed : (ws above : List ℕ) (a d v : ℕ) → length ws ≡ d → (let t : StepResult = Goes (inside F (pc + 1) (slice_set (whole (ws ++ a ∷ above)) (slot d) v) mem free) in t) ≡ Goes (at_next ((ws ++ v ∷ []) ++ above))
  pushed ws above a d v e = ap (λ z. Goes (at_next z)) (var_set ws above a d v e)

  -- a slot past the stack
  pub short : (rest : List ℕ) (d : ℕ) (led : StepResult) → length rest ≤ d → on_slot (at rest) (slot d) led ≡ Halts NoStack (at rest)
  short rest d led le =
      let e : nat_lt (length f.lower + slot d) (length ((at rest).stack)) ≡ false = le-ltb _ _ (omega (arith, length-append f.lower (whole rest))) in
      ap (λ b. check b NoStack (at rest) led) e

  -- an instruction that puts a word behind those of the frame
  pub record Pushes (ws : List ℕ) (d : ℕ) (i : Instr) (v : ℕ) : Type 0 where
    pub none : (rest : List ℕ) → length rest ≤ d → act (at rest) i ≡ Halts NoStack (at rest)
    pub some : (a : ℕ) (rest : List ℕ) → act (at (ws ++ a ∷ rest)) i ≡ Goes (at_next ((ws ++ v ∷ []) ++ rest))

  module _ (ws : List ℕ) (d : ℕ) (deep : length ws ≡ d) where
    pub push_li : (v : ℕ) → Pushes ws d (Li (slot d) v) v
    push_li v = record {
      none = λ rest le. short rest d _ le;
      some = λ a rest. steps.does_li C M A F pc (whole (ws ++ a ∷ rest)) mem free (slot d) v (room ws rest a d deep) ∙ pushed ws rest a d v deep;
    }

    pub push_mov : (x v : ℕ) → slice_get ws x ≡ Some v → Pushes ws d (Mov (slot d) (slot x)) v
    push_mov x v e = record {
      none = λ rest le. short rest d _ le;
      some = λ a rest. steps.does_mov C M A F pc (whole (ws ++ a ∷ rest)) mem free (slot d) (slot x) v (room ws rest a d deep) (whole_get ws (a ∷ rest) x v e) ∙ pushed ws rest a d v deep;
    }

    pub push_ld : (x c v y : ℕ) → slice_get ws x ≡ Some v → slice_get mem (v + c) ≡ Some y → Pushes ws d (Ld (slot d) (slot x) c) y
    push_ld x c v y e g = record {
      none = λ rest le. short rest d _ le;
      some = λ a rest. steps.does_ld C M A F pc (whole (ws ++ a ∷ rest)) mem free (slot d) (slot x) c v y (room ws rest a d deep) (whole_get ws (a ∷ rest) x v e) g ∙ pushed ws rest a d y deep;
    }

    pub push_ult : (x y v w : ℕ) → slice_get ws x ≡ Some v → slice_get ws y ≡ Some w → Pushes ws d (ULt (slot d) (slot x) (slot y)) (word_less v w)
    push_ult x y v w e g = record {
      none = λ rest le. short rest d _ le;
      some = λ a rest. steps.does_two C M A F pc (whole (ws ++ a ∷ rest)) mem free ULt word_less A.ult (slot d) (slot x) (slot y) v w (room ws rest a d deep) (whole_get ws (a ∷ rest) x v e) (whole_get ws (a ∷ rest) y w g) ∙ pushed ws rest a d (word_less v w) deep;
    }

    pub push_eq : (x y v w : ℕ) → slice_get ws x ≡ Some v → slice_get ws y ≡ Some w → Pushes ws d (Eq (slot d) (slot x) (slot y)) (same_word v w)
    push_eq x y v w e g = record {
      none = λ rest le. short rest d _ le;
      some = λ a rest. steps.does_two C M A F pc (whole (ws ++ a ∷ rest)) mem free Eq same_word A.eq (slot d) (slot x) (slot y) v w (room ws rest a d deep) (whole_get ws (a ∷ rest) x v e) (whole_get ws (a ∷ rest) y w g) ∙ pushed ws rest a d (same_word v w) deep;
    }

    pub push_acc : Pushes ws d (Acc (slot d)) acc
    push_acc = record {
      none = λ rest le. short rest d _ le;
      some = λ a rest. C.acc (at (ws ++ a ∷ rest)) (slot d) (steps.has C M A F pc (whole (ws ++ a ∷ rest)) mem free (slot d) (room ws rest a d deep)) ∙ ap (λ z. Goes (record (at_next []) { stack = z })) (set_right f.lower (whole (ws ++ a ∷ rest)) (slot d) acc) ∙ pushed ws rest a d acc deep;
    }

    -- two words, with the word in the slot itself as the second
    pub does_eq_here : (x v a : ℕ) (rest : List ℕ) → slice_get ws x ≡ Some v → act (at (ws ++ a ∷ rest)) (Eq (slot d) (slot x) (slot d)) ≡ Goes (at_next ((ws ++ same_word v a ∷ []) ++ rest))
    does_eq_here x v a rest e = steps.does_eq C M A F pc (whole (ws ++ a ∷ rest)) mem free (slot d) (slot x) (slot d) v a (room ws rest a d deep) (whole_get ws (a ∷ rest) x v e) (here_get ws rest a d deep) ∙ pushed ws rest a d (same_word v a) deep

    -- .. and as the first
    pub does_eq_there : (y v a : ℕ) (rest : List ℕ) → slice_get ws y ≡ Some v → act (at (ws ++ a ∷ rest)) (Eq (slot d) (slot d) (slot y)) ≡ Goes (at_next ((ws ++ same_word a v ∷ []) ++ rest))
    does_eq_there y v a rest e = steps.does_eq C M A F pc (whole (ws ++ a ∷ rest)) mem free (slot d) (slot d) (slot y) a v (room ws rest a d deep) (here_get ws rest a d deep) (whole_get ws (a ∷ rest) y v e) ∙ pushed ws rest a d (same_word a v) deep

    -- the order of two texts, that of the word in the slot as the first
    pub does_scmp_there : (lay : List Word) (y v a : ℕ) (t u rest : List ℕ) → slice_get ws y ≡ Some v → Shows lay mem → TextAt lay t a → TextAt lay u v
        → act (at (ws ++ a ∷ rest)) (SCmp (slot d) (slot d) (slot y)) ≡ Goes (at_next ((ws ++ order_code (slice_cmp nat_cmp t u) ∷ []) ++ rest))
    does_scmp_there lay y v a t u rest e show i j =
        steps.does_scmp C M A F pc (whole (ws ++ a ∷ rest)) mem free lay (slot d) (slot d) (slot y) a v t u (room ws rest a d deep) (here_get ws rest a d deep)
        (whole_get ws (a ∷ rest) y v e) show i j
        ∙ pushed ws rest a d (order_code (slice_cmp nat_cmp t u)) deep

    -- the word in the slot and the one behind it
    pub does_eq_next : (a b : ℕ) (rest : List ℕ) → act (at (ws ++ a ∷ b ∷ rest)) (Eq (slot d) (slot d) (slot (suc d))) ≡ Goes (at_next ((ws ++ same_word a b ∷ []) ++ (b ∷ rest)))
    does_eq_next a b rest =
        let n : length ws + 1 ≡ suc d = omega arith in
        let second : slice_get (ws ++ a ∷ b ∷ rest) (suc d) ≡ Some b = subst (λ k. slice_get (ws ++ a ∷ b ∷ rest) k ≡ Some b) n (get_right ws (a ∷ b ∷ rest) 1) in
        steps.does_eq C M A F pc (whole (ws ++ a ∷ b ∷ rest)) mem free (slot d) (slot d) (slot (suc d)) a b (room ws (b ∷ rest) a d deep) (here_get ws (b ∷ rest) a d deep) second
        ∙ pushed ws (b ∷ rest) a d (same_word a b) deep

    -- any row of two words, over the word in the slot; and with that as its second word
    pub does_over : (row : ℕ → ℕ → ℕ → Instr) (g : ℕ → ℕ → ℕ) → Total row g → (x y v w a : ℕ) (rest : List ℕ) → slice_get ws x ≡ Some v → slice_get ws y ≡ Some w → act (at (ws ++ a ∷ rest)) (row (slot d) (slot x) (slot y)) ≡ Goes (at_next ((ws ++ g v w ∷ []) ++ rest))
    does_over row g law x y v w a rest e h = steps.does_two C M A F pc (whole (ws ++ a ∷ rest)) mem free row g law (slot d) (slot x) (slot y) v w (room ws rest a d deep) (whole_get ws (a ∷ rest) x v e) (whole_get ws (a ∷ rest) y w h) ∙ pushed ws rest a d (g v w) deep

    pub does_over_here : (row : ℕ → ℕ → ℕ → Instr) (g : ℕ → ℕ → ℕ) → Total row g → (x v a : ℕ) (rest : List ℕ) → slice_get ws x ≡ Some v → act (at (ws ++ a ∷ rest)) (row (slot d) (slot x) (slot d)) ≡ Goes (at_next ((ws ++ g v a ∷ []) ++ rest))
    does_over_here row g law x v a rest e = steps.does_two C M A F pc (whole (ws ++ a ∷ rest)) mem free row g law (slot d) (slot x) (slot d) v a (room ws rest a d deep) (whole_get ws (a ∷ rest) x v e) (here_get ws rest a d deep) ∙ pushed ws rest a d (g v a) deep

    -- a word at the address in the slot itself
    pub does_ld_here : (c a y : ℕ) (rest : List ℕ) → slice_get mem (a + c) ≡ Some y → act (at (ws ++ a ∷ rest)) (Ld (slot d) (slot d) c) ≡ Goes (at_next ((ws ++ y ∷ []) ++ rest))
    does_ld_here c a y rest g = steps.does_ld C M A F pc (whole (ws ++ a ∷ rest)) mem free (slot d) (slot d) c a y (room ws rest a d deep) (here_get ws rest a d deep) g ∙ pushed ws rest a d y deep

    -- a row that may have no result
    pub does_some : (row : ℕ → ℕ → ℕ → Instr) (g : ℕ → ℕ → Option ℕ) → Partial row g → (x y v w r a : ℕ) (rest : List ℕ) → slice_get ws x ≡ Some v → slice_get ws y ≡ Some w → g v w ≡ Some r → act (at (ws ++ a ∷ rest)) (row (slot d) (slot x) (slot y)) ≡ Goes (state_at base f hand (pc + 2) acc ((ws ++ r ∷ []) ++ rest) mem free)
    does_some row g law x y v w r a rest e h i =
        let zs = whole (ws ++ a ∷ rest) in
        law.some (at (ws ++ a ∷ rest)) (slot d) (slot x) (slot y) v w r (steps.has C M A F pc zs mem free (slot d) (room ws rest a d deep))
        (steps.holds C M A F pc zs mem free (slot x) v (whole_get ws (a ∷ rest) x v e)) (steps.holds C M A F pc zs mem free (slot y) w (whole_get ws (a ∷ rest) y w h)) i
        ∙ ap (λ z. Goes (record (at []) { pc = pc + 2; stack = z })) (set_right f.lower zs (slot d) r ∙ ap (λ z. f.lower ++ whole z) (var_set ws rest a d r deep))

    pub does_none : (row : ℕ → ℕ → ℕ → Instr) (g : ℕ → ℕ → Option ℕ) → Partial row g → (x y v w a : ℕ) (rest : List ℕ) → slice_get ws x ≡ Some v → slice_get ws y ≡ Some w → g v w ≡ None → act (at (ws ++ a ∷ rest)) (row (slot d) (slot x) (slot y)) ≡ Goes (at_next (ws ++ a ∷ rest))
    does_none row g law x y v w a rest e h i =
        let zs = whole (ws ++ a ∷ rest) in
        law.none (at (ws ++ a ∷ rest)) (slot d) (slot x) (slot y) v w (steps.has C M A F pc zs mem free (slot d) (room ws rest a d deep))
        (steps.holds C M A F pc zs mem free (slot x) v (whole_get ws (a ∷ rest) x v e)) (steps.holds C M A F pc zs mem free (slot y) w (whole_get ws (a ∷ rest) y w h)) i

    -- new words of the memory, where there are so many
    pub does_alloc : (a n : ℕ) (rest new free' : List ℕ) → free ≡ new ++ free' → length new ≡ n → act (at (ws ++ a ∷ rest)) (Alloc (slot d) n) ≡ Goes (state_at base f hand (pc + 1) acc ((ws ++ length mem ∷ []) ++ rest) (mem ++ new) free')
    does_alloc a n rest new free' e l =
        steps.does_alloc C M A F pc (whole (ws ++ a ∷ rest)) mem free (slot d) n new free' (room ws rest a d deep) e l
        ∙ ap (λ z. Goes (state_at base f hand (pc + 1) acc z (mem ++ new) free')) (var_set ws rest a d (length mem) deep)

    pub no_alloc : (a n : ℕ) (rest : List ℕ) → length free < n → act (at (ws ++ a ∷ rest)) (Alloc (slot d) n) ≡ Halts NoHeap (at (ws ++ a ∷ rest))
    no_alloc a n rest lt = steps.no_words C M A F pc (whole (ws ++ a ∷ rest)) mem free (slot d) n (room ws rest a d deep) lt

    -- the frame of a call, behind these words
    abbrev pub called : Call
    called = record { lower = f.lower ++ whole ws; back = pc + 1; frame = length f.lower; hand = hand }

    pub does_call : (a b p : ℕ) (rest : List ℕ) → act (at (ws ++ a ∷ b ∷ rest)) (CallRow p (slot d)) ≡ Goes (state_at base called hand p acc rest mem free)
    does_call a b p rest =
        let s = at (ws ++ a ∷ b ∷ rest) in
        let low = f.lower ++ whole ws in
        let fp = length f.lower in
        let first : fp + slot d ≡ length low = omega (arith, length-append f.lower (whole ws)) in
        let second : fp + (slot d + 1) ≡ length low + 1 = omega arith in
        let long : slot d + 1 < length (whole (ws ++ a ∷ b ∷ rest)) = omega (arith, length-append ws (a ∷ b ∷ rest)) in
        let led : List ℕ → ℕ → StepResult = λ l n. Goes (record s { pc = p; fp = n; stack = l }) in
        let set : List ℕ → ℕ → ℕ → List ℕ = λ l m n. slice_set (slice_set l m (pc + 1)) n fp in
        let stack : set s.stack (fp + slot d) (fp + (slot d + 1)) ≡ low ++ ((pc + 1) ∷ fp ∷ rest) =
        ap (λ n. set s.stack n (fp + (slot d + 1))) first
        ∙ ap (λ n. set s.stack (length low) n) second
        ∙ ap (λ l. set l (length low) (length low + 1)) (sym (append_assoc f.lower (whole ws) (a ∷ b ∷ rest)))
        ∙ ap (λ l. slice_set l (length low + 1) fp) (set_here low (b ∷ rest) a (pc + 1))
        ∙ set_right low ((pc + 1) ∷ b ∷ rest) 1 fp in
        C.call s p (slot d) (steps.has C M A F pc (whole (ws ++ a ∷ b ∷ rest)) mem free (slot d + 1) long)
        ∙ ap (λ l. led l (fp + slot d)) stack
        ∙ ap (λ n. led (low ++ ((pc + 1) ∷ fp ∷ rest)) n) first

    -- a handler's record behind these words
    pub does_push_handler : (a b c p : ℕ) (rest : List ℕ) → act (at (ws ++ a ∷ b ∷ c ∷ rest)) (PushHandler (slot d) p) ≡ Goes (state_at base f (length f.lower + slot d) (pc + 1) acc ((ws ++ hand ∷ p ∷ length f.lower ∷ []) ++ rest) mem free)
    does_push_handler a b c p rest =
        let s = at (ws ++ a ∷ b ∷ c ∷ rest) in
        let low = f.lower ++ whole ws in
        let fp = length f.lower in
        let first : fp + slot d ≡ length low = omega (arith, length-append f.lower (whole ws)) in
        let second : fp + (slot d + 1) ≡ length low + 1 = omega arith in
        let third : fp + (slot d + 2) ≡ length low + 2 = omega arith in
        let long : slot d + 2 < length (whole (ws ++ a ∷ b ∷ c ∷ rest)) = omega (arith, length-append ws (a ∷ b ∷ c ∷ rest)) in
        let led : List ℕ → StepResult = λ l. Goes (record s { pc = pc + 1; handler = fp + slot d; stack = l }) in
        let set : List ℕ → ℕ → ℕ → ℕ → List ℕ = λ l x y z. slice_set (slice_set (slice_set l x hand) y p) z fp in
        let stack : set s.stack (fp + slot d) (fp + (slot d + 1)) (fp + (slot d + 2)) ≡ f.lower ++ whole ((ws ++ hand ∷ p ∷ fp ∷ []) ++ rest) =
        ap (λ n. set s.stack n (fp + (slot d + 1)) (fp + (slot d + 2))) first
        ∙ ap (λ n. set s.stack (length low) n (fp + (slot d + 2))) second
        ∙ ap (λ n. set s.stack (length low) (length low + 1) n) third
        ∙ ap (λ l. set l (length low) (length low + 1) (length low + 2)) (sym (append_assoc f.lower (whole ws) (a ∷ b ∷ c ∷ rest)))
        ∙ ap (λ l. slice_set (slice_set l (length low + 1) p) (length low + 2) fp) (set_here low (b ∷ c ∷ rest) a hand)
        ∙ ap (λ l. slice_set l (length low + 2) fp) (set_right low (hand ∷ b ∷ c ∷ rest) 1 p)
        ∙ set_right low (hand ∷ p ∷ c ∷ rest) 2 fp
        ∙ append_assoc f.lower (whole ws) (hand ∷ p ∷ fp ∷ rest)
        ∙ ap (λ l. f.lower ++ whole l) (sym (append_assoc ws (hand ∷ p ∷ fp ∷ []) rest)) in
        C.push_handler s (slot d) p (steps.has C M A F pc (whole (ws ++ a ∷ b ∷ c ∷ rest)) mem free (slot d + 2) long) ∙ ap led stack

  -- no room for the two words of a call's frame, or the three of a handler's record
  pub short_call : (rest : List ℕ) (d p : ℕ) → length rest ≤ suc d → act (at rest) (CallRow p (slot d)) ≡ Halts NoStack (at rest)
  short_call rest d p le =
      let s = at rest in
      let e : slot d + 1 ≡ slot (suc d) = omega arith in
      let second = ap (λ n. on_slot s n (Goes (record s { pc = p; fp = s.fp + slot d; stack = slice_set (slice_set s.stack (s.fp + slot d) (pc + 1)) (s.fp + (slot d + 1)) s.fp }))) e ∙ short rest (suc d) _ le in
      ap (λ led. on_slot s (slot d) led) second ∙ either (nat_lt (s.fp + slot d) (length s.stack))
    where
      either : (b : Bool) → check b NoStack (at rest) (Halts NoStack (at rest)) ≡ Halts NoStack (at rest)
      either true = refl
      either false = refl

  pub short_handler : (rest : List ℕ) (d p : ℕ) → length rest ≤ d + 2 → act (at rest) (PushHandler (slot d) p) ≡ Halts NoStack (at rest)
  short_handler rest d p le =
      let e : slot d + 2 ≡ slot (d + 2) = omega arith in
      let s = at rest in
      let led = Goes (next (record s { handler = s.fp + slot d; stack = slice_set (slice_set (slice_set s.stack (s.fp + slot d) hand) (s.fp + (slot d + 1)) p) (s.fp + (slot d + 2)) s.fp })) in
      ap (λ n. on_slot s n led) e ∙ short rest (d + 2) led le

  pub does_jmp : (rest : List ℕ) (p : ℕ) → act (at rest) (Jmp p) ≡ Goes (state_at base f hand p acc rest mem free)
  does_jmp rest p = C.jmp (at rest) p

  pub does_brz_zero : (rest : List ℕ) (x p : ℕ) → slice_get rest x ≡ Some 0 → act (at rest) (Brz (slot x) p) ≡ Goes (state_at base f hand p acc rest mem free)
  does_brz_zero rest x p e = steps.does_brz_zero C M A F pc (whole rest) mem free (slot x) p e

  pub does_brz : (rest : List ℕ) (x p v : ℕ) → slice_get rest x ≡ Some v → 0 < v → act (at rest) (Brz (slot x) p) ≡ Goes (at_next rest)
  does_brz rest x p v e pos = steps.does_brz C M A F pc (whole rest) mem free (slot x) p v e pos

  pub does_pop_handler : (rest : List ℕ) (x v : ℕ) → slice_get rest x ≡ Some v → act (at rest) (PopHandler (slot x)) ≡ Goes (state_at base f v (pc + 1) acc rest mem free)
  does_pop_handler rest x v e = C.pop_handler (at rest) (slot x) v (steps.holds C M A F pc (whole rest) mem free (slot x) v e)

  pub does_ret : (rest : List ℕ) (x v : ℕ) → hand ≡ f.hand → slice_get rest x ≡ Some v → act (at rest) (Ret (slot x)) ≡ Goes (back_to base f v rest mem free)
  does_ret rest x v same e =
      steps.does_ret C M A F pc (whole rest) mem free (slot x) v f.back f.frame e refl refl
      ∙ ap (λ h. Goes (record (back_to base f v rest mem free) { handler = h })) same

  pub does_print : (lay : List Word) (rest : List ℕ) (x v : ℕ) (t : List ℕ) → slice_get rest x ≡ Some v → Shows lay mem → TextAt lay t v → act (at rest) (Print (slot x)) ≡ Prints t (at_next rest)
  does_print lay rest x v t e show i =
      let r = text_string lay mem free t v show i in
      let bytes : has_bytes (mem ++ free) (length mem) v ≡ true = ap (λ b. b && all_bytes (string_at (mem ++ free) v)) r.1 ∙ ap all_bytes r.0 ∙ i.2 in
      C_print bytes ∙ ap (λ l. Prints l (at_next rest)) r.0
    where
      C_print : has_bytes (mem ++ free) (length mem) v ≡ true → act (at rest) (Print (slot x)) ≡ Prints (string_at (mem ++ free) v) (at_next rest)
      C_print b = M.print (at rest) (slot x) v (steps.holds C M A F pc (whole rest) mem free (slot x) v e) b

  -- a move of a word to an earlier slot
  pub does_down : (pre rest : List ℕ) (a t d v : ℕ) → length pre ≡ t → slice_get (pre ++ a ∷ rest) d ≡ Some v → act (at (pre ++ a ∷ rest)) (Mov (slot t) (slot d)) ≡ Goes (at_next ((pre ++ v ∷ []) ++ rest))
  does_down pre rest a t d v e g = steps.does_mov C M A F pc (whole (pre ++ a ∷ rest)) mem free (slot t) (slot d) v (room pre rest a t e) g ∙ pushed pre rest a t v e

  -- a write to the word of a reference
  pub does_set : (rest : List ℕ) (x y p v : ℕ) → slice_get rest x ≡ Some p → slice_get rest y ≡ Some v → base ≤ p → p < length mem → act (at rest) (St (slot x) 0 (slot y)) ≡ Goes (state_at base f hand (pc + 1) acc rest (slice_set mem p v) free)
  does_set rest x y p v gx gy low lt =
      let s = at rest in
      let e : p + 0 ≡ p = omega arith in
      M.st s (slot x) 0 (slot y) p v (steps.holds C M A F pc (whole rest) mem free (slot x) p gx) (steps.holds C M A F pc (whole rest) mem free (slot y) v gy) (omega arith) (omega arith)
      ∙ ap (λ n. Goes (next (record s { memory = slice_set (mem ++ free) n v }))) e
      ∙ ap (λ l. Goes (record (at_next rest) { memory = l })) (set-append_left mem free p v lt)
      ∙ ap (λ n. Goes (record (at_next rest) { memory = slice_set mem p v ++ free; limit = n })) (sym (length-set mem p v))
