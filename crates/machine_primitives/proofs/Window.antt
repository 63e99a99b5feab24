-- Single instructions on the words behind the front of a frame, and the memory that they may change.
use Rattle.std.proofs.Common.{◌≡◌, ℕ, suc, ◌+◌, ◌-◌, ◌%◌, ◌<◌, ◌≤◌, ◌^◌, List, [], ◌∷◌, ◌++◌, length, take, drop, Some, true, false, ◌&&◌, sym, ap, ◌∙◌, subst, arith, append_assoc, append-nil, length-append}
use Rattle.std.specs.Prelude.{slice_get, slice_set, nat_lt, nat_le, ◌==◌}
use Rattle.std.specs.Cmp.Lexicographic.{slice_cmp}
use Rattle.std.specs.Ordering.{nat_cmp}
use Rattle.std.proofs.lemmas.Bool.{lt-ltb, le-ltb, lt-leb, le-leb, and_from, or_right}
use Rattle.std.proofs.lemmas.List.{take_at, drop_at}
use Rattle.std.proofs.Math.Nat.{add-mod_right, mod-eq_of_lt}
use Rattle.ir_code.specs.declared.instr.Instr.{Instr}
use Rattle.ir_code.specs.declared.instr.Instr.TheVariants.{Li, Mov, Jmp, Brz, Alloc, AllocVar, Ld, St, Copy, WAdd, WSub, SCmp, IText}
use Rattle.ir_code.specs.declared.halt.Halt.TheVariants.{NoHeap, NoStack}
use Rattle.ir_code.specs.Words.{order_code, word_sum, word_difference, int_text, write_at}
use Rattle.ir_code.specs.Machine.{State, StepResult, Goes, Halts, act, check, on_slot, with_word, with_slot, grow, may_copy, next, put}
use Rattle.ir_code.specs.Laws.{ControlLaws, MemoryLaws, ArithmeticLaws, NextLaws, Total}
use Rattle.first_values.specs.Values.{Value}
use Rattle.machine_code.specs.of_machine_routines.Layout.{Word, TextAt, Shows}
use Rattle.machine_code.specs.of_machine_routines.Runs.{Frame, inside, Leads, RunsOut}
use Rattle.machine_code.proofs.of_machine_routines.Seams.{get_left, get_right, set_right}
use Rattle.machine_code.proofs.of_machine_routines.LayoutLemmas.{BytesIn, take_bytes, bytes_more, bytes_end}
use Rattle.machine_code.proofs.of_machine_routines.Leads.{trans, step_to, cut, out_after}
use Rattle.machine_code.proofs.of_machine_routines.Steps as steps
use Rattle.machine_code.specs.Rows.{Comes, comes, Passes, passes}
use Rattle.machine_code.specs.Rows as rows

-- after some steps
module _ (code : List Instr) (f : Frame) (lay : List Word) (front mem : List ℕ) where
  pub comes_after : {v : Value} {place : ℕ} {s t : State} → Leads code s t → Comes code f lay front mem v place t → Comes code f lay front mem v place s
  comes_after l (comes y acc above new free is a pos) = comes y acc above new free is (trans code l a) (omega arith)
  comes_after l (rows.Comes.lacks_heap c) = rows.Comes.lacks_heap (out_after code l c)
  comes_after l (rows.Comes.lacks_stack c) = rows.Comes.lacks_stack (out_after code l c)

-- a copy into new words
copied : (mem don junk1 junk2 part free : List ℕ) (y : ℕ) → y ≡ length mem + length don → length junk1 ≡ length part → write_at ((mem ++ (don ++ (junk1 ++ junk2))) ++ free) y part ≡ (mem ++ (don ++ (part ++ junk2))) ++ free
copied mem don junk1 junk2 part free y e l =
    let pre = mem ++ don in
    let n : length pre ≡ y = omega (arith, length-append mem don) in
    let whole : (mem ++ (don ++ (junk1 ++ junk2))) ++ free ≡ pre ++ (junk1 ++ (junk2 ++ free)) =
    ap (λ z. z ++ free) (sym (append_assoc mem don (junk1 ++ junk2))) ∙ append_assoc pre (junk1 ++ junk2) free ∙ ap (λ z. pre ++ z) (append_assoc junk1 junk2 free) in
    let front : take y (pre ++ (junk1 ++ (junk2 ++ free))) ≡ pre = take_at pre (junk1 ++ (junk2 ++ free)) y n in
    let pre1 = pre ++ junk1 in
    let n1 : length pre1 ≡ y + length part = omega (arith, n, length-append pre junk1) in
    let whole1 : pre ++ (junk1 ++ (junk2 ++ free)) ≡ pre1 ++ (junk2 ++ free) = sym (append_assoc pre junk1 (junk2 ++ free)) in
    let back : drop (y + length part) (pre1 ++ (junk2 ++ free)) ≡ junk2 ++ free = drop_at pre1 (junk2 ++ free) (y + length part) n1 in
    let end : (mem ++ (don ++ (part ++ junk2))) ++ free ≡ pre ++ (part ++ (junk2 ++ free)) =
    ap (λ z. z ++ free) (sym (append_assoc mem don (part ++ junk2))) ∙ append_assoc pre (part ++ junk2) free ∙ ap (λ z. pre ++ z) (append_assoc part junk2 free) in
    ap (λ z. write_at z y part) whole
    ∙ ap (λ z. z ++ (part ++ drop (y + length part) (pre ++ (junk1 ++ (junk2 ++ free))))) front
    ∙ ap (λ z. pre ++ (part ++ drop (y + length part) z)) whole1
    ∙ ap (λ z. pre ++ (part ++ z)) back
    ∙ sym end

-- what the machine goes on with after it read the operand of ITEXT
abbrev written : State → ℕ → ℕ → StepResult
written s x v = check (nat_le (s.limit + 1 + length (int_text v)) (length s.memory)) NoHeap s
    (Goes (next (record (put s x s.limit) { memory = write_at s.memory s.limit (length (int_text v) ∷ int_text v); limit = s.limit + 1 + length (int_text v) })))

module _ (C : ControlLaws) (M : MemoryLaws) (A : ArithmeticLaws) (N : NextLaws) (code : List Instr) (f : Frame) (front : List ℕ) where
  -- the words ws stand behind the front
  abbrev pub at : ℕ → List ℕ → List ℕ → List ℕ → State
  at pc ws mem free = inside f pc (front ++ ws) mem free

  pub old : (ws : List ℕ) (x v : ℕ) → slice_get front x ≡ Some v → slice_get (front ++ ws) x ≡ Some v
  old ws x v e = get_left front ws x v e

  -- the slot at k behind the front
  pub young : (ws : List ℕ) (k x v : ℕ) → x ≡ length front + k → slice_get ws k ≡ Some v → slice_get (front ++ ws) x ≡ Some v
  young ws k x v e g = ap (λ n. slice_get (front ++ ws) n) e ∙ get_right front ws k ∙ g

  pub room : (ws : List ℕ) (k x : ℕ) → x ≡ length front + k → k < length ws → x < length (front ++ ws)
  room ws k x e lt = omega (arith, length-append front ws)

  pub placed : (ws : List ℕ) (k x v : ℕ) → x ≡ length front + k → slice_set (front ++ ws) x v ≡ front ++ slice_set ws k v
  placed ws k x v e = ap (λ n. slice_set (front ++ ws) n v) e ∙ set_right front ws k v

  -- no such slot
  pub lacks : (pc k x : ℕ) (ws mem free : List ℕ) (led : StepResult) → x ≡ length front + k → length ws ≤ k → on_slot (at pc ws mem free) x led ≡ Halts NoStack (at pc ws mem free)
  lacks pc k x ws mem free led e le = ap (λ b. check b NoStack (at pc ws mem free) led) (le-ltb _ _ (omega (arith, length-append f.lower (front ++ ws), length-append front ws)))

  module _ (pc k x : ℕ) (ws mem free : List ℕ) (here : x ≡ length front + k) (lt : k < length ws) where
    abbrev with_next : ℕ → State
    with_next v = at (pc + 1) (slice_set ws k v) mem free

    pub puts : (v : ℕ) → (let t : StepResult = Goes (steps.with_slot C M A f pc (front ++ ws) mem free x v) in t) ≡ Goes (with_next v)
    puts v = ap (λ z. Goes (inside f (pc + 1) z mem free)) (placed ws k x v here)

    abbrev pub li : (v : ℕ) → slice_get code pc ≡ Some (Li x v) → Leads code (at pc ws mem free) (at (pc + 1) (slice_set ws k v) mem free)
    li v has = step_to code N (Li x v) has (steps.does_li C M A f pc (front ++ ws) mem free x v (room ws k x here lt) ∙ puts v)

    abbrev pub mov : (y v : ℕ) → slice_get (front ++ ws) y ≡ Some v → slice_get code pc ≡ Some (Mov x y) → Leads code (at pc ws mem free) (at (pc + 1) (slice_set ws k v) mem free)
    mov y v e has = step_to code N (Mov x y) has (steps.does_mov C M A f pc (front ++ ws) mem free x y v (room ws k x here lt) e ∙ puts v)

    abbrev pub two : (row : ℕ → ℕ → ℕ → Instr) (g : ℕ → ℕ → ℕ) → Total row g → (y z v w : ℕ) → slice_get (front ++ ws) y ≡ Some v → slice_get (front ++ ws) z ≡ Some w
        → slice_get code pc ≡ Some (row x y z) → Leads code (at pc ws mem free) (at (pc + 1) (slice_set ws k (g v w)) mem free)
    two row g law y z v w e h has = step_to code N (row x y z) has (steps.does_two C M A f pc (front ++ ws) mem free row g law x y z v w (room ws k x here lt) e h ∙ puts (g v w))

    abbrev pub ld : (y c v w : ℕ) → slice_get (front ++ ws) y ≡ Some v → slice_get mem (v + c) ≡ Some w → slice_get code pc ≡ Some (Ld x y c)
        → Leads code (at pc ws mem free) (at (pc + 1) (slice_set ws k w) mem free)
    ld y c v w e g has = step_to code N (Ld x y c) has (steps.does_ld C M A f pc (front ++ ws) mem free x y c v w (room ws k x here lt) e g ∙ puts w)

    abbrev pub scmp : (lay : List Word) (y z v w : ℕ) (t u : List ℕ) → slice_get (front ++ ws) y ≡ Some v → slice_get (front ++ ws) z ≡ Some w → Shows lay mem → TextAt lay t v → TextAt lay u w
        → slice_get code pc ≡ Some (SCmp x y z) → Leads code (at pc ws mem free) (at (pc + 1) (slice_set ws k (order_code (slice_cmp nat_cmp t u))) mem free)
    scmp lay y z v w t u e h show i j has =
        step_to code N (SCmp x y z) has (steps.does_scmp C M A f pc (front ++ ws) mem free lay x y z v w t u (room ws k x here lt) e h show i j ∙ puts (order_code (slice_cmp nat_cmp t u)))

    -- a sum that is a word
    pub add : (y z v w : ℕ) → slice_get (front ++ ws) y ≡ Some v → slice_get (front ++ ws) z ≡ Some w → v + w < 2 ^ 32 → slice_get code pc ≡ Some (WAdd x y z)
        → Leads code (at pc ws mem free) (at (pc + 1) (slice_set ws k (v + w)) mem free)
    add y z v w e h small has =
        subst (λ n. Leads code (at pc ws mem free) (at (pc + 1) (slice_set ws k n) mem free)) (mod-eq_of_lt small) (two WAdd word_sum A.wadd y z v w e h has)

    -- a difference of a word and one that is no greater
    pub less : (y z v w : ℕ) → slice_get (front ++ ws) y ≡ Some v → slice_get (front ++ ws) z ≡ Some w → w ≤ v → v < 2 ^ 32 → slice_get code pc ≡ Some (WSub x y z)
        → Leads code (at pc ws mem free) (at (pc + 1) (slice_set ws k (v - w)) mem free)
    less y z v w e h le small has =
        let n : v + (2 ^ 32 - w) ≡ v - w + 2 ^ 32 = omega arith in
        let lt : v - w < 2 ^ 32 = omega arith in
        let is : word_difference v w ≡ v - w = ap (λ n. n % 2 ^ 32) n ∙ add-mod_right (v - w) (2 ^ 32) ∙ mod-eq_of_lt lt in
        subst (λ n. Leads code (at pc ws mem free) (at (pc + 1) (slice_set ws k n) mem free)) is (two WSub word_difference A.wsub y z v w e h has)

    -- new words, where there are so many
    pub alloc : (n : ℕ) (new free' : List ℕ) → free ≡ new ++ free' → length new ≡ n → slice_get code pc ≡ Some (Alloc x n)
        → Leads code (at pc ws mem free) (at (pc + 1) (slice_set ws k (length mem)) (mem ++ new) free')
    alloc n new free' e l has =
        step_to code N (Alloc x n) has
        (steps.does_alloc C M A f pc (front ++ ws) mem free x n new free' (room ws k x here lt) e l ∙ ap (λ z. Goes (inside f (pc + 1) z (mem ++ new) free')) (placed ws k x (length mem) here))

    pub no_alloc : (n : ℕ) → length free < n → slice_get code pc ≡ Some (Alloc x n) → RunsOut code (at pc ws mem free)
    no_alloc n short has = cut code N NoHeap (at pc ws mem free) (Alloc x n) has (steps.no_words C M A f pc (front ++ ws) mem free x n (room ws k x here lt) short)

    -- .. so many as a slot says
    pub alloc_var : (y n : ℕ) (new free' : List ℕ) → slice_get (front ++ ws) y ≡ Some n → free ≡ new ++ free' → length new ≡ n → slice_get code pc ≡ Some (AllocVar x y)
        → Leads code (at pc ws mem free) (at (pc + 1) (slice_set ws k (length mem)) (mem ++ new) free')
    alloc_var y n new free' g e l has =
        let s = at pc ws mem free in
        let enough : length mem + n ≤ length (mem ++ free) = omega (arith, length-append mem free, ap length e, length-append new free') in
        let whole : mem ++ free ≡ (mem ++ new) ++ free' = ap (λ z. mem ++ z) e ∙ sym (append_assoc mem new free') in
        let size : length mem + n ≡ length (mem ++ new) = omega (arith, length-append mem new) in
        step_to code N (AllocVar x y) has
        (M.alloc_var s x y n (steps.has C M A f pc (front ++ ws) mem free x (room ws k x here lt)) (steps.holds C M A f pc (front ++ ws) mem free y n g) enough
        ∙ ap (λ z. Goes (record s { pc = pc + 1; stack = z; limit = length mem + n })) (set_right f.lower (front ++ ws) x (length mem))
        ∙ ap (λ z. Goes (record s { pc = pc + 1; stack = f.lower ++ slice_set (front ++ ws) x (length mem); limit = z })) size
        ∙ ap (λ z. Goes (record s { pc = pc + 1; stack = f.lower ++ slice_set (front ++ ws) x (length mem); limit = length (mem ++ new); memory = z })) whole
        ∙ ap (λ z. Goes (inside f (pc + 1) z (mem ++ new) free')) (placed ws k x (length mem) here))

    pub no_alloc_var : (y n : ℕ) → slice_get (front ++ ws) y ≡ Some n → length free < n → slice_get code pc ≡ Some (AllocVar x y) → RunsOut code (at pc ws mem free)
    no_alloc_var y n g short has =
        let s = at pc ws mem free in
        let none : nat_le (length mem + n) (length (mem ++ free)) ≡ false = lt-leb _ _ (omega (arith, length-append mem free)) in
        let there : nat_lt (length f.lower + x) (length (f.lower ++ (front ++ ws))) ≡ true = lt-ltb _ _ (steps.has C M A f pc (front ++ ws) mem free x (room ws k x here lt)) in
        cut code N NoHeap s (AllocVar x y) has
        (ap (λ b. check b NoStack s (with_slot s y (λ v. grow s x v))) there
        ∙ ap (λ o. with_word o s (λ v. grow s x v)) (steps.holds C M A f pc (front ++ ws) mem free y n g)
        ∙ ap (λ b. check b NoHeap s (Goes (next (record (put s x (length mem)) { limit = length mem + n })))) none)

    pub does_itext : (y v : ℕ) (t new free' : List ℕ) → int_text v ≡ t → slice_get (front ++ ws) y ≡ Some v → free ≡ new ++ free' → length new ≡ suc (length t)
        → act (at pc ws mem free) (IText x y) ≡ Goes (at (pc + 1) (slice_set ws k (length mem)) (mem ++ (length t ∷ t)) free')
    does_itext y v t new free' is g e l =
        let s = at pc ws mem free in
        let words = length t ∷ t in
        let same : length (int_text v) ≡ length t = ap length is in
        let enough : length mem + 1 + length (int_text v) ≤ length (mem ++ free) = omega (arith, same, length-append mem free, ap length e, length-append new free') in
        let stack = f.lower ++ slice_set (front ++ ws) x (length mem) in
        let size : length mem + 1 + length t ≡ length (mem ++ words) = omega (arith, length-append mem words) in
        let memory : write_at (mem ++ free) (length mem) words ≡ (mem ++ words) ++ free' =
        ap (λ z. write_at (mem ++ z) (length mem) words) e ∙ ap (λ z. write_at z (length mem) words) (sym (append_assoc mem new free'))
        ∙ ap (λ z. write_at ((mem ++ z) ++ free') (length mem) words) (sym (append-nil new)) ∙ copied mem [] new [] words free' (length mem) (omega arith) l
        ∙ ap (λ z. (mem ++ z) ++ free') (append-nil words) in
        M.itext s x y v (steps.has C M A f pc (front ++ ws) mem free x (room ws k x here lt)) (steps.holds C M A f pc (front ++ ws) mem free y v g) enough
        ∙ ap (λ z. Goes (record s { pc = pc + 1; stack = z; memory = write_at (mem ++ free) (length mem) (length (int_text v) ∷ int_text v); limit = length mem + 1 + length (int_text v) })) (set_right f.lower (front ++ ws) x (length mem))
        ∙ ap (λ t. Goes (record s { pc = pc + 1; stack = stack; memory = write_at (mem ++ free) (length mem) (length t ∷ t); limit = length mem + 1 + length t })) is
        ∙ ap (λ z. Goes (record s { pc = pc + 1; stack = stack; memory = write_at (mem ++ free) (length mem) words; limit = z })) size
        ∙ ap (λ z. Goes (record s { pc = pc + 1; stack = stack; memory = z; limit = length (mem ++ words) })) memory
        ∙ ap (λ z. Goes (inside f (pc + 1) z (mem ++ words) free')) (placed ws k x (length mem) here)

    -- an integer in decimal, where there is room
    abbrev pub itext : (y v : ℕ) (t new free' : List ℕ) → int_text v ≡ t → slice_get (front ++ ws) y ≡ Some v → free ≡ new ++ free' → length new ≡ suc (length t) → slice_get code pc ≡ Some (IText x y)
        → Leads code (at pc ws mem free) (at (pc + 1) (slice_set ws k (length mem)) (mem ++ (length t ∷ t)) free')
    itext y v t new free' is g e l has = step_to code N (IText x y) has (does_itext y v t new free' is g e l)

    pub no_itext : (y v : ℕ) (t : List ℕ) → int_text v ≡ t → slice_get (front ++ ws) y ≡ Some v → length free < suc (length t) → slice_get code pc ≡ Some (IText x y) → RunsOut code (at pc ws mem free)
    no_itext y v t is g short has =
        let s = at pc ws mem free in
        let t' = int_text v in
        let same : length (int_text v) ≡ length t = ap length is in
        let none : nat_le (length mem + 1 + length (int_text v)) (length (mem ++ free)) ≡ false = lt-leb _ _ (omega (arith, same, length-append mem free)) in
        let there : nat_lt (length f.lower + x) (length (f.lower ++ (front ++ ws))) ≡ true = lt-ltb _ _ (steps.has C M A f pc (front ++ ws) mem free x (room ws k x here lt)) in
        cut code N NoHeap s (IText x y) has
        (ap (λ b. check b NoStack s (with_slot s y (written s x))) there
        ∙ ap (λ o. with_word o s (written s x)) (steps.holds C M A f pc (front ++ ws) mem free y v g)
        ∙ ap (λ b. check b NoHeap s (Goes (next (record (put s x (length mem)) { memory = write_at (mem ++ free) (length mem) (length (int_text v) ∷ int_text v); limit = length mem + 1 + length (int_text v) })))) none)

  module _ (pc : ℕ) (ws mem free : List ℕ) where
    abbrev pub jmp : (target : ℕ) → slice_get code pc ≡ Some (Jmp target) → Leads code (at pc ws mem free) (at target ws mem free)
    jmp target has = step_to code N (Jmp target) has (steps.does_jmp C M A f pc (front ++ ws) mem free target)

    abbrev pub brz_zero : (x target : ℕ) → slice_get (front ++ ws) x ≡ Some 0 → slice_get code pc ≡ Some (Brz x target) → Leads code (at pc ws mem free) (at target ws mem free)
    brz_zero x target e has = step_to code N (Brz x target) has (steps.does_brz_zero C M A f pc (front ++ ws) mem free x target e)

    abbrev pub brz : (x target v : ℕ) → slice_get (front ++ ws) x ≡ Some v → 0 < v → slice_get code pc ≡ Some (Brz x target) → Leads code (at pc ws mem free) (at (pc + 1) ws mem free)
    brz x target v e lt has = step_to code N (Brz x target) has (steps.does_brz C M A f pc (front ++ ws) mem free x target v e lt)

    -- a word of the newest words
    pub st : (new : List ℕ) (x c y v : ℕ) → f.base ≤ length mem → c < length new → slice_get (front ++ ws) x ≡ Some (length mem) → slice_get (front ++ ws) y ≡ Some v
        → slice_get code pc ≡ Some (St x c y) → Leads code (at pc ws (mem ++ new) free) (at (pc + 1) ws (mem ++ slice_set new c v) free)
    st new x c y v low lt e g has = step_to code N (St x c y) has (steps.does_st M f pc (front ++ ws) mem new free x c y v low lt e g)

    -- words of the memory to the newest words
    pub copy : (don junk1 junk2 part : List ℕ) (a b c y x : ℕ) → f.base ≤ length mem → y ≡ length mem + length don → length junk1 ≡ length part → x ≤ length mem → BytesIn mem part x
        → slice_get (front ++ ws) a ≡ Some y → slice_get (front ++ ws) b ≡ Some x → slice_get (front ++ ws) c ≡ Some (length part) → slice_get code pc ≡ Some (Copy a b c)
        → Leads code (at pc ws (mem ++ (don ++ (junk1 ++ junk2))) free) (at (pc + 1) ws (mem ++ (don ++ (part ++ junk2))) free)
    copy don junk1 junk2 part a b c y x low y_is l1 within bytes at_y at_x at_n has =
        let n = length part in
        let big = mem ++ (don ++ (junk1 ++ junk2)) in
        let s = at pc ws big free in
        let size : length big ≡ length mem + (length don + (length junk1 + length junk2)) = omega (arith, length-append mem (don ++ (junk1 ++ junk2)), length-append don (junk1 ++ junk2), length-append junk1 junk2) in
        let end = bytes_end mem part x within bytes in
        let read : nat_le (x + n) (length big) ≡ true = le-leb _ _ (omega arith) in
        let from_base : nat_le f.base y ≡ true = le-leb _ _ (omega arith) in
        let write : nat_le (y + n) (length big) ≡ true = le-leb _ _ (omega arith) in
        let may : may_copy s x y n ≡ true = or_right (n == 0) (nat_le (x + n) (length big) && (nat_le f.base y && nat_le (y + n) (length big)))
        (and_from (nat_le (x + n) (length big)) (nat_le f.base y && nat_le (y + n) (length big)) read (and_from (nat_le f.base y) (nat_le (y + n) (length big)) from_base write)) in
        let taken : take n (drop x (big ++ free)) ≡ part = take_bytes (big ++ free) part x (bytes_more big free part x (bytes_more mem (don ++ (junk1 ++ junk2)) part x bytes)) in
        let new = mem ++ (don ++ (part ++ junk2)) in
        let same : length big ≡ length new = omega (arith, size, length-append mem (don ++ (part ++ junk2)), length-append don (part ++ junk2), length-append part junk2) in
        step_to code N (Copy a b c) has
        (M.copy s a b c y x n (steps.holds C M A f pc (front ++ ws) big free a y at_y) (steps.holds C M A f pc (front ++ ws) big free b x at_x) (steps.holds C M A f pc (front ++ ws) big free c n at_n) may
        ∙ ap (λ z. Goes (next (record s { memory = write_at (big ++ free) y z }))) taken
        ∙ ap (λ z. Goes (next (record s { memory = z }))) (copied mem don junk1 junk2 part free y y_is l1)
        ∙ ap (λ z. Goes (record s { pc = pc + 1; memory = new ++ free; limit = z })) same)
