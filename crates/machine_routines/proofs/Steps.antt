-- What single instructions do to a state in a frame of five words and those above.
use Rattle.std.proofs.Common.{◌≡◌, ℕ, ◌+◌, ◌<◌, ◌≤◌, List, ◌++◌, length, Some, true, false, sym, ap, ◌∙◌, arith, append_assoc, length-append}
use Rattle.std.specs.Prelude.{slice_get, slice_set, nat_lt, nat_le, min}
use Rattle.std.specs.Cmp.Lexicographic.{slice_cmp}
use Rattle.std.specs.Ordering.{nat_cmp}
use Rattle.std.proofs.lemmas.Bool.{lt-ltb, lt-leb}
use Rattle.std.proofs.lemmas.List.{set-append_left, length-set}
use Rattle.ir_code.specs.declared.instr.Instr.{Instr}
use Rattle.ir_code.specs.declared.instr.Instr.TheVariants.{Li, Mov, Jmp, Brz, Switch, Ret, Alloc, Ld, St, Eq, SCmp}
use Rattle.ir_code.specs.declared.halt.Halt.TheVariants.{NoHeap, NoStack}
use Rattle.ir_code.specs.Words.{same_word, order_code}
use Rattle.ir_code.specs.Machine.{State, Goes, Halts, act, string_at, check, next, put}
use Rattle.ir_code.specs.Laws.{HasSlot, Holds, ControlLaws, MemoryLaws, ArithmeticLaws, Total}
use Rattle.machine_routines.specs.Layout.{Word, TextAt, Shows}
use Rattle.machine_routines.specs.Runs.{Frame, inside, returned}
use Rattle.machine_routines.proofs.Seams.{get_left, get_right, set_right, get_within, index_of}
use Rattle.machine_routines.proofs.LayoutLemmas.{text_string}

module _ (C : ControlLaws) (M : MemoryLaws) (A : ArithmeticLaws) (f : Frame) (pc : ℕ) (ws m free : List ℕ) where
  abbrev s : State
  s = inside f pc ws m free

  -- the slot has a new word
  abbrev pub with_slot : ℕ → ℕ → State
  with_slot k v = inside f (pc + 1) (slice_set ws k v) m free

  pub holds : (k v : ℕ) → slice_get ws k ≡ Some v → Holds s k v
  holds k v e = get_right f.lower ws k ∙ e

  pub has : (k : ℕ) → k < length ws → HasSlot s k
  has k h = omega (arith, h, length-append f.lower ws)

  puts : (k v : ℕ) → (let t : State = next (put s k v) in t) ≡ with_slot k v
  puts k v = ap (λ st. record s { pc = pc + 1; stack = st }) (set_right f.lower ws k v)

  pub does_li : (k v : ℕ) → k < length ws → act s (Li k v) ≡ Goes (with_slot k v)
  does_li k v h = C.li s k v (has k h) ∙ ap Goes (puts k v)

  pub does_mov : (k x v : ℕ) → k < length ws → slice_get ws x ≡ Some v → act s (Mov k x) ≡ Goes (with_slot k v)
  does_mov k x v h e = C.mov s k x v (has k h) (holds x v e) ∙ ap Goes (puts k v)

  pub does_eq : (k x y v w : ℕ) → k < length ws → slice_get ws x ≡ Some v → slice_get ws y ≡ Some w → act s (Eq k x y) ≡ Goes (with_slot k (same_word v w))
  does_eq k x y v w h e g = A.eq s k x y v w (has k h) (holds x v e) (holds y w g) ∙ ap Goes (puts k (same_word v w))

  pub does_two : (row : ℕ → ℕ → ℕ → Instr) (g : ℕ → ℕ → ℕ) → Total row g → (k x y v w : ℕ) → k < length ws → slice_get ws x ≡ Some v → slice_get ws y ≡ Some w
      → act s (row k x y) ≡ Goes (with_slot k (g v w))
  does_two row g law k x y v w h e i = law s k x y v w (has k h) (holds x v e) (holds y w i) ∙ ap Goes (puts k (g v w))

  pub does_ld : (k x c v y : ℕ) → k < length ws → slice_get ws x ≡ Some v → slice_get m (v + c) ≡ Some y → act s (Ld k x c) ≡ Goes (with_slot k y)
  does_ld k x c v y h e g =
      M.ld s k x c v (has k h) (holds x v e) (get_within m (v + c) y g)
      ∙ ap (λ z. Goes (next (put s k z))) (index_of (m ++ free) (v + c) y (get_left m free (v + c) y g))
      ∙ ap Goes (puts k y)

  pub does_scmp : (lay : List Word) (k x y v w : ℕ) (t u : List ℕ) → k < length ws → slice_get ws x ≡ Some v → slice_get ws y ≡ Some w → Shows lay m
      → TextAt lay t v → TextAt lay u w → act s (SCmp k x y) ≡ Goes (with_slot k (order_code (slice_cmp nat_cmp t u)))
  does_scmp lay k x y v w t u h e g show i j =
      let a = text_string lay m free t v show i in let b = text_string lay m free u w show j in
      M.scmp s k x y v w (has k h) (holds x v e) (holds y w g) a.1 b.1
      ∙ ap (λ z. Goes (next (put s k (order_code (slice_cmp nat_cmp z (string_at (m ++ free) w)))))) a.0
      ∙ ap (λ z. Goes (next (put s k (order_code (slice_cmp nat_cmp t z))))) b.0
      ∙ ap Goes (puts k (order_code (slice_cmp nat_cmp t u)))

  pub does_jmp : (q : ℕ) → act s (Jmp q) ≡ Goes (inside f q ws m free)
  does_jmp q = C.jmp s q

  pub does_brz_zero : (x q : ℕ) → slice_get ws x ≡ Some 0 → act s (Brz x q) ≡ Goes (inside f q ws m free)
  does_brz_zero x q e = C.brz_taken s x q (holds x 0 e)

  pub does_brz : (x q v : ℕ) → slice_get ws x ≡ Some v → 0 < v → act s (Brz x q) ≡ Goes (inside f (pc + 1) ws m free)
  does_brz x q v e h = C.brz_passed s x q v (holds x v e) h

  pub does_switch : (x n v : ℕ) → slice_get ws x ≡ Some v → act s (Switch x n) ≡ Goes (inside f (pc + 1 + min v n) ws m free)
  does_switch x n v e = C.switch s x n v (holds x v e)

  pub does_ret : (x v back frame : ℕ) → slice_get ws x ≡ Some v → slice_get ws 0 ≡ Some back → slice_get ws 1 ≡ Some frame
      → act s (Ret x) ≡ Goes (returned f back frame v ws m free)
  does_ret x v back frame e g h = C.ret s x v back frame (holds x v e) (holds 0 back g) (holds 1 frame h)

  -- new words, where there are so many
  pub does_alloc : (k n : ℕ) (new free' : List ℕ) → k < length ws → free ≡ new ++ free' → length new ≡ n
      → act s (Alloc k n) ≡ Goes (inside f (pc + 1) (slice_set ws k (length m)) (m ++ new) free')
  does_alloc k n new free' h e l =
      let room : length m + n ≤ length (m ++ free) = omega (arith, length-append m free, ap length e, length-append new free') in
      let whole : m ++ free ≡ (m ++ new) ++ free' = ap (λ z. m ++ z) e ∙ sym (append_assoc m new free') in
      let size : length m + n ≡ length (m ++ new) = omega (arith, length-append m new) in
      M.alloc s k n (has k h) room
      ∙ ap (λ t. Goes (record t { limit = length m + n })) (puts k (length m))
      ∙ ap (λ z. Goes (record (with_slot k (length m)) { limit = z })) size
      ∙ ap (λ z. Goes (record (with_slot k (length m)) { limit = length (m ++ new); memory = z })) whole

  pub no_words : (k n : ℕ) → k < length ws → length free < n → act s (Alloc k n) ≡ Halts NoHeap s
  no_words k n h lt =
      let none : nat_le (length m + n) (length (m ++ free)) ≡ false = lt-leb _ _ (omega (arith, length-append m free)) in
      let there : nat_lt (length f.lower + k) (length (f.lower ++ ws)) ≡ true = lt-ltb _ _ (has k h) in
      ap (λ b. check b NoStack s (check (nat_le (length m + n) (length (m ++ free))) NoHeap s
      (Goes (next (record (put s k (length m)) { limit = length m + n }))))) there
      ∙ ap (λ b. check b NoHeap s (Goes (next (record (put s k (length m)) { limit = length m + n })))) none

-- a word of the newest words
pub does_st : (M : MemoryLaws) (f : Frame) (pc : ℕ) (ws m new free : List ℕ) (x c y v : ℕ) → f.base ≤ length m → c < length new
    → slice_get ws x ≡ Some (length m) → slice_get ws y ≡ Some v
    → act (inside f pc ws (m ++ new) free) (St x c y) ≡ Goes (inside f (pc + 1) ws (m ++ slice_set new c v) free)
does_st M f pc ws m new free x c y v low lt e g =
    let s = inside f pc ws (m ++ new) free in
    let inside_new : length m + c < length (m ++ new) = omega (arith, length-append m new) in
    let set : slice_set ((m ++ new) ++ free) (length m + c) v ≡ (m ++ slice_set new c v) ++ free =
    set-append_left (m ++ new) free (length m + c) v inside_new ∙ ap (λ z. z ++ free) (set_right m new c v) in
    let size : length (m ++ new) ≡ length (m ++ slice_set new c v) =
    omega (arith, length-append m new, length-append m (slice_set new c v), length-set new c v) in
    M.st s x c y (length m) v (get_right f.lower ws x ∙ e) (get_right f.lower ws y ∙ g) (omega arith) inside_new
    ∙ ap (λ z. Goes (record s { pc = pc + 1; memory = z })) set
    ∙ ap (λ z. Goes (record s { pc = pc + 1; memory = (m ++ slice_set new c v) ++ free; limit = z })) size
