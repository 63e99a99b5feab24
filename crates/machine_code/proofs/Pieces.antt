-- Pieces of code that copy words, fill cells and put new ones, in a phrase of any meaning.
use Rattle.std.proofs.Common.{◌≡◌, ℕ, zero, suc, ◌+◌, ◌<◌, ◌≤◌, List, [], ◌∷◌, ◌++◌, length, Some, Bool, true, false, ◌&&◌, refl, sym, ap, ◌∙◌, subst, ⊎_elim, arith, append_assoc, append-nil, length-append}
use Rattle.std.specs.Prelude.{◌≢◌, slice_get, slice_set, not, ◌||◌, nat_eq, nat_lt, nat_le, if◌then◌else◌}
use Rattle.std.proofs.lemmas.Bool.{cases_lt, eqb-true, ltb-true, leb-true}
use Rattle.ir_code.specs.declared.instr.Instr.{Instr}
use Rattle.ir_code.specs.declared.instr.Instr.TheVariants.{Li, Mov, Alloc, St}
use Rattle.ir_code.specs.declared.halt.Halt.TheVariants.{NoHeap, NoStack}
use Rattle.ir_code.specs.Machine.{State, Goes}
use Rattle.ir_code.specs.Laws.{ControlLaws, MemoryLaws, ArithmeticLaws}
use Rattle.mlc_runs.specs.Run.{World}
use Rattle.ir_ssa.specs.of_first_values.Values.{Value, Run}
use Rattle.machine_routines.specs.Layout.{Word}
use Rattle.machine_routines.specs.Runs.{HasAt}
use Rattle.machine_routines.proofs.Seams.{get_left, get_here, get_within, set_here, cut_at, has_front, has_back}
use Rattle.machine_routines.proofs.Steps as steps
use Rattle.machine_code.specs.Code.{slot, one_if_true, in_order, straight_size, move_size, push_code, down_code, straight_code, move_code, fill_code}
use Rattle.machine_code.proofs.Grows.{Grows}
use Rattle.machine_code.proofs.Sim.{no_heap, no_stack, Call, state_at, Sim, before, one, cut}
use Rattle.machine_code.proofs.Slots.{Pushes, push_li, push_mov, short, does_alloc, no_alloc, does_down, F, whole}
use Rattle.machine_code.proofs.Vars.{Args, no_args, an_arg, Reads, reads_more, reads_length}

pub push_length : (d : ℕ) (xs : List ℕ) → length (push_code d xs) ≡ length xs
push_length d [] = refl
push_length d (x ∷ xs) = ap suc (push_length (suc d) xs)

pub down_length : (t d n : ℕ) → length (down_code t d n) ≡ n
down_length t d zero = refl
down_length t d (suc n) = ap suc (down_length (suc t) (suc d) n)

straight_length : (t : ℕ) (xs : List ℕ) → length (straight_code t xs) ≡ straight_size t xs
straight_length t [] = refl
straight_length t (x ∷ xs) = by (nat_eq x t) (straight_length (suc t) xs)
  where
    by : (b : Bool) → length (straight_code (suc t) xs) ≡ straight_size (suc t) xs
        → length (if b then straight_code (suc t) xs else Mov (slot t) (slot x) ∷ straight_code (suc t) xs) ≡ one_if_true (not b) + straight_size (suc t) xs
    by true e = omega arith
    by false e = omega arith

pub move_length : (d t : ℕ) (xs : List ℕ) → length (move_code d t xs) ≡ move_size t xs
move_length d t xs = by (in_order t t xs)
  where
    by : (b : Bool) → length (if b then straight_code t xs else push_code d xs ++ down_code t d (length xs)) ≡ (if b then straight_size t xs else length xs + length xs)
    by true = straight_length t xs
    by false = omega (arith, length-append (push_code d xs) (down_code t d (length xs)), push_length d xs, down_length t d (length xs))

-- What is still there when words go straight to their slots.

get_other : (front rest : List ℕ) (a b x : ℕ) → x ≢ length front → slice_get (front ++ a ∷ rest) x ≡ slice_get (front ++ b ∷ rest) x
get_other [] rest a b zero n = absurd (n refl)
get_other [] rest a b (suc x) n = refl
get_other (c ∷ front) rest a b zero n = refl
get_other (c ∷ front) rest a b (suc x) n = get_other front rest a b x (λ e. n (ap suc e))

two_true : (x y : Bool) → (x && y) ≡ true → (x ≡ true) × (y ≡ true)
two_true true y e = (refl, e)
two_true false y e = absurd (cc)

-- a word that is before the first slot, or not before the next
apart : (t k j x : ℕ) → t ≤ j → j < k → (nat_lt x t || nat_le k x) ≡ true → x ≢ j
apart t k j x le lt o = by (nat_lt x t) refl o
  where
    by : (b : Bool) → nat_lt x t ≡ b → (b || nat_le k x) ≡ true → x ≢ j
    by true e o same = let h = ltb-true x t e in omega arith
    by false e o same = let h = leb-true k x o in omega arith

reads_on : (front rest : List ℕ) (a b t k : ℕ) (xs words : List ℕ) → t ≤ length front → length front < k → in_order t k xs ≡ true
    → Reads (front ++ a ∷ rest) xs words → Reads (front ++ b ∷ rest) xs words
reads_on front rest a b t k [] [] le lt o h = tt
reads_on front rest a b t k [] (y ∷ words) le lt o h = absurd h
reads_on front rest a b t k (x ∷ xs) [] le lt o h = absurd h
reads_on front rest a b t k (x ∷ xs) (y ∷ words) le lt o h =
    let both = two_true (nat_lt x t || nat_le k x) (in_order t (suc k) xs) o in
    (sym (get_other front rest a b x (apart t k (length front) x le lt both.0)) ∙ h.0, reads_on front rest a b t (suc k) xs words le (omega arith) both.1 h.1)

pub fill_length : (d i : ℕ) (xs : List ℕ) → length (fill_code d i xs) ≡ length xs
fill_length d i [] = refl
fill_length d i (x ∷ xs) = ap suc (fill_length d (suc i) xs)

module _ (C : ControlLaws) (M : MemoryLaws) (A : ArithmeticLaws) (text_of : ℕ → List ℕ) (code : List Instr) (base : ℕ) (f : Call) (hand : ℕ) where
  abbrev at : ℕ → ℕ → List ℕ → List ℕ → List ℕ → State
  at pc acc rest mem free = state_at base f hand pc acc rest mem free

  -- an instruction that puts a word behind those of the frame
  pub push_sim : {w : World Value} {g : Call} {lay : List Word} {r : Run Value} {i : Instr} (ws above : List ℕ) (d v pc acc : ℕ) (mem free : List ℕ) → Pushes C M A base f hand pc acc mem free ws d i v → slice_get code pc ≡ Some i → length ws ≡ d → Grows w r → ((rest : List ℕ) → Sim text_of code base (at (pc + 1) acc ((ws ++ v ∷ []) ++ rest) mem free) w g lay r) → Sim text_of code base (at pc acc (ws ++ above) mem free) w g lay r
  push_sim {r = r} {i = i} ws [] d v pc acc mem free p has e grow go =
      cut text_of code base i NoStack r no_stack has (p.none (ws ++ []) (omega (arith, length-append ws []))) grow
  push_sim {w = w} {i = i} ws (a ∷ above) d v pc acc mem free p has e grow go = before text_of code base (one text_of code base w w i has (p.some a above) refl refl) (go above)

  -- variables copied behind the words of the frame
  pub copy_sim : {w : World Value} {g : Call} {lay : List Word} {r : Run Value} (xs words ws above : List ℕ) (d pc q acc : ℕ) (mem free : List ℕ) → HasAt code pc (push_code d xs) → length ws ≡ d → Reads ws xs words → pc + length xs ≡ q → Grows w r → ((rest : List ℕ) → Sim text_of code base (at q acc ((ws ++ words) ++ rest) mem free) w g lay r) → Sim text_of code base (at pc acc (ws ++ above) mem free) w g lay r
  copy_sim {w} {g} {lay} {r} [] [] ws above d pc q acc mem free has e reads end grow go =
      let p : q ≡ pc = omega arith in
      subst (λ l. Sim text_of code base (at pc acc (l ++ above) mem free) w g lay r) (append-nil ws) (subst (λ n. Sim text_of code base (at n acc ((ws ++ []) ++ above) mem free) w g lay r) p (go above))
  copy_sim [] (y ∷ words) ws above d pc q acc mem free has e reads end grow go = absurd reads
  copy_sim (x ∷ xs) [] ws above d pc q acc mem free has e reads end grow go = absurd reads
  copy_sim {w} {g} {lay} {r} (x ∷ xs) (y ∷ words) ws above d pc q acc mem free has e reads end grow go =
      push_sim ws above d y pc acc mem free (push_mov C M A base f hand pc acc mem free ws d e x y reads.0) has.0 e grow
      (λ rest. copy_sim xs words (ws ++ y ∷ []) rest (suc d) (pc + 1) q acc mem free has.1 (omega (arith, length-append ws (y ∷ []))) (reads_more ws (y ∷ []) xs words reads.1) (omega arith) grow
      (λ above'. subst (λ l. Sim text_of code base (at q acc (l ++ above') mem free) w g lay r) (sym (append_assoc ws (y ∷ []) words)) (go above')))

  -- words moved down over others
  pub down_sim : {w : World Value} {g : Call} {lay : List Word} {r : Run Value} (words pre mid above : List ℕ) (t d pc q acc : ℕ) (mem free : List ℕ) → HasAt code pc (down_code t d (length words)) → length pre ≡ t → t + length mid ≡ d → pc + length words ≡ q → ((rest : List ℕ) → Sim text_of code base (at q acc ((pre ++ words) ++ rest) mem free) w g lay r) → Sim text_of code base (at pc acc (pre ++ (mid ++ (words ++ above))) mem free) w g lay r
  down_sim {w} {g} {lay} {r} [] pre mid above t d pc q acc mem free has e l end go =
      let p : q ≡ pc = omega arith in
      subst (λ l. Sim text_of code base (at pc acc (l ++ (mid ++ above)) mem free) w g lay r) (append-nil pre) (subst (λ n. Sim text_of code base (at n acc ((pre ++ []) ++ (mid ++ above)) mem free) w g lay r) p (go (mid ++ above)))
  down_sim {w} {g} {lay} {r} (y ∷ words) pre [] above t d pc q acc mem free has e l end go =
      let at_d : slice_get (pre ++ y ∷ (words ++ above)) d ≡ Some y = let n : length pre ≡ d = omega arith in subst (λ n. slice_get (pre ++ y ∷ (words ++ above)) n ≡ Some y) n (get_here pre (words ++ above) y) in
      before text_of code base (one text_of code base w w (Mov (slot t) (slot d)) has.0 (does_down C M A base f hand pc acc mem free pre (words ++ above) y t d y e at_d) refl refl)
      (down_sim words (pre ++ y ∷ []) [] above (suc t) (suc d) (pc + 1) q acc mem free has.1 (omega (arith, length-append pre (y ∷ []))) (omega arith) (omega arith)
      (λ rest. subst (λ l. Sim text_of code base (at q acc (l ++ rest) mem free) w g lay r) (sym (append_assoc pre (y ∷ []) words)) (go rest)))
  down_sim {w} {g} {lay} {r} (y ∷ words) pre (m ∷ mid) above t d pc q acc mem free has e l end go =
      let at_d : slice_get (pre ++ m ∷ (mid ++ y ∷ (words ++ above))) d ≡ Some y =
      let n : length (pre ++ m ∷ mid) ≡ d = omega (arith, length-append pre (m ∷ mid)) in
      subst (λ n. slice_get (pre ++ m ∷ (mid ++ y ∷ (words ++ above))) n ≡ Some y) n (subst (λ k. slice_get k (length (pre ++ m ∷ mid)) ≡ Some y) (append_assoc pre (m ∷ mid) (y ∷ (words ++ above))) (get_here (pre ++ m ∷ mid) (words ++ above) y)) in
      before text_of code base (one text_of code base w w (Mov (slot t) (slot d)) has.0 (does_down C M A base f hand pc acc mem free pre (mid ++ y ∷ (words ++ above)) m t d y e at_d) refl refl)
      (subst (λ k. Sim text_of code base (at (pc + 1) acc ((pre ++ y ∷ []) ++ k) mem free) w g lay r) (append_assoc mid (y ∷ []) (words ++ above))
      (down_sim words (pre ++ y ∷ []) (mid ++ y ∷ []) above (suc t) (suc d) (pc + 1) q acc mem free has.1 (omega (arith, length-append pre (y ∷ []))) (omega (arith, length-append mid (y ∷ []))) (omega arith)
      (λ rest. subst (λ l. Sim text_of code base (at q acc (l ++ rest) mem free) w g lay r) (sym (append_assoc pre (y ∷ []) words)) (go rest))))

  -- words that go straight to the slots from k on, where those before have gone to the slots from t on
  straight_sim : {w : World Value} {g : Call} {lay : List Word} {r : Run Value} (xs words front rest : List ℕ) (t k pc q acc : ℕ) (mem free : List ℕ) → HasAt code pc (straight_code k xs) → length front ≡ k → t ≤ k → in_order t k xs ≡ true → Reads (front ++ rest) xs words → pc + straight_size k xs ≡ q → Grows w r → ((rest' : List ℕ) → Sim text_of code base (at q acc ((front ++ words) ++ rest') mem free) w g lay r) → Sim text_of code base (at pc acc (front ++ rest) mem free) w g lay r
  straight_sim {w} {g} {lay} {r} [] [] front rest t k pc q acc mem free has e le o reads end grow go =
      let p : q ≡ pc = omega arith in
      subst (λ l. Sim text_of code base (at pc acc (l ++ rest) mem free) w g lay r) (append-nil front) (subst (λ n. Sim text_of code base (at n acc ((front ++ []) ++ rest) mem free) w g lay r) p (go rest))
  straight_sim [] (y ∷ words) front rest t k pc q acc mem free has e le o reads end grow go = absurd reads
  straight_sim (x ∷ xs) [] front rest t k pc q acc mem free has e le o reads end grow go = absurd reads
  straight_sim {w} {g} {lay} {r} (x ∷ xs) (y ∷ words) front rest t k pc q acc mem free has e le o reads end grow go =
      by (nat_eq x k) refl has end rest reads.0 reads.1
      (λ pc' rest' has' end' reads'. straight_sim xs words (front ++ y ∷ []) rest' t (suc k) pc' q acc mem free has' (omega (arith, length-append front (y ∷ []))) (omega arith) both.1 reads' end' grow
      (λ above. subst (λ l. Sim text_of code base (at q acc (l ++ above) mem free) w g lay r) (sym (append_assoc front (y ∷ []) words)) (go above)))
    where
      both : ((nat_lt x t || nat_le k x) ≡ true) × (in_order t (suc k) xs ≡ true)
      both = two_true (nat_lt x t || nat_le k x) (in_order t (suc k) xs) o

      by : (b : Bool) → nat_eq x k ≡ b → HasAt code pc (if b then straight_code (suc k) xs else Mov (slot k) (slot x) ∷ straight_code (suc k) xs) → pc + (one_if_true (not b) + straight_size (suc k) xs) ≡ q
          → (rest : List ℕ) → slice_get (front ++ rest) x ≡ Some y → Reads (front ++ rest) xs words
          → ((pc' : ℕ) (rest : List ℕ) → HasAt code pc' (straight_code (suc k) xs) → pc' + straight_size (suc k) xs ≡ q → Reads ((front ++ y ∷ []) ++ rest) xs words → Sim text_of code base (at pc' acc ((front ++ y ∷ []) ++ rest) mem free) w g lay r)
          → Sim text_of code base (at pc acc (front ++ rest) mem free) w g lay r
      by true same has end [] there reads next =
          let lt = get_within (front ++ []) x y there in absurd (omega (arith, eqb-true x k same, length-append front []))
      by true same has end (z ∷ rest) there reads next =
          let n : x ≡ length front = omega (arith, eqb-true x k same) in
          let word : Some z ≡ Some y = sym (get_here front rest z) ∙ subst (λ i. slice_get (front ++ z ∷ rest) i ≡ Some y) n there in
          let is : z ≡ y = cc in
          let whole : (front ++ y ∷ []) ++ rest ≡ front ++ z ∷ rest = append_assoc front (y ∷ []) rest ∙ ap (λ i. front ++ i ∷ rest) (sym is) in
          subst (λ l. Sim text_of code base (at pc acc l mem free) w g lay r) whole (next pc rest has (omega arith) (subst (λ l. Reads l xs words) (sym whole) reads))
      by false other has end [] there reads next =
          cut text_of code base (Mov (slot k) (slot x)) NoStack r no_stack has.0 (short C M A base f hand pc acc mem free (front ++ []) k _ (omega (arith, length-append front []))) grow
      by false other has end (a ∷ rest) there reads next =
          before text_of code base (one text_of code base w w (Mov (slot k) (slot x)) has.0 (does_down C M A base f hand pc acc mem free front rest a k x y e there) refl refl)
          (next (pc + 1) rest has.1 (omega arith)
          (subst (λ l. Reads l xs words) (sym (append_assoc front (y ∷ []) rest)) (reads_on front rest a y t (suc k) xs words (omega arith) (omega arith) both.1 reads)))

  -- words that go to the slots from t on, all at once
  pub move_sim : {w : World Value} {g : Call} {lay : List Word} {r : Run Value} (xs words pre mid above : List ℕ) (d t pc q acc : ℕ) (mem free : List ℕ) → HasAt code pc (move_code d t xs) → length pre ≡ t → t + length mid ≡ d → Reads (pre ++ mid) xs words → pc + move_size t xs ≡ q → Grows w r → ((rest : List ℕ) → Sim text_of code base (at q acc ((pre ++ words) ++ rest) mem free) w g lay r) → Sim text_of code base (at pc acc ((pre ++ mid) ++ above) mem free) w g lay r
  move_sim {w} {g} {lay} {r} xs words pre mid above d t pc q acc mem free has e deep reads end grow go = by (in_order t t xs) refl has end
    where
      whole : (pre ++ mid) ++ above ≡ pre ++ (mid ++ above)
      whole = append_assoc pre mid above

      by : (b : Bool) → in_order t t xs ≡ b → HasAt code pc (if b then straight_code t xs else push_code d xs ++ down_code t d (length xs)) → pc + (if b then straight_size t xs else length xs + length xs) ≡ q → Sim text_of code base (at pc acc ((pre ++ mid) ++ above) mem free) w g lay r
      by true o has end =
          subst (λ l. Sim text_of code base (at pc acc l mem free) w g lay r) (sym whole)
          (straight_sim xs words pre (mid ++ above) t t pc q acc mem free has e (omega arith) o (subst (λ l. Reads l xs words) whole (reads_more (pre ++ mid) above xs words reads)) end grow go)
      by false o has end =
          let n : length words ≡ length xs = reads_length (pre ++ mid) xs words reads in
          let has_down = has_back code pc (pc + length xs) (push_code d xs) (down_code t d (length xs)) (omega (arith, push_length d xs)) has in
          copy_sim xs words (pre ++ mid) above d pc (pc + length xs) acc mem free (has_front code pc (push_code d xs) (down_code t d (length xs)) has) (omega (arith, length-append pre mid)) reads refl grow
          (λ rest. subst (λ l. Sim text_of code base (at (pc + length xs) acc l mem free) w g lay r) (sym (append_assoc (pre ++ mid) words rest ∙ append_assoc pre mid (words ++ rest)))
          (down_sim words pre mid rest t d (pc + length xs) q acc mem free (subst (λ z. HasAt code (pc + length xs) (down_code t d z)) (sym n) has_down) e deep (omega arith) go))

  -- a word of a new cell
  pub store_sim : {w : World Value} {g : Call} {lay : List Word} {r : Run Value} (rest mem don js free : List ℕ) (j d i x v pc acc : ℕ) → slice_get code pc ≡ Some (St (slot d) i (slot x)) → base ≤ length mem → length don ≡ i → slice_get rest d ≡ Some (length mem) → slice_get rest x ≡ Some v → Sim text_of code base (at (pc + 1) acc rest (mem ++ (don ++ v ∷ js)) free) w g lay r → Sim text_of code base (at pc acc rest (mem ++ (don ++ j ∷ js)) free) w g lay r
  store_sim {w} {g} {lay} {r} rest mem don js free j d i x v pc acc has low l e h go =
      let new = don ++ j ∷ js in
      let set : slice_set new i v ≡ don ++ v ∷ js = subst (λ n. slice_set new n v ≡ don ++ v ∷ js) l (set_here don js j v) in
      before text_of code base (one text_of code base w w (St (slot d) i (slot x)) has
      (steps.does_st M (F C M A base f hand pc acc mem free) pc (whole C M A base f hand pc acc mem free rest) mem new free (slot d) i (slot x) v low (omega (arith, length-append don (j ∷ js))) e h
      ∙ ap (λ z. Goes (at (pc + 1) acc rest (mem ++ z) free)) set) refl refl) go

  -- variables into a new cell
  pub fill_sim : {w : World Value} {g : Call} {lay lay0 : List Word} {r : Run Value} {xs : List ℕ} {vs : List Value} {words : List ℕ} (rest mem don junk : List ℕ) (d i pc q acc : ℕ) (free : List ℕ) → HasAt code pc (fill_code d i xs) → base ≤ length mem → length don ≡ i → slice_get rest d ≡ Some (length mem) → Args lay0 rest xs vs words → length junk ≡ length xs → pc + length xs ≡ q → Sim text_of code base (at q acc rest (mem ++ (don ++ words)) free) w g lay r → Sim text_of code base (at pc acc rest (mem ++ (don ++ junk)) free) w g lay r
  fill_sim {w} {g} {lay} {lay0} {r} rest mem don [] d i pc q acc free has low l e no_args n end go =
      let p : q ≡ pc = omega arith in subst (λ k. Sim text_of code base (at k acc rest (mem ++ (don ++ [])) free) w g lay r) p go
  fill_sim rest mem don (j ∷ junk) d i pc q acc free has low l e no_args n end go = absurd (omega arith)
  fill_sim rest mem don [] d i pc q acc free has low l e (an_arg x v y h k args) n end go = absurd (omega arith)
  fill_sim {w} {g} {lay} {lay0} {r} rest mem don (j ∷ junk) d i pc q acc free has low l e (an_arg x v y {ys = words} h k args) n end go =
      store_sim rest mem don junk free j d i x y pc acc has.0 low l e h
      (subst (λ z. Sim text_of code base (at (pc + 1) acc rest (mem ++ z) free) w g lay r) (append_assoc don (y ∷ []) junk)
      (fill_sim {lay0 = lay0} rest mem (don ++ y ∷ []) junk d (suc i) (pc + 1) q acc free has.1 low (omega (arith, length-append don (y ∷ []))) e args (omega arith) (omega arith)
      (subst (λ z. Sim text_of code base (at q acc rest (mem ++ z) free) w g lay r) (sym (append_assoc don (y ∷ []) words)) go)))

  -- a new cell of n words
  pub alloc_sim : {w : World Value} {g : Call} {lay : List Word} {r : Run Value} (ws above mem free : List ℕ) (d n pc acc : ℕ) → slice_get code pc ≡ Some (Alloc (slot d) n) → length ws ≡ d → Grows w r → ((junk rest free' : List ℕ) → length junk ≡ n → Sim text_of code base (at (pc + 1) acc ((ws ++ length mem ∷ []) ++ rest) (mem ++ junk) free') w g lay r) → Sim text_of code base (at pc acc (ws ++ above) mem free) w g lay r
  alloc_sim {r = r} ws [] mem free d n pc acc has e grow go = cut text_of code base (Alloc (slot d) n) NoStack r no_stack has (short C M A base f hand pc acc mem free (ws ++ []) d _ (omega (arith, length-append ws []))) grow
  alloc_sim {w} {g} {lay} {r} ws (a ∷ above) mem free d n pc acc has e grow go =
      ⊎_elim
      (λ lt. cut text_of code base (Alloc (slot d) n) NoHeap r no_heap has (no_alloc C M A base f hand pc acc mem free ws d e a n above lt) grow)
      (λ le. let c = cut_at n free le in
      before text_of code base (one text_of code base w w (Alloc (slot d) n) has (does_alloc C M A base f hand pc acc mem free ws d e a n above c.0 c.1 c.2 c.3) refl refl)
      (go c.0 above c.1 c.3))
      (cases_lt (length free) n)

  -- .. the first of which is a constant
  pub tagged_sim : {w : World Value} {g : Call} {lay : List Word} {r : Run Value} (ws above mem free : List ℕ) (d n t pc acc : ℕ) → HasAt code pc (Alloc (slot d) (suc n) ∷ Li (slot (suc d)) t ∷ St (slot d) 0 (slot (suc d)) ∷ []) → base ≤ length mem → length ws ≡ d → Grows w r → ((junk rest free' : List ℕ) → length junk ≡ n → Sim text_of code base (at (pc + 3) acc ((ws ++ length mem ∷ []) ++ (t ∷ rest)) (mem ++ t ∷ junk) free') w g lay r) → Sim text_of code base (at pc acc (ws ++ above) mem free) w g lay r
  tagged_sim {w} {g} {lay} {r} ws above mem free d n t pc acc has low e grow go = alloc_sim ws above mem free d (suc n) pc acc has.0 e grow filled
    where
      filled : (junk rest free' : List ℕ) → length junk ≡ suc n → Sim text_of code base (at (pc + 1) acc ((ws ++ length mem ∷ []) ++ rest) (mem ++ junk) free') w g lay r
      filled [] rest free' l = absurd (omega arith)
      filled (j ∷ junk) rest free' l =
          let ws' = ws ++ length mem ∷ [] in
          let deep' : length ws' ≡ suc d = omega (arith, length-append ws (length mem ∷ [])) in
          push_sim ws' rest (suc d) t (pc + 1) acc (mem ++ j ∷ junk) free' (push_li C M A base f hand (pc + 1) acc (mem ++ j ∷ junk) free' ws' (suc d) deep' t) has.1.0 deep' grow
          (λ rest'.
          let words = (ws' ++ t ∷ []) ++ rest' in
          let at_d : slice_get words d ≡ Some (length mem) = get_left (ws' ++ t ∷ []) rest' d (length mem) (get_left ws' (t ∷ []) d (length mem) (subst (λ n. slice_get ws' n ≡ Some (length mem)) e (get_here ws [] (length mem)))) in
          let at_t : slice_get words (suc d) ≡ Some t = get_left (ws' ++ t ∷ []) rest' (suc d) t (subst (λ n. slice_get (ws' ++ t ∷ []) n ≡ Some t) deep' (get_here ws' [] t)) in
          let p : pc + 1 + 1 + 1 ≡ pc + 3 = omega arith in
          store_sim words mem [] junk free' j d 0 (suc d) t (pc + 1 + 1) acc has.1.1.0 low refl at_d at_t
          (subst (λ z. Sim text_of code base (at z acc words (mem ++ t ∷ junk) free') w g lay r) (sym p)
          (subst (λ z. Sim text_of code base (at (pc + 3) acc z (mem ++ t ∷ junk) free') w g lay r) (sym (append_assoc ws' (t ∷ []) rest'))
          (go junk rest' free' (omega arith)))))
