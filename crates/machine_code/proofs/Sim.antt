-- The machine follows what a phrase gives: from a state, in a world.
use Rattle.std.proofs.Common.{◌≡◌, ℕ, suc, ◌+◌, ◌≤◌, ◌<◌, ◌^◌, List, ◌∷◌, ◌++◌, length, Option, Some, None, ◌⊎◌, refl, sym, ap, ◌∙◌, subst, arith}
use Rattle.std.specs.Prelude.{slice_get}
use Rattle.ir_code.specs.declared.instr.Instr.{Instr}
use Rattle.ir_code.specs.declared.instr.Instr.TheVariants.{Raise}
use Rattle.ir_code.specs.declared.halt.Halt.{Halt}
use Rattle.ir_code.specs.declared.halt.Halt.TheVariants.{NoHeap, NoStack}
use Rattle.ir_code.specs.Machine.{State, Goes, Prints, Halts, act, step, then_on, run}
use Rattle.mlc_runs.specs.Run.{World, gives, raises, stops, out_of_turns, went_wrong, writes}
use Rattle.ir_ssa.specs.of_first_values.Values.{Value, Run}
use Rattle.ir_ssa.specs.Meaning.{Handler, throw, then_go}
use Rattle.machine_routines.specs.Layout.{Word, Is}
use Rattle.machine_routines.specs.Runs.{inside, returned, Leads, CutBy}
use Rattle.machine_code.specs.Agrees.{Agrees, Begins}
use Rattle.same_runs.specs.SameRuns.{IsPrefix}
use Rattle.mlc_runs.proofs.MoreTurnsLaws.{prefix-trans as prefix_trans}
use Rattle.machine_code.proofs.Grows.{out_of, Grows, HandlersGrow, throw_grows}
use Rattle.machine_code.proofs.Kept.{begins_trans}

-- a run that the heap or the stack cuts short
pub data IsExhausted : Option Halt → Type 0 where
  no_heap : IsExhausted (Some NoHeap)
  no_stack : IsExhausted (Some NoStack)

-- what stays while a function runs: the stack below it, where it returns to, and the handler of its caller
pub record Call : Type 0 where
  pub lower : List ℕ
  pub back : ℕ
  pub frame : ℕ
  pub hand : ℕ

-- the state at a place in a function: the words of its frame and above, and of the memory those in use and the others
abbrev pub state_at : ℕ → Call → ℕ → ℕ → ℕ → List ℕ → List ℕ → List ℕ → State
state_at base f hand pc acc rest mem free = inside (record { lower = f.lower; handler = hand; acc = acc; base = base }) pc (f.back ∷ f.frame ∷ rest) mem free

-- the state after a function has returned
abbrev pub back_to : ℕ → Call → ℕ → List ℕ → List ℕ → List ℕ → State
back_to base f word rest mem free = returned (record { lower = f.lower; handler = f.hand; acc = 0; base = base }) f.back f.frame word (f.back ∷ f.frame ∷ rest) mem free

module _ (text_of : ℕ → List ℕ) where
  -- the memory is as laid out
  abbrev pub Fits : List Word → List ℕ → World Value → Type 0
  Fits lay mem w = Agrees text_of lay lay mem w.store w.exceptions

module _ (text_of : ℕ → List ℕ) (code : List Instr) (base : ℕ) where
  -- the stack or the memory is larger than that of any image
  abbrev pub IsHuge : State → Type 0
  IsHuge s = (2 ^ 32 ≤ length s.stack) ⊎ (2 ^ 31 ≤ length s.memory)

  -- the machine goes from one state to another, in at least as many steps as turns are taken
  pub record Moves (s : State) (w : World Value) (t : State) (u : World Value) : Type 0 where
    pub by : (k : ℕ) → (j : ℕ) × (k + w.left ≤ j + u.left) × (run code j s w.output ≡ run code k t u.output)
    pub fewer : u.left ≤ w.left

  -- the next step raises a packet, and the handler is that of the function's caller
  pub record Raises (f : Call) (t : State) (word : ℕ) (mem : List ℕ) : Type 0 where
    pub slot : ℕ
    pub above : List ℕ
    pub free : List ℕ
    pub instruction : slice_get code t.pc ≡ Some (Raise slot)
    pub packet : slice_get t.stack (t.fp + slot) ≡ Some word
    pub hand : t.handler ≡ f.hand
    pub base_is : t.base ≡ base
    pub limit : t.limit ≡ length mem
    pub memory : t.memory ≡ mem ++ free
    pub stack : t.stack ≡ f.lower ++ above

  pub data Sim (s : State) (w : World Value) (f : Call) (lay : List Word) : Run Value → Type 0 where
    returns : (v : Value) (u : World Value) (word : ℕ) (rest mem free : List ℕ) (lay' : List Word) → Begins lay lay' → Is lay' v word → Fits text_of lay' mem u → Moves s w (back_to base f word rest mem free) u → Sim s w f lay (gives v u)
    raises_it : (p : Value) (u : World Value) (word : ℕ) (x : State) (mem : List ℕ) (lay' : List Word) → Begins lay lay' → Is lay' p word → Fits text_of lay' mem u → Raises f x word mem → Moves s w x u → Sim s w f lay (raises p u)
    goes_on : (n : ℕ) (u : World Value) → w.left ≤ n → (run code n s w.output).halt ≡ None → (run code n s w.output).out ≡ u.output → Sim s w f lay (stops out_of_turns u)
    is_cut : (n : ℕ) (r : Run Value) → IsExhausted ((run code n s w.output).halt) → IsPrefix ((run code n s w.output).out) (out_of r) → Sim s w f lay r
    is_wrong : (u : World Value) → Sim s w f lay (stops went_wrong u)
    -- no machine is so large
    is_huge : (n : ℕ) (r : Run Value) → IsHuge ((run code n s w.output).state) → Sim s w f lay r

  pub moves_on : (s t x : State) (w u y : World Value) → Moves s w t u → Moves t u x y → Moves s w x y
  moves_on s t x w u y a b = record { by = λ k. let m = b.by k in let n = a.by m.0 in (n.0, omega (arith, m.1, n.1), n.2 ∙ m.2); fewer = let p = a.fewer in let q = b.fewer in omega arith }

  pub stands_still : (s : State) (w : World Value) → Moves s w s w
  stands_still s w = record { by = λ k. (k, omega arith, refl); fewer = omega arith }

  pub before : {s t : State} {w u : World Value} {f : Call} {lay : List Word} {r : Run Value} → Moves s w t u → Sim t u f lay r → Sim s w f lay r
  before {s} {t} {w} {u} a (returns v y word rest mem free lay' p i g b) = returns v y word rest mem free lay' p i g (moves_on s t _ w u y a b)
  before {s} {t} {w} {u} a (raises_it n y word x mem lay' p i g e b) = raises_it n y word x mem lay' p i g e (moves_on s t x w u y a b)
  before {s} {t} {w} {u} a (goes_on n y le h e) =
      let j = a.by n in goes_on j.0 y (omega (arith, j.1)) (ap (λ x. x.halt) j.2 ∙ h) (ap (λ x. x.out) j.2 ∙ e)
  before {s} {t} {w} {u} a (is_cut n r h p) =
      let j = a.by n in is_cut j.0 r (subst (λ x. IsExhausted x.halt) (sym j.2) h) (subst (λ x. IsPrefix x.out (out_of r)) (sym j.2) p)
  before a (is_wrong o) = is_wrong o
  before {s} {t} {w} {u} a (is_huge n r h) = let j = a.by n in is_huge j.0 r (subst (λ x. IsHuge x.state) (sym j.2) h)

  -- less of the memory is asked for
  pub wider : {s : State} {w : World Value} {f : Call} {r : Run Value} (lay lay' : List Word) → Begins lay lay' → Sim s w f lay' r → Sim s w f lay r
  wider lay lay' k (returns v y word rest mem free new p i g b) = returns v y word rest mem free new (begins_trans lay lay' new k p) i g b
  wider lay lay' k (raises_it n y word x mem new p i g e b) = raises_it n y word x mem new (begins_trans lay lay' new k p) i g e b
  wider lay lay' k (goes_on n o le h e) = goes_on n o le h e
  wider lay lay' k (is_cut n r h p) = is_cut n r h p
  wider lay lay' k (is_wrong o) = is_wrong o
  wider lay lay' k (is_huge n r h) = is_huge n r h

  -- a call, and what comes after it
  pub then_sim : {s : State} {w : World Value} {f g : Call} {lay : List Word} {r : Run Value} (hs : List Handler) (go : Value → World Value → Run Value) → Sim s w g lay r → HandlersGrow hs → ((v : Value) (u : World Value) → Grows u (go v u))
      → ((v : Value) (u : World Value) (word : ℕ) (rest mem free : List ℕ) (lay' : List Word) → Begins lay lay' → Is lay' v word → Fits text_of lay' mem u → u.left ≤ w.left → Sim (back_to base g word rest mem free) u f lay' (go v u))
      → ((p : Value) (u : World Value) (word : ℕ) (x : State) (mem : List ℕ) (lay' : List Word) → Begins lay lay' → Is lay' p word → Fits text_of lay' mem u → Raises g x word mem → u.left ≤ w.left → Sim x u f lay' (throw hs p u))
      → Sim s w f lay (then_go hs r go)
  then_sim {lay = lay} hs go (returns v u word rest mem free lay' p i e a) hg grow h k = before a (wider lay lay' p (h v u word rest mem free lay' p i e a.fewer))
  then_sim {lay = lay} hs go (raises_it v u word x mem lay' p i e c a) hg grow h k = before a (wider lay lay' p (k v u word x mem lay' p i e c a.fewer))
  then_sim hs go (goes_on n o le h e) hg grow k l = goes_on n o le h e
  then_sim hs go (is_cut n (gives v u) h p) hg grow k l = is_cut n (go v u) h (prefix_trans _ _ _ p (grow v u))
  then_sim hs go (is_cut n (raises v u) h p) hg grow k l = is_cut n (throw hs v u) h (prefix_trans _ _ _ p (throw_grows hs v u hg))
  then_sim hs go (is_cut n (stops c u) h p) hg grow k l = is_cut n (stops c u) h p
  then_sim hs go (is_wrong o) hg grow k l = is_wrong o
  then_sim hs go (is_huge n r h) hg grow k l = is_huge n (then_go hs r go) h

  -- one instruction
  pub one : {s t : State} (w u : World Value) (i : Instr) → slice_get code s.pc ≡ Some i → act s i ≡ Goes t → u.left ≡ w.left → u.output ≡ w.output → Moves s w t u
  unfolding run
  one {s} {t} w u i e a same out =
      let g : step code s ≡ Goes t = rw e a in
      record {
        by = λ k. (suc k, omega arith, ap (λ led. then_on led (run code k) w.output) g ∙ ap (run code k t) (sym out));
        fewer = omega arith;
      }

  pub one_print : {s t : State} (w : World Value) (i : Instr) (bytes : List ℕ) → slice_get code s.pc ≡ Some i → act s i ≡ Prints bytes t → Moves s w t (writes bytes w)
  unfolding run
  one_print {s} {t} w i bytes e a =
      let g : step code s ≡ Prints bytes t = rw e a in
      record {
        by = λ k. (suc k, omega arith, ap (λ led. then_on led (run code k) w.output) g);
        fewer = omega arith;
      }

  -- some instructions
  pub some : {s t : State} (w : World Value) → Leads code s t → Moves s w t w
  some {s} {t} w a = record { by = λ k. (a.steps + k, omega arith, a.by k w.output); fewer = omega arith }

  -- one turn, which some instructions pay for
  pub paid : {s t : State} (w u : World Value) → u.output ≡ w.output → suc u.left ≡ w.left → (a : Leads code s t) → 0 < a.steps → Moves s w t u
  paid {s} {t} w u out e a pos = record { by = λ k. (a.steps + k, omega arith, a.by k w.output ∙ ap (λ o. run code k t o) (sym out)); fewer = omega arith }

  -- a machine that is too large at this place
  pub huge_here : {s : State} {w : World Value} {f : Call} {lay : List Word} (r : Run Value) → IsHuge s → Sim s w f lay r
  unfolding run
  huge_here r h = is_huge 0 r h

  pub cut : {s : State} {w : World Value} {f : Call} {lay : List Word} (i : Instr) (h : Halt) (r : Run Value) → IsExhausted (Some h) → slice_get code s.pc ≡ Some i → act s i ≡ Halts h s → Grows w r → Sim s w f lay r
  unfolding run
  cut {s} {w} i h r x e a p =
      let g : step code s ≡ Halts h s = rw e a in
      let q : run code 1 s w.output ≡ record { state = s; out = w.output; halt = Some h } = ap (λ led. then_on led (run code 0) w.output) g in
      is_cut 1 r (subst (λ y. IsExhausted y.halt) (sym q) x) (subst (λ y. IsPrefix y.out (out_of r)) (sym q) p)

  pub cut_by : {s : State} {w : World Value} {f : Call} {lay : List Word} (h : Halt) (r : Run Value) → IsExhausted (Some h) → CutBy code h s → Grows w r → Sim s w f lay r
  cut_by {s} {w} h r x c p =
      let q = c.is w.output in
      is_cut c.steps r (subst (λ y. IsExhausted y.halt) (sym q) x) (subst (λ y. IsPrefix y.out (out_of r)) (sym q) p)
