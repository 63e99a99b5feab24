-- What is known at a place in a function: its variables, its labels and its handler.
use Rattle.std.proofs.Common.{◌≡◌, ℕ, zero, suc, ◌+◌, ◌<◌, ◌≤◌, ◌^◌, List, [], ◌∷◌, ◌++◌, length, Option, Some, None, refl, sym, ap, ◌∙◌, subst, arith, append_assoc, length-append, get_or}
use Rattle.std.specs.Prelude.{slice_get, slice_index}
use Rattle.ir_code.specs.declared.instr.Instr.{Instr}
use Rattle.ir_code.specs.declared.instr.Instr.TheVariants.{Raise, PopHandler}
use Rattle.ir_code.specs.Machine.{State, Goes, act, run}
use Rattle.ir_code.specs.Laws.{ControlLaws, MemoryLaws, ArithmeticLaws}
use Rattle.mlc_runs.specs.Run.{World, stops, went_wrong, turn_from}
use Rattle.ir_ssa.specs.of_first_values.Values.{Value, Run, Env}
use Rattle.mlc_base.specs.declared.place.Place.{Place}
use Rattle.ir_ssa.specs.Meaning.{Onward, Handler, throw, go_to, at_top}
use Rattle.machine_routines.specs.Layout.{Word, Is}
use Rattle.machine_routines.specs.Runs.{HasAt, Leads}
use Rattle.machine_routines.proofs.Seams.{get_left, get_here, get_right, index_of, get_within}
use Rattle.machine_code.specs.Agrees.{AreAll, Begins}
use Rattle.machine_code.specs.Code.{slot, Scope, Spot, no_spot, leave_code}
use Rattle.same_runs.specs.SameRuns.{IsPrefix}
use Rattle.mlc_runs.proofs.MoreTurnsLaws.{prefix-trans as prefix_trans}
use Rattle.machine_code.proofs.Grows.{AllGrow, HandlersGrow}
use Rattle.machine_code.proofs.RoutineLaws.{RoutineLaws}
use Rattle.machine_code.proofs.Kept.{begins_refl, begins_trans}
use Rattle.machine_code.proofs.Sim.{Call, state_at, Fits, Sim, raises_it, goes_on, is_wrong, before, one, paid, stands_still}
use Rattle.machine_code.proofs.Slots.{does_pop_handler}
use Rattle.machine_code.proofs.Vars.{Scoped}

-- a packet goes to the handler whose record is in the stack
does_raise : (C : ControlLaws) (s : State) (x v old p fp : ℕ) → slice_get s.stack (s.fp + x) ≡ Some v → s.handler + 1 < 2 ^ 32 → slice_get s.stack s.handler ≡ Some old → slice_get s.stack (s.handler + 1) ≡ Some p → slice_get s.stack (s.handler + 2) ≡ Some fp → act s (Raise x) ≡ Goes (record s { acc = v; handler = old; pc = p; fp = fp })
does_raise C s x v old p fp e n a b c =
    C.raise_caught s x v e (λ z. omega arith) (get_within s.stack (s.handler + 2) fp c)
    ∙ ap (λ z. Goes (record s { acc = v; handler = z; pc = slice_index s.stack (s.handler + 1); fp = slice_index s.stack (s.handler + 2) })) (index_of s.stack s.handler old a)
    ∙ ap (λ z. Goes (record s { acc = v; handler = old; pc = z; fp = slice_index s.stack (s.handler + 2) })) (index_of s.stack (s.handler + 1) p b)
    ∙ ap (λ z. Goes (record s { acc = v; handler = old; pc = p; fp = z })) (index_of s.stack (s.handler + 2) fp c)

-- the handler that is there once a record is left, or none is
abbrev pub Leaves : ℕ → ℕ → List ℕ → Option ℕ → Type 0
Leaves hand old ws None = old ≡ hand
Leaves hand old ws (Some a) = slice_get ws a ≡ Some old

pub leaves_more : (hand old : ℕ) (ws ws' : List ℕ) (o : Option ℕ) → IsPrefix ws ws' → Leaves hand old ws o → Leaves hand old ws' o
leaves_more hand old ws ws' None p h = h
leaves_more hand old ws ws' (Some a) p h = subst (λ z. slice_get z a ≡ Some old) (sym p.1) (get_left ws p.0 a old h)

module _ (C : ControlLaws) (M : MemoryLaws) (A : ArithmeticLaws) (N : RoutineLaws) (text_of : ℕ → List ℕ) (code : List Instr) (first_lay : List Word) where
  abbrev base : ℕ
  base = length first_lay

  -- a block, known by what it does from its place: with these words of the frame, and its arguments behind them
  pub record IsLabel (most : ℕ) (f : Call) (hand : ℕ) (lay : List Word) (ws : List ℕ) (l : Spot) (k : Onward) : Type 0 where
    pub pre : List ℕ
    pub old : ℕ
    pub deep : length pre ≡ l.depth
    pub here : IsPrefix pre ws
    pub leaves : Leaves hand old ws l.leaves
    pub goes : (by_turn : Option Place) (vs : List Value) (words : List ℕ) (w : World Value) (acc : ℕ) (above mem free : List ℕ) (lay' : List Word) (s : State) → Begins lay lay' → AreAll lay' vs words → Fits text_of lay' mem w → w.left ≤ most
        → (a : Leads code s (state_at base f old l.place acc ((pre ++ words) ++ above) mem free)) → 0 < a.steps → Sim text_of code base s w f lay' (k by_turn vs w)

  pub data AreLabels (most : ℕ) (f : Call) (hand : ℕ) (lay : List Word) (ws : List ℕ) : List Spot → List Onward → Type 0 where
    no_labels : AreLabels most f hand lay ws [] []
    a_label : (l : Spot) (k : Onward) {ls : List Spot} {ks : List Onward} → IsLabel most f hand lay ws l k → AreLabels most f hand lay ws ls ks → AreLabels most f hand lay ws (l ∷ ls) (k ∷ ks)

  pub label_kept : (most less : ℕ) (f : Call) (hand : ℕ) (lay lay' : List Word) (ws ws' : List ℕ) (l : Spot) (k : Onward) → less ≤ most → Begins lay lay' → IsPrefix ws ws' → IsLabel most f hand lay ws l k → IsLabel less f hand lay' ws' l k
  label_kept most less f hand lay lay' ws ws' l k le p q h = record {
    pre = h.pre;
    old = h.old;
    deep = h.deep;
    here = prefix_trans h.pre ws ws' h.here q;
    leaves = leaves_more hand h.old ws ws' l.leaves q h.leaves;
    goes = λ by_turn vs words w acc above mem free new s r i g few a pos. h.goes by_turn vs words w acc above mem free new s (begins_trans lay lay' new p r) i g (omega arith) a pos;
  }

  pub labels_kept : (most less : ℕ) (f : Call) (hand : ℕ) (lay lay' : List Word) (ws ws' : List ℕ) {ls : List Spot} {ks : List Onward} → less ≤ most → Begins lay lay' → IsPrefix ws ws' → AreLabels most f hand lay ws ls ks → AreLabels less f hand lay' ws' ls ks
  labels_kept most less f hand lay lay' ws ws' le p q no_labels = no_labels
  labels_kept most less f hand lay lay' ws ws' le p q (a_label l k h hs) = a_label l k (label_kept most less f hand lay lay' ws ws' l k le p q h) (labels_kept most less f hand lay lay' ws ws' le p q hs)

  -- the label l, where there is one
  pub data LabelIn (most : ℕ) (f : Call) (hand : ℕ) (lay : List Word) (ws : List ℕ) (s : Spot) (k : Onward) : Type 0 where
    has_label : IsLabel most f hand lay ws s k → LabelIn most f hand lay ws s k
    lacks_label : s ≡ no_spot → ((by_turn : Option Place) (vs : List Value) (w : World Value) → k by_turn vs w ≡ stops went_wrong w) → LabelIn most f hand lay ws s k

  pub label_in : (most : ℕ) (f : Call) (hand : ℕ) (lay : List Word) (ws : List ℕ) {ls : List Spot} {ks : List Onward} (l : ℕ) → AreLabels most f hand lay ws ls ks → LabelIn most f hand lay ws (get_or ls l no_spot) (go_to ks l)
  label_in most f hand lay ws l no_labels = lacks_label refl (λ by_turn vs w. refl)
  label_in most f hand lay ws zero (a_label s k h hs) = has_label h
  label_in most f hand lay ws (suc l) (a_label s k h hs) = label_in most f hand lay ws l hs

  -- the innermost handler of a function: its record is in the frame, and it does this from its place
  pub record Catches (most : ℕ) (f : Call) (hand : ℕ) (lay : List Word) (ws : List ℕ) (h : Handler) : Type 0 where
    pub pre : List ℕ
    pub old : ℕ
    pub place : ℕ
    pub here : IsPrefix (pre ++ old ∷ place ∷ length f.lower ∷ []) ws
    pub is : hand ≡ length f.lower + slot (length pre)
    pub small : hand + 1 < 2 ^ 32
    pub goes : (p : Value) (w : World Value) (word a : ℕ) (above mem free : List ℕ) (lay' : List Word) → Begins lay lay' → Is lay' p word → Fits text_of lay' mem w → w.left ≤ most → Sim text_of code base (state_at base f old place word (pre ++ a ∷ above) mem free) w f lay' (h p w)

  abbrev pub HandOk : ℕ → Call → ℕ → List Word → List ℕ → List Handler → Type 0
  HandOk most f hand lay ws [] = hand ≡ f.hand
  HandOk most f hand lay ws (h ∷ hs) = Catches most f hand lay ws h

  pub hand_kept : (most less : ℕ) (f : Call) (hand : ℕ) (lay lay' : List Word) (ws ws' : List ℕ) (hs : List Handler) → less ≤ most → Begins lay lay' → IsPrefix ws ws' → HandOk most f hand lay ws hs → HandOk less f hand lay' ws' hs
  hand_kept most less f hand lay lay' ws ws' [] le p q h = h
  hand_kept most less f hand lay lay' ws ws' (k ∷ hs) le p q h = record {
    pre = h.pre;
    old = h.old;
    place = h.place;
    here = prefix_trans (h.pre ++ h.old ∷ h.place ∷ length f.lower ∷ []) ws ws' h.here q;
    is = h.is;
    small = h.small;
    goes = λ v w word a above mem free new r i g few. h.goes v w word a above mem free new (begins_trans lay lay' new p r) i g (omega arith);
  }

  -- a packet that is raised in the function, or has come to it
  pub throw_sim : (most : ℕ) (f : Call) (hand : ℕ) (lay : List Word) (ws : List ℕ) (hs : List Handler) (p : Value) (w : World Value) (word at_slot : ℕ) (x : State) (above mem free : List ℕ) → HandOk most f hand lay ws hs → Is lay p word → Fits text_of lay mem w → w.left ≤ most
      → slice_get code x.pc ≡ Some (Raise at_slot) → slice_get x.stack (x.fp + at_slot) ≡ Some word → x.handler ≡ hand → x.base ≡ base → x.limit ≡ length mem → x.memory ≡ mem ++ free → x.stack ≡ f.lower ++ (f.back ∷ f.frame ∷ (ws ++ above))
      → Sim text_of code base x w f lay (throw hs p w)
  throw_sim most f hand lay ws [] p w word at_slot x above mem free ok is agree few has packet_is hand_is base_is limit_is mem_is stack_is =
      raises_it p w word x mem lay (begins_refl lay) is agree
      (record { slot = at_slot; above = f.back ∷ f.frame ∷ (ws ++ above); free = free; instruction = has; packet = packet_is; hand = hand_is ∙ ok; base_is = base_is; limit = limit_is; memory = mem_is; stack = stack_is })
      (stands_still text_of code base x w)
  throw_sim most f hand lay ws (h ∷ hs) p w word at_slot x above mem free ok is agree few has packet_is hand_is base_is limit_is mem_is stack_is =
      let low = f.lower ++ (f.back ∷ f.frame ∷ ok.pre) in
      let fp = length f.lower in
      let rest = ok.here.0 ++ above in
      let whole : x.stack ≡ low ++ (ok.old ∷ ok.place ∷ fp ∷ rest) =
      stack_is ∙ ap (λ z. f.lower ++ (f.back ∷ f.frame ∷ z)) (ap (λ z. z ++ above) ok.here.1 ∙ append_assoc (ok.pre ++ ok.old ∷ ok.place ∷ fp ∷ []) ok.here.0 above ∙ append_assoc ok.pre (ok.old ∷ ok.place ∷ fp ∷ []) rest)
      ∙ sym (append_assoc f.lower (f.back ∷ f.frame ∷ ok.pre) (ok.old ∷ ok.place ∷ fp ∷ rest)) in
      let at_low : x.handler ≡ length low = hand_is ∙ ok.is ∙ omega (arith, length-append f.lower (f.back ∷ f.frame ∷ ok.pre)) in
      let words = ok.old ∷ ok.place ∷ fp ∷ rest in
      let first : slice_get x.stack x.handler ≡ Some ok.old = subst (λ z. slice_get z x.handler ≡ Some ok.old) (sym whole) (subst (λ n. slice_get (low ++ words) n ≡ Some ok.old) (sym at_low) (get_here low (ok.place ∷ fp ∷ rest) ok.old)) in
      let second : slice_get x.stack (x.handler + 1) ≡ Some ok.place = subst (λ z. slice_get z (x.handler + 1) ≡ Some ok.place) (sym whole) (subst (λ n. slice_get (low ++ words) (n + 1) ≡ Some ok.place) (sym at_low) (get_right low words 1)) in
      let third : slice_get x.stack (x.handler + 2) ≡ Some fp = subst (λ z. slice_get z (x.handler + 2) ≡ Some fp) (sym whole) (subst (λ n. slice_get (low ++ words) (n + 2) ≡ Some fp) (sym at_low) (get_right low words 2)) in
      let small : x.handler + 1 < 2 ^ 32 = subst (λ n. n + 1 < 2 ^ 32) (sym hand_is) ok.small in
      let to = state_at base f ok.old ok.place word (ok.pre ++ ok.old ∷ ok.place ∷ fp ∷ rest) mem free in
      let same : record x { acc = word; handler = ok.old; pc = ok.place; fp = fp } ≡ to =
      ap (λ z. record x { acc = word; handler = ok.old; pc = ok.place; fp = fp; stack = z }) (whole ∙ append_assoc f.lower (f.back ∷ f.frame ∷ ok.pre) words)
      ∙ ap (λ z. record to { base = z; limit = x.limit; memory = x.memory }) base_is
      ∙ ap (λ z. record to { limit = z; memory = x.memory }) limit_is
      ∙ ap (λ z. record to { memory = z }) mem_is in
      before text_of code base (one text_of code base w w (Raise at_slot) has (does_raise C x at_slot word ok.old ok.place fp packet_is small first second third) refl refl)
      (subst (λ z. Sim text_of code base z w f lay (h p w)) (sym same) (ok.goes p w word ok.old (ok.place ∷ fp ∷ rest) mem free lay (begins_refl lay) is agree few))

  -- what is known where a body begins
  pub record Here (fuel most : ℕ) (f : Call) (hand : ℕ) (env : Env) (scope : Scope) (ws : List ℕ) (ls : List Spot) (ks : List Onward) (hs : List Handler) (d : ℕ) (lay : List Word) (mem : List ℕ) (w : World Value) : Type 0 where
    pub bounded : most ≤ fuel
    pub few : w.left ≤ most
    pub kept : Begins first_lay lay
    pub vars : Scoped lay ws scope env
    pub deep : length ws ≡ d
    pub labels : AreLabels most f hand lay ws ls ks
    pub grow : AllGrow ks
    pub handlers : HandlersGrow hs
    pub hand_ok : HandOk most f hand lay ws hs
    pub fits : Fits text_of lay mem w

  -- more words of the frame, and more memory
  pub moved : {fuel most : ℕ} {f : Call} {hand : ℕ} {env : Env} {scope : Scope} {ws : List ℕ} {ls : List Spot} {ks : List Onward} {hs : List Handler} {d : ℕ} {lay : List Word} {mem : List ℕ} {w : World Value} (u : World Value) (lay' : List Word) (mem' ys : List ℕ) (env' : Env) (scope' : Scope) (d' : ℕ) → Here fuel most f hand env scope ws ls ks hs d lay mem w → Begins lay lay' → Scoped lay' (ws ++ ys) scope' env' → Fits text_of lay' mem' u → u.left ≤ most → length (ws ++ ys) ≡ d' → Here fuel most f hand env' scope' (ws ++ ys) ls ks hs d' lay' mem' u
  moved {fuel} {most} {f} {hand} {env} {scope} {ws} {ls} {ks} {hs} {d} {lay} {mem} {w} u lay' mem' ys env' scope' d' h p vars fits few n = record {
    bounded = h.bounded;
    few = few;
    kept = begins_trans first_lay lay lay' h.kept p;
    vars = vars;
    deep = n;
    labels = labels_kept most most f hand lay lay' ws (ws ++ ys) (omega arith) p (ys, refl) h.labels;
    grow = h.grow;
    handlers = h.handlers;
    hand_ok = hand_kept most most f hand lay lay' ws (ws ++ ys) hs (omega arith) p (ys, refl) h.hand_ok;
    fits = fits;
  }

  -- where the function has no handler
  pub top_sim : {s : State} {w : World Value} {f : Call} {lay : List Word} {hand : ℕ} (most : ℕ) (ws : List ℕ) (hs : List Handler) (r : Run Value) → HandOk most f hand lay ws hs → (hand ≡ f.hand → Sim text_of code base s w f lay r) → Sim text_of code base s w f lay (at_top hs w r)
  top_sim most ws [] r ok h = h ok
  top_sim {w = w} most ws (k ∷ hs) r ok h = is_wrong w

  -- a turn, which some steps pay for
  pub turn_sim : (n : ℕ) (p : Place) (w : World Value) (s t : State) (f : Call) (lay : List Word) (go : World Value → Run Value) → w.left ≡ n → (a : Leads code s t) → 0 < a.steps → ((j : ℕ) → suc j ≡ n → Sim text_of code base t (record w { left = j; taken = w.taken ++ p ∷ [] }) f lay (go (record w { left = j; taken = w.taken ++ p ∷ [] }))) → Sim text_of code base s w f lay (turn_from n p w go)
  unfolding run
  turn_sim zero p w s t f lay go e a pos h = goes_on 0 w (omega arith) refl refl
  turn_sim (suc n) p w s t f lay go e a pos h = before text_of code base (paid text_of code base w (record w { left = n; taken = w.taken ++ p ∷ [] }) refl (sym e) a pos) (h n refl)

  -- a record of a handler is left, or none
  pub leave_sim : {w : World Value} {g : Call} {lay : List Word} {r : Run Value} (f : Call) (hand old : ℕ) (ws rest mem free : List ℕ) (o : Option ℕ) (pc q acc : ℕ) → Leaves hand old ws o → HasAt code pc (leave_code o) → pc + length (leave_code o) ≡ q → Sim text_of code base (state_at base f old q acc (ws ++ rest) mem free) w g lay r → Sim text_of code base (state_at base f hand pc acc (ws ++ rest) mem free) w g lay r
  leave_sim {w} {g} {lay} {r} f hand old ws rest mem free None pc q acc h has e go =
      let n : q ≡ pc = omega arith in
      subst (λ z. Sim text_of code base (state_at base f z pc acc (ws ++ rest) mem free) w g lay r) h (subst (λ z. Sim text_of code base (state_at base f old z acc (ws ++ rest) mem free) w g lay r) n go)
  leave_sim {w} {g} {lay} {r} f hand old ws rest mem free (Some a) pc q acc h has e go =
      let n : pc + 1 ≡ q = omega arith in
      before text_of code base (one text_of code base w w (PopHandler (slot a)) has.0 (does_pop_handler C M A base f hand pc acc mem free (ws ++ rest) a old (get_left ws rest a old h)) refl refl)
      (subst (λ z. Sim text_of code base (state_at base f old z acc (ws ++ rest) mem free) w g lay r) (sym n) go)
