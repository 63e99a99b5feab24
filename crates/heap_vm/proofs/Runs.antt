-- A run in the middle.
use Rattle.std.proofs.Common.{◌≡◌, ℕ, ◌+◌, ◌-◌, ◌<◌, ◌≤◌, List, [], ◌++◌, refl, ap, sym, ◌∙◌, arith, Option, None, Some, append_assoc, take, drop, subst}
use Rattle.std.proofs.lemmas.List.{take-append-drop}
use Rattle.mlc_outside.specs.Faults.{Rose}
use Rattle.mlc_outside.specs.Sink.{adds}
use Rattle.ir_code.specs.declared.instr.Instr.{Instr}
use Rattle.ir_code.specs.declared.halt.Halt.{Halt}
use Rattle.ir_code.specs.declared.halt.Halt.TheVariants.{Ended as at_end, Uncaught as at_packet, NoHeap as at_heap, NoStack as at_stack, Stuck as at_wrong}
use Rattle.ir_code.specs.Machine.{State, StepResult, Goes, Prints, Halts, Ran, next, step, then_on, run}
use Rattle.ir_code.specs.Laws.{IsSound, StepKeeps, go_on}
use Rattle.ir_code.proofs.Keeps.{step_keeps}
use Rattle.ir_code.proofs.Runs.{run-add, run-step, run-none, run-stopped, run_grows}
use Rattle.heap_vm.specs.declared.stop.Stop.TheVariants.{Steps}
use Rattle.heap_vm.specs.Loaded.{halt_stop}
use Rattle.heap_vm.specs.Went.{Went, Whole, Cut}
use Rattle.heap_vm.proofs.Sinks.{adds-append, adds-none, rose_after}

-- so many steps were made, so many are left, and what they wrote was taken
pub record OnTheWay (code : List Instr) (from : State) (steps left : ℕ) (s : State) (old now : Option (List ℕ)) (before faults : ℕ) : Type 0 where
  pub made : ℕ
  pub all : made + left ≡ steps
  pub sofar : List ℕ
  pub came_to : run code made from [] ≡ record { state = s; out = sofar; halt = None }
  pub sent : now ≡ adds old sofar
  pub kept : before ≤ faults

-- one step more
run-next : (code : List Instr) (n : ℕ) (from s : State) (out : List ℕ) (r : StepResult) → run code n from [] ≡ record { state = s; out = out; halt = None } → r ≡ step code s → run code (n + 1) from [] ≡ then_on r (run code 0) out
run-next code n from s out r e h = run-add code n 1 from [] ∙ ap (go_on code 1) e ∙ run-step code 0 s out r (sym h)

pub way_starts : (code : List Instr) (from : State) (steps : ℕ) (old : Option (List ℕ)) (before : ℕ) → OnTheWay code from steps steps from old old before before
way_starts code from steps old before = record { made = 0; all = omega arith; sofar = []; came_to = run-none code from []; sent = sym (adds-none old); kept = omega arith }

pub way_goes : {code : List Instr} {from : State} {steps : ℕ} {s : State} {old now : Option (List ℕ)} {before faults : ℕ} (left : ℕ) (t : State) → OnTheWay code from steps left s old now before faults → 0 < left → Goes t ≡ step code s → OnTheWay code from steps (left - 1) t old now before faults
way_goes {code} {from} {steps} {s} left t way lt e = record {
  made = way.made + 1;
  all = omega (arith, way.all);
  sofar = way.sofar;
  came_to = run-next code way.made from s way.sofar (Goes t) way.came_to e ∙ run-none code t way.sofar;
  sent = way.sent;
  kept = way.kept;
}

-- a step that writes, where all was taken
pub way_prints : {code : List Instr} {from : State} {steps : ℕ} {s : State} {old now later : Option (List ℕ)} {before faults more : ℕ} (left : ℕ) (t : State) (text : List ℕ) → OnTheWay code from steps left s old now before faults → 0 < left → Prints text t ≡ step code s → later ≡ adds now text → faults ≤ more → OnTheWay code from steps (left - 1) t old later before more
way_prints {code} {from} {steps} {s} {old} left t text way lt e w l = record {
  made = way.made + 1;
  all = omega (arith, way.all);
  sofar = way.sofar ++ text;
  came_to = run-next code way.made from s way.sofar (Prints text t) way.came_to e ∙ run-none code t (way.sofar ++ text);
  sent = w ∙ ap (λ o. adds o text) way.sent ∙ adds-append old way.sofar text;
  kept = omega (arith, way.kept);
}

next-injective : (s t : State) → next s ≡ next t → s ≡ t
next-injective s t e =
    let p : s.pc ≡ t.pc = let q : s.pc + 1 ≡ t.pc + 1 = ap (λ (u : State). u.pc) e in omega arith in
    ap (λ (u : State). record u { pc = s.pc }) e ∙ ap (λ q. record t { pc = q }) p

-- a machine that prints stands where it stood
stands : (code : List Instr) (s t : State) (text : List ℕ) → IsSound s → Prints text (next t) ≡ step code s → t ≡ s
stands code s t text h e =
    let P : StepResult → Type 0 = λ r. StepKeeps s r in
    next-injective t s (subst P (sym e) (step_keeps code s h))

-- a step that writes, where a part was taken
pub way_cut : {code : List Instr} {from : State} {steps : ℕ} {s : State} {old now later : Option (List ℕ)} {before faults more : ℕ} (left : ℕ) (t : State) (text : List ℕ) (k : ℕ) → OnTheWay code from steps left s old now before faults → 0 < left → IsSound s → Prints text (next t) ≡ step code s → later ≡ adds now (take k text) → faults ≤ more → Rose faults more → Cut code from steps t old later before more
way_cut {code} {from} {steps} {s} {old} left t text k way lt h e w l rose =
    let same : t ≡ s = stands code s t text h e in
    let here : run code way.made from [] ≡ record { state = t; out = way.sofar; halt = None } = rw same way.came_to in
    let past = run-next code way.made from s way.sofar (Prints text (next t)) way.came_to e ∙ run-none code (next t) (way.sofar ++ text) in
    let count : (way.made + 1) + (left - 1) ≡ steps = omega (arith, way.all) in
    let more = run_grows code (way.made + 1) (left - 1) from [] in
    let whole : (run code steps from []).out ≡ (way.sofar ++ text) ++ more.0 = ap (λ n. (run code n from []).out) (sym count) ∙ more.1 ∙ ap (λ (r : Ran). r.out ++ more.0) past in
    let split : text ≡ take k text ++ drop k text = sym (take-append-drop k text) in
    let part : (way.sofar ++ text) ++ more.0 ≡ (way.sofar ++ take k text) ++ (drop k text ++ more.0) = ap (λ x. (way.sofar ++ x) ++ more.0) split ∙ simp append_assoc in
    record {
      rose = rose_after _ _ _ way.kept rose;
      kept = omega (arith, way.kept);
      made = way.made;
      fewer = omega (arith, way.all);
      sofar = way.sofar;
      came_to = here;
      text = text;
      at_print = ap (λ u. step code u) same ∙ sym e;
      taken = k;
      wrote = w ∙ ap (λ o. adds o (take k text)) way.sent ∙ adds-append old way.sofar (take k text);
      rest = drop k text ++ more.0;
      part = whole ∙ part;
    }

-- a step that ends the run
way_halts : {code : List Instr} {from : State} {steps : ℕ} {s : State} {old now : Option (List ℕ)} {before faults : ℕ} (left : ℕ) (t : State) (h : Halt) → OnTheWay code from steps left s old now before faults → 0 < left → Halts h t ≡ step code s → Whole (halt_stop h) (run code steps from []) t old now before faults
way_halts {code} {from} {steps} {s} left t h way lt e =
    let past = run-next code way.made from s way.sofar (Halts h t) way.came_to e in
    let count : (way.made + 1) + (left - 1) ≡ steps = omega (arith, way.all) in
    let stays = run-stopped code (way.made + 1) (left - 1) from [] h (ap (λ (r : Ran). r.halt) past) in
    let whole : run code steps from [] ≡ record { state = t; out = way.sofar; halt = Some h } = ap (λ n. run code n from []) (sym count) ∙ stays ∙ past in
    rw whole (record { stopped = refl; came_to = refl; wrote = way.sent; kept = way.kept })

-- no step left
pub way_over : {code : List Instr} {from : State} {steps : ℕ} {s : State} {old now : Option (List ℕ)} {before faults : ℕ} (left : ℕ) → OnTheWay code from steps left s old now before faults → left ≡ 0 → Whole Steps (run code steps from []) s old now before faults
way_over {code} {from} {steps} {s} left way e =
    let count : way.made ≡ steps = omega (arith, way.all) in
    let whole : run code steps from [] ≡ record { state = s; out = way.sofar; halt = None } = ap (λ n. run code n from []) (sym count) ∙ way.came_to in
    rw whole (record { stopped = refl; came_to = refl; wrote = way.sent; kept = way.kept })

-- by the halt
pub went_halts : {code : List Instr} {from : State} {steps : ℕ} {s : State} {old now : Option (List ℕ)} {before faults : ℕ} (left : ℕ) (t : State) (h : Halt) → OnTheWay code from steps left s old now before faults → 0 < left → Halts h t ≡ step code s → Went (halt_stop h) code from steps t old now before faults
went_halts left t at_end way lt e = way_halts left t at_end way lt e
went_halts left t at_packet way lt e = way_halts left t at_packet way lt e
went_halts left t at_heap way lt e = way_halts left t at_heap way lt e
went_halts left t at_stack way lt e = way_halts left t at_stack way lt e
went_halts left t at_wrong way lt e = way_halts left t at_wrong way lt e
