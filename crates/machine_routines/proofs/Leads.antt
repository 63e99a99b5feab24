-- Runs from one state to another, with no output.
use Rattle.std.proofs.Common.{◌≡◌, suc, ◌+◌, List, Some, ap, ◌∙◌, arith}
use Rattle.std.specs.Prelude.{slice_get}
use Rattle.ir_code.specs.declared.instr.Instr.{Instr}
use Rattle.ir_code.specs.declared.halt.Halt.{Halt}
use Rattle.ir_code.specs.declared.halt.Halt.TheVariants.{NoHeap}
use Rattle.ir_code.specs.Machine.{State, Goes, Halts, act, run}
use Rattle.ir_code.specs.Laws.{NextLaws}
use Rattle.machine_routines.specs.Runs.{Leads, CutBy, RunsOut}

module _ (code : List Instr) where
  abbrev pub stays_here : (s : State) → Leads code s s
  stays_here s = record { steps = 0; by = λ k o. let n : 0 + k ≡ k = omega arith in ap (λ j. run code j s o) n }

  abbrev pub trans : {s t u : State} → Leads code s t → Leads code t u → Leads code s u
  trans {s} a b = record {
    steps = a.steps + b.steps;
    by = λ k o. let n : a.steps + b.steps + k ≡ a.steps + (b.steps + k) = omega arith in ap (λ j. run code j s o) n ∙ a.by (b.steps + k) o ∙ b.by k o;
  }

  pub out_after : {s t : State} {h : Halt} → Leads code s t → CutBy code h t → CutBy code h s
  out_after a r = record { steps = a.steps + r.steps; state = r.state; is = λ o. a.by r.steps o ∙ r.is o }

  module _ (laws : NextLaws) where
    abbrev pub step_to : {s t : State} (i : Instr) → slice_get code s.pc ≡ Some i → act s i ≡ Goes t → Leads code s t
    step_to {s} {t} i e a = record { steps = 1; by = λ k o. let n : 1 + k ≡ suc k = omega arith in ap (λ j. run code j s o) n ∙ laws.goes code k s t i o e a }

    pub cut : (h : Halt) (s : State) (i : Instr) → slice_get code s.pc ≡ Some i → act s i ≡ Halts h s → CutBy code h s
    cut h s i e a = record { steps = 1; state = s; is = λ o. laws.halts code 0 s s i h o e a }

    pub no_heap : (s : State) (i : Instr) → slice_get code s.pc ≡ Some i → act s i ≡ Halts NoHeap s → RunsOut code s
    no_heap s i e a = cut NoHeap s i e a
