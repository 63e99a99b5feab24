-- A run that tells exceptions by some texts tells them by others that are the same where they are told.
use Rattle.std.proofs.Common.{◌≡◌, refl, ℕ, List, sym, ◌∙◌, inl, inr, ⊎_elim}
use Rattle.mlc_runs.specs.Outcome as source
use Rattle.ir_code.specs.Run.{RunResult}
use Rattle.ir_code.specs.Run as machine
use Rattle.ir_ssa.specs.Meaning.{meaning}
use Rattle.same_runs.specs.SameRuns.{SameEnd, both_ended, both_uncaught, SameResult}
use Rattle.ssa_exceptions.specs.Uncaught.{UncaughtIsMade}
use Rattle.ssa_exceptions.specs.Texts.{TextsOfMadeAreEnough}

module _ (text_of text_in : ℕ → List ℕ) where
  same-end : (e : source.End) (f : machine.End) → ((i : ℕ) → e ≡ source.uncaught i → text_of i ≡ text_in i) → SameEnd text_of e f → SameEnd text_in e f
  same-end _ _ h both_ended = both_ended
  same-end _ _ h (both_uncaught i t) = both_uncaught i (sym (h i refl) ∙ t)

  same-result : (o : source.Outcome) (r : RunResult) → ((i : ℕ) → o.end ≡ source.uncaught i → text_of i ≡ text_in i) → SameResult text_of o r → SameResult text_in o r
  same-result o r h s = record { output = s.output; end = same-end o.end r.end h s.end }

pub texts-are-enough : UncaughtIsMade → TextsOfMadeAreEnough
texts-are-enough made p text_of text_in run same s = record {
  meaning_ends = λ m over. ⊎_elim (λ l. inl (l.0, same-result text_of text_in (meaning p m) (run l.0) (λ i e. same i (made p m i e)) l.1)) (λ r. inr r) (s.meaning_ends m over);
  run_ends = λ n over.
      let l = s.run_ends n over in
      (l.0, same-result text_of text_in (meaning p l.0) (run n) (λ i e. same i (made p l.0 i e)) l.1);
  run_goes_on = s.run_goes_on;
  meaning_goes_on = s.meaning_goes_on;
  never_stuck = s.never_stuck;
  never_wrong = s.never_wrong;
  exhausted_after_prefix = s.exhausted_after_prefix;
}
