-- A machine that follows a meaning at each number of turns does the same.
use Rattle.std.proofs.Common.{◌≡◌, ◌≢◌, ℕ, ◌+◌, ◌-◌, ◌≤◌, ◌⊎◌, inl, inr, List, ap, subst, sym, ◌∙◌, arith, ⊎_elim}
use Rattle.std.proofs.lemmas.Bool.{cases_lt}
use Rattle.mlc_runs.specs.Outcome.{Outcome}
use Rattle.mlc_runs.specs.Outcome as source
use Rattle.ir_code.specs.Run.{RunResult}
use Rattle.ir_code.specs.Run as machine
use Rattle.mlc_runs.proofs.MoreTurnsLaws.{prefix-refl, prefix-trans}
use Rattle.same_runs.specs.SameRuns.{IsPrefix, SameEnd, both_ended, both_uncaught, IsOver, HasEnded, IsExhausted, of_heap, of_stack, SameResult, SameRuns}
use Rattle.same_runs.specs.SameRuns as same
use Rattle.same_runs.specs.Follows.{Follows, has_ended, is_going, is_cut, is_wrong}

not_over : {e : source.End} → IsOver e → e ≢ source.going
not_over same.IsOver.by_itself h = cc
not_over (same.IsOver.by_exception n) h = cc

not_wrong : {e : source.End} → IsOver e → e ≢ source.wrong
not_wrong same.IsOver.by_itself h = cc
not_wrong (same.IsOver.by_exception n) h = cc

ended_not_going : {e : machine.End} → HasEnded e → e ≢ machine.going
ended_not_going same.HasEnded.by_itself h = cc
ended_not_going (same.HasEnded.by_exception t) h = cc

exhausted_not_going : {e : machine.End} → IsExhausted e → e ≢ machine.going
exhausted_not_going of_heap h = cc
exhausted_not_going of_stack h = cc

exhausted_not_stuck : {e : machine.End} → IsExhausted e → e ≢ machine.stuck
exhausted_not_stuck of_heap h = cc
exhausted_not_stuck of_stack h = cc

exhausted_not_ended : {e : machine.End} → IsExhausted e → HasEnded e → ⊥
exhausted_not_ended of_heap h = elim h [ ]
exhausted_not_ended of_stack h = elim h [ ]

same_over : {text_of : ℕ → List ℕ} {e : source.End} {f : machine.End} → SameEnd text_of e f → IsOver e × HasEnded f
same_over both_ended = (same.IsOver.by_itself, same.HasEnded.by_itself)
same_over (both_uncaught n {text = t} h) = (same.IsOver.by_exception n, same.HasEnded.by_exception t)

ended_not_stuck : {e : machine.End} → HasEnded e → e ≢ machine.stuck
ended_not_stuck same.HasEnded.by_itself h = cc
ended_not_stuck (same.HasEnded.by_exception t) h = cc

stuck_not_going : {e : machine.End} → e ≡ machine.stuck → e ≢ machine.going
stuck_not_going h k = let g : machine.stuck ≡ machine.going = sym h ∙ k in cc

equal_prefix : (a b : List ℕ) → a ≡ b → IsPrefix a b
equal_prefix a b e = subst (IsPrefix a) e (prefix-refl a)

module _ (text_of : ℕ → List ℕ) (means : ℕ → Outcome) (run : ℕ → RunResult) (right : (m : ℕ) → (means m).end ≢ source.wrong)
    (end_stays : (n m : ℕ) → (run n).end ≢ machine.going → run (n + m) ≡ run n)
    (output_grows : (n m : ℕ) → IsPrefix (run n).output (run (n + m)).output) where
  later : (n m : ℕ) → n ≤ m → (run n).end ≢ machine.going → run m ≡ run n
  later n m le h = let e : n + (m - n) ≡ m = omega arith in sym (ap run e) ∙ end_stays n (m - n) h

  more_output : (n m : ℕ) → n ≤ m → IsPrefix (run n).output (run m).output
  more_output n m le = let e : n + (m - n) ≡ m = omega arith in subst (λ k. IsPrefix (run n).output (run k).output) e (output_grows n (m - n))

  -- a machine that stopped has the last output
  all_before : (n m : ℕ) → (run m).end ≢ machine.going → IsPrefix (run n).output (run m).output
  all_before n m h =
      ⊎_elim
      (λ lt. more_output n m (omega arith))
      (λ le. equal_prefix (run n).output (run m).output (ap (λ r. r.output) (later m n le h)))
      (cases_lt n m)

  one_end : (n m : ℕ) → (run n).end ≢ machine.going → (run m).end ≢ machine.going → run n ≡ run m
  one_end n m h k = ⊎_elim (λ lt. sym (later n m (omega arith) h)) (λ le. later m n le k) (cases_lt n m)

  not_going_later : (n m : ℕ) → n ≤ m → (run n).end ≢ machine.going → (run m).end ≡ machine.going → ⊥
  not_going_later n m le h e = h (ap (λ r. r.end) (sym (later n m le h)) ∙ e)

  over_case : (m : ℕ) → IsOver (means m).end → Follows text_of run m (means m)
      → ((n : ℕ) × SameResult text_of (means m) (run n)) ⊎ ((n : ℕ) × IsExhausted (run n).end × IsPrefix (run n).output (means m).output)
  over_case m over (has_ended n s) = inl (n, s)
  over_case m over (is_going n le e h o) = absurd (not_over over e)
  over_case m over (is_cut n x p) = inr (n, x, p)
  over_case m over (is_wrong e) = absurd (not_wrong over e)

  ended_case : (n : ℕ) → HasEnded (run n).end → Follows text_of run n (means n) → SameResult text_of (means n) (run n)
  ended_case n ended (has_ended k s) = subst (SameResult text_of (means n)) (one_end k n (ended_not_going (same_over s.end).1) (ended_not_going ended)) s
  ended_case n ended (is_going k le e h o) = absurd (not_going_later n k le (ended_not_going ended) h)
  ended_case n ended (is_cut k x p) =
      absurd (exhausted_not_ended x (subst (λ r. HasEnded r.end) (sym (one_end k n (exhausted_not_going x) (ended_not_going ended))) ended))
  ended_case n ended (is_wrong e) = absurd (right n e)

  -- the output of each run begins that of the meaning at as many turns
  begins : (n : ℕ) → Follows text_of run n (means n) → IsPrefix (run n).output (means n).output
  begins n (has_ended k s) = subst (IsPrefix (run n).output) s.output (all_before n k (ended_not_going (same_over s.end).1))
  begins n (is_going k le e h o) = subst (IsPrefix (run n).output) o (more_output n k le)
  begins n (is_cut k x p) = prefix-trans (run n).output (run k).output (means n).output (all_before n k (exhausted_not_going x)) p
  begins n (is_wrong e) = absurd (right n e)

  going_case : (m : ℕ) → (means m).end ≡ source.going → Follows text_of run m (means m)
      → ((n : ℕ) × IsPrefix (means m).output (run n).output) ⊎ ((n : ℕ) × IsExhausted (run n).end)
  going_case m going (has_ended n s) = absurd (not_over (same_over s.end).0 going)
  going_case m going (is_going n le e h o) = inl (n, equal_prefix (means m).output (run n).output (sym o))
  going_case m going (is_cut n x p) = inr (n, x)
  going_case m going (is_wrong e) = absurd (right m e)

  stuck_case : (n : ℕ) → (run n).end ≡ machine.stuck → Follows text_of run n (means n) → ⊥
  stuck_case n stuck (has_ended k s) =
      ended_not_stuck (same_over s.end).1 (ap (λ r. r.end) (one_end k n (ended_not_going (same_over s.end).1) (stuck_not_going stuck)) ∙ stuck)
  stuck_case n stuck (is_going k le e h o) = not_going_later n k le (stuck_not_going stuck) h
  stuck_case n stuck (is_cut k x p) = exhausted_not_stuck x (ap (λ r. r.end) (one_end k n (exhausted_not_going x) (stuck_not_going stuck)) ∙ stuck)
  stuck_case n stuck (is_wrong e) = right n e

  pub same_runs : ((m : ℕ) → Follows text_of run m (means m)) → SameRuns text_of means run
  same_runs f = record {
    meaning_ends = λ m over. over_case m over (f m);
    run_ends = λ n ended. (n, ended_case n ended (f n));
    run_goes_on = λ n e. (n, begins n (f n));
    meaning_goes_on = λ m e. going_case m e (f m);
    never_stuck = λ n e. stuck_case n e (f n);
    never_wrong = right;
    exhausted_after_prefix = λ n e. (n, begins n (f n));
  }
