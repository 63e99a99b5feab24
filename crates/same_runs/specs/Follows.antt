-- What is said of a machine by a meaning at one number of turns, and that it is enough to say it at each.
use Rattle.std.specs.Prelude.{◌≡◌, ◌≢◌, ℕ, ◌≤◌, List}
use Rattle.mlc_runs.specs.Outcome.{Outcome}
use Rattle.mlc_runs.specs.Outcome as source
use Rattle.ir_code.specs.Program.{Program}
use Rattle.ir_code.specs.Run.{RunResult, run_of}
use Rattle.ir_code.specs.Run as machine
use Rattle.same_runs.specs.SameRuns.{IsPrefix, IsExhausted, SameResult, SameRuns}

-- After some steps the machine has ended as the meaning has; or it goes on as the meaning does, after at least as many steps as there were turns; or it is
-- exhausted, after a part of the output. Of a meaning that is wrong nothing is said.
pub data Follows (text_of : ℕ → List ℕ) (run : ℕ → RunResult) (m : ℕ) (o : Outcome) : Type 0 where
  has_ended : (n : ℕ) → SameResult text_of o (run n) → Follows text_of run m o
  is_going : (n : ℕ) → m ≤ n → o.end ≡ source.going → (run n).end ≡ machine.going → (run n).output ≡ o.output → Follows text_of run m o
  is_cut : (n : ℕ) → IsExhausted (run n).end → IsPrefix (run n).output o.output → Follows text_of run m o
  is_wrong : o.end ≡ source.wrong → Follows text_of run m o

abbrev pub FollowsIsSame : Type 0
FollowsIsSame =
    (text_of : ℕ → List ℕ) (means : ℕ → Outcome) (program : Program) (heap stack : ℕ) → ((m : ℕ) → (means m).end ≢ source.wrong)
    → ((m : ℕ) → Follows text_of (run_of program heap stack) m (means m)) → SameRuns text_of means (run_of program heap stack)
