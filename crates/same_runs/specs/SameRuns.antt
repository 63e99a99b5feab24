-- A meaning and the runs of a machine end alike.
use Rattle.std.specs.Prelude.{◌≡◌, ◌≢◌, ℕ, ◌⊎◌, List}
use Rattle.mlc_runs.specs.Outcome.{Outcome}
use Rattle.mlc_runs.specs.Outcome as source
use Rattle.ir_code.specs.Run.{RunResult}
use Rattle.ir_code.specs.Run as machine
pub use Rattle.mlc_runs.specs.MoreTurns.{IsPrefix}

-- an end of the program itself, the same on both sides: an exception by its identifier's text
pub data SameEnd (text_of : ℕ → List ℕ) : source.End → machine.End → Type 0 where
  both_ended : SameEnd text_of source.ended machine.ended
  both_uncaught : (identifier : ℕ) {text : List ℕ} → text_of identifier ≡ text → SameEnd text_of (source.uncaught identifier) (machine.uncaught text)

-- the program itself ended
pub data IsOver : source.End → Type 0 where
  by_itself : IsOver source.ended
  by_exception : (identifier : ℕ) → IsOver (source.uncaught identifier)

pub data HasEnded : machine.End → Type 0 where
  by_itself : HasEnded machine.ended
  by_exception : (text : List ℕ) → HasEnded (machine.uncaught text)

-- the heap or the stack was not enough
pub data IsExhausted : machine.End → Type 0 where
  of_heap : IsExhausted machine.no_heap
  of_stack : IsExhausted machine.no_stack

-- one output and one end
pub record SameResult (text_of : ℕ → List ℕ) (o : Outcome) (r : RunResult) : Type 0 where
  pub output : r.output ≡ o.output
  pub end : SameEnd text_of o.end r.end

-- a meaning, by turns, and the runs of a machine, by steps
pub record SameRuns (text_of : ℕ → List ℕ) (means : ℕ → Outcome) (run : ℕ → RunResult) : Type 0 where
  -- where the program ends, the machine does so, with the same output and exception, unless it is exhausted after a prefix of the output
  pub meaning_ends : (m : ℕ) → IsOver (means m).end →
      ((n : ℕ) × SameResult text_of (means m) (run n))
      ⊎ ((n : ℕ) × IsExhausted (run n).end × IsPrefix (run n).output (means m).output)
  -- and where the machine ends, the program does so
  pub run_ends : (n : ℕ) → HasEnded (run n).end → (m : ℕ) × SameResult text_of (means m) (run n)
  -- where the machine goes on, the program comes to its output, and the other way round
  pub run_goes_on : (n : ℕ) → (run n).end ≡ machine.going → (m : ℕ) × IsPrefix (run n).output (means m).output
  pub meaning_goes_on : (m : ℕ) → (means m).end ≡ source.going →
      ((n : ℕ) × IsPrefix (means m).output (run n).output)
      ⊎ ((n : ℕ) × IsExhausted (run n).end)
  -- nothing goes wrong, and what an exhausted machine wrote the program writes
  pub never_stuck : (n : ℕ) → (run n).end ≢ machine.stuck
  pub never_wrong : (m : ℕ) → (means m).end ≢ source.wrong
  pub exhausted_after_prefix : (n : ℕ) → IsExhausted (run n).end → (m : ℕ) × IsPrefix (run n).output (means m).output
