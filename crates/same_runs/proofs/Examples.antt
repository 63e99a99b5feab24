-- Two runs of one instruction and their meanings, by computation.
use Rattle.std.proofs.Common.{ℕ, [], ◌∷◌, refl}
use Rattle.mlc_runs.specs.Outcome.{Outcome}
use Rattle.mlc_runs.specs.Outcome as source
use Rattle.ir_code.specs.declared.instr.Instr.TheVariants.{End, Call}
use Rattle.ir_code.specs.Machine.{run}
use Rattle.ir_code.specs.Program.{Program}
use Rattle.ir_code.specs.Run.{run_of}
use Rattle.same_runs.specs.SameRuns.{both_ended, of_stack}
use Rattle.same_runs.specs.Follows.{Follows, has_ended, is_cut}

abbrev stops : Program
stops = record { constants = []; code = End ∷ [] }

abbrev calls : Program
calls = record { constants = []; code = Call 0 0 ∷ [] }

ends_at_once : (m : ℕ) → Follows (λ i. []) (run_of stops 0 0) m (record { output = []; end = source.ended; turns = [] })
unfolding run
ends_at_once m = has_ended 1 (record { output = refl; end = both_ended })

-- a frame needs two words of the stack
stops_short : (o : Outcome) → Follows (λ i. []) (run_of calls 0 1) 0 o
unfolding run
stops_short o = is_cut 1 of_stack (o.output, refl)
