use Rattle.std.proofs.Common.{◌≡◌, ◌<◌, ℕ}
use Rattle.elab_state.specs.Namings.{number_in}
use Rattle.final_types.specs.Names.{after}
use Rattle.final_types.proofs.names.Names.settled.Given as goal

abbrev pub invariant-loop-current : goal.invariant-loop-current
invariant-loop-current l = (x : ℕ) → x < l.bound → number_in l.self.namings.now l.fn.naming x ≡ number_in l.self.namings.now l.current x

abbrev pub decreases-loop-current : goal.decreases-loop-current
decreases-loop-current l = after l.current
