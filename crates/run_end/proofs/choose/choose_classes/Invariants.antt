use Rattle.std.proofs.Common.{◌≡◌, ◌<◌, ◌≤◌, ℕ}
use Rattle.elab_state.specs.States.{said_in}
use Rattle.elab_steps.specs.Growing.{Grows}
use Rattle.run_end.specs.Chosen.{IsChosen}
use Rattle.run_end.proofs.choose.choose_classes.Given as goal

abbrev pub invariant-loop-v : goal.invariant-loop-v
invariant-loop-v l = record {
  grows : Grows l.fn.state l.state;
  next : l.state.next ≡ l.fn.state.next;
  chosen : (x : ℕ) → l.fn.first ≤ x → x < l.v → IsChosen l.fn.state l.state x;
  ahead : (x : ℕ) → l.v ≤ x → said_in l.state x ≡ said_in l.fn.state x;
}
