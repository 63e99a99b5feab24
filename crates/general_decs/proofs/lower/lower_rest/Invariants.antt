use Rattle.std.proofs.Common.{◌≡◌}
use Rattle.elab_steps.specs.Growing.{Grows}
use Rattle.general_decs.proofs.lower.lower_rest.Given as goal

abbrev pub invariant-loop-v : goal.invariant-loop-v
invariant-loop-v l = record {
  grows : Grows l.fn.state l.state;
  next : l.state.next ≡ l.fn.state.next;
}
