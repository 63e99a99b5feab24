use Rattle.std.proofs.Common.{◌≡◌, ◌≤◌, Some}
use Rattle.elab_state.specs.States.{limit_in, said_in}
use Rattle.general_vals.specs.Closing.{collected}
use Rattle.general_vals.proofs.close.parameters_from.Given as goal

abbrev pub invariant-loop-v : goal.invariant-loop-v
invariant-loop-v l = record {
  reached : l.first ≤ l.v;
  so_far : collected (said_in l.state) (limit_in l.state) l.level l.first l.v ≡ Some l.parameters.items;
}
