use Rattle.prog_tree.specs.TreeOf.{tree_of}
use Rattle.exp_steps.proofs.calls.push_beginning.Goals as goal

pub returns : goal.returns
returns c = c.in_ok-name.ensures (λ R. tree_of R c.args.function.now) _ c.in_ok-push_weights.ensures
