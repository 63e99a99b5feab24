use Rattle.std.proofs.Common.{◌≡◌, sum_by, take}
use Rattle.exp_weights.specs.Nodes.{capped}
use Rattle.exp_weights.specs.Sums.{dec_nodes}
use Rattle.exp_weights.proofs.decs.+decs.Given as goal

abbrev pub invariant-decs_nodes-loop-i : goal.invariant-decs_nodes-loop-i
invariant-decs_nodes-loop-i l = l.nodes ≡ capped (sum_by dec_nodes (take l.i l.decs))
