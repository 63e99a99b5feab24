use Rattle.std.proofs.Common.{◌≡◌, sum_by, take}
use Rattle.exp_weights.specs.Nodes.{capped}
use Rattle.exp_weights.specs.Sums.{pat_field_nodes, pat_nodes, pat_part_nodes}
use Rattle.exp_weights.proofs.pats.+pats.Given as goal

abbrev pub invariant-fields_nodes-loop-i : goal.invariant-fields_nodes-loop-i
invariant-fields_nodes-loop-i l = l.nodes ≡ capped (sum_by pat_field_nodes (take l.i l.fields))

abbrev pub invariant-pats_nodes-loop-i : goal.invariant-pats_nodes-loop-i
invariant-pats_nodes-loop-i l = l.nodes ≡ capped (sum_by pat_nodes (take l.i l.parts))

abbrev pub invariant-chain_nodes-loop-i : goal.invariant-chain_nodes-loop-i
invariant-chain_nodes-loop-i l = l.nodes ≡ capped (sum_by pat_part_nodes (take l.i l.parts))
