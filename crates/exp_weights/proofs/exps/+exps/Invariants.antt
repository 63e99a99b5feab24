use Rattle.std.proofs.Common.{◌≡◌, sum_by, take}
use Rattle.exp_weights.specs.Nodes.{capped}
use Rattle.exp_weights.specs.Sums.{exp_field_nodes, exp_nodes, part_nodes}
use Rattle.exp_weights.proofs.exps.+exps.Given as goal

abbrev pub invariant-fields_nodes-loop-i : goal.invariant-fields_nodes-loop-i
invariant-fields_nodes-loop-i l = l.nodes ≡ capped (sum_by exp_field_nodes (take l.i l.fields))

abbrev pub invariant-parts_nodes-loop-i : goal.invariant-parts_nodes-loop-i
invariant-parts_nodes-loop-i l = l.nodes ≡ capped (sum_by exp_nodes (take l.i l.parts))

abbrev pub invariant-chain_nodes-loop-i : goal.invariant-chain_nodes-loop-i
invariant-chain_nodes-loop-i l = l.nodes ≡ capped (sum_by part_nodes (take l.i l.parts))
