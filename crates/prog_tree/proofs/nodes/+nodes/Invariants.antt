use Rattle.std.proofs.Common.{◌≡◌, ◌^◌, ◌-◌, min, sum_by, take}
use Rattle.prog_tree.specs.Readings.{reading}
use Rattle.prog_tree.specs.Weights.{exp_weight, field_weight, argument_weight, join_weight, rule_weight, bind_weight, member_weight, dec_weight}
use Rattle.prog_tree.proofs.nodes.+nodes.Given as goal

abbrev pub invariant-each_nodes-loop-i : goal.invariant-each_nodes-loop-i
invariant-each_nodes-loop-i l = l.total ≡ min (sum_by (exp_weight (reading l.tables)) (take l.i l.exps)) (2 ^ 64 - 1)

abbrev pub invariant-field_nodes-loop-i : goal.invariant-field_nodes-loop-i
invariant-field_nodes-loop-i l = l.total ≡ min (sum_by (field_weight (reading l.tables)) (take l.i l.fields)) (2 ^ 64 - 1)

abbrev pub invariant-argument_nodes-loop-i : goal.invariant-argument_nodes-loop-i
invariant-argument_nodes-loop-i l = l.total ≡ min (sum_by (argument_weight (reading l.tables)) (take l.i l.arguments)) (2 ^ 64 - 1)

abbrev pub invariant-rule_nodes-loop-i : goal.invariant-rule_nodes-loop-i
invariant-rule_nodes-loop-i l = l.total ≡ min (sum_by (rule_weight (reading l.tables)) (take l.i l.rules)) (2 ^ 64 - 1)

abbrev pub invariant-bind_nodes-loop-i : goal.invariant-bind_nodes-loop-i
invariant-bind_nodes-loop-i l = l.total ≡ min (sum_by (bind_weight (reading l.tables)) (take l.i l.binds)) (2 ^ 64 - 1)

abbrev pub invariant-member_nodes-loop-i : goal.invariant-member_nodes-loop-i
invariant-member_nodes-loop-i l = l.total ≡ min (sum_by (member_weight (reading l.tables)) (take l.i l.functions)) (2 ^ 64 - 1)

abbrev pub invariant-decs_nodes-loop-i : goal.invariant-decs_nodes-loop-i
invariant-decs_nodes-loop-i l = l.total ≡ min (sum_by (dec_weight (reading l.tables)) (take l.i l.declarations)) (2 ^ 64 - 1)

abbrev pub invariant-join_nodes-loop-i : goal.invariant-join_nodes-loop-i
invariant-join_nodes-loop-i l = l.total ≡ min (sum_by (join_weight (reading l.tables)) (take l.i l.joins)) (2 ^ 64 - 1)
