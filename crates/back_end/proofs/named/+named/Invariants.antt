use Rattle.std.proofs.Common.{All, take}
use Rattle.back_end.specs.Keeping.{exp_keeps, field_keeps, argument_keeps, join_keeps, rule_keeps, dec_keeps, bind_keeps, member_keeps}
use Rattle.back_end.proofs.named.+named.Given as goal

abbrev pub invariant-in_each-loop-i : goal.invariant-in_each-loop-i
invariant-in_each-loop-i l = All (exp_keeps l.limit) (take l.i l.exps)

abbrev pub invariant-in_fields-loop-i : goal.invariant-in_fields-loop-i
invariant-in_fields-loop-i l = All (field_keeps l.limit) (take l.i l.fields)

abbrev pub invariant-in_arguments-loop-i : goal.invariant-in_arguments-loop-i
invariant-in_arguments-loop-i l = All (argument_keeps l.limit) (take l.i l.arguments)

abbrev pub invariant-in_joins-loop-i : goal.invariant-in_joins-loop-i
invariant-in_joins-loop-i l = All (join_keeps l.limit) (take l.i l.joins)

abbrev pub invariant-in_rules-loop-i : goal.invariant-in_rules-loop-i
invariant-in_rules-loop-i l = All (rule_keeps l.limit) (take l.i l.rules)

abbrev pub invariant-in_decs-loop-i : goal.invariant-in_decs-loop-i
invariant-in_decs-loop-i l = All (dec_keeps l.limit) (take l.i l.declarations)

abbrev pub invariant-in_binds-loop-i : goal.invariant-in_binds-loop-i
invariant-in_binds-loop-i l = All (bind_keeps l.limit) (take l.i l.binds)

abbrev pub invariant-in_members-loop-i : goal.invariant-in_members-loop-i
invariant-in_members-loop-i l = All (member_keeps l.limit) (take l.i l.functions)
