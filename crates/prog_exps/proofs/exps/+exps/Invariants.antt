use Rattle.ty_table.specs.TypeAt.{type_at}
use Rattle.prog_leaves.specs.of_prog_parts.Expressions.{argument_next, join_next}
use Rattle.prog_leaves.specs.Right.{field_right, argument_right, join_right, rule_right, dropped_right, operand_right, member_right, inner_right}
use Rattle.prog_leaves.proofs.Going.{Keeping, Moving, Declaring}
use Rattle.prog_exps.proofs.exps.+exps.Given as goal

abbrev pub invariant-check_fields-loop-i : goal.invariant-check_fields-loop-i
invariant-check_fields-loop-i l = Keeping (field_right l.tables) l.fields l.fn.environment l.i l.environment l.so_far

abbrev pub invariant-check_dropped-loop-i : goal.invariant-check_dropped-loop-i
invariant-check_dropped-loop-i l = Keeping (dropped_right l.tables) l.exps l.fn.environment l.i l.environment l.so_far

abbrev pub invariant-check_operands-loop-i : goal.invariant-check_operands-loop-i
invariant-check_operands-loop-i l = Keeping (operand_right l.tables) l.exps l.fn.environment l.i l.environment l.so_far

abbrev pub invariant-check_members-loop-i : goal.invariant-check_members-loop-i
invariant-check_members-loop-i l = Keeping (member_right l.tables) l.members l.fn.environment l.i l.environment l.so_far

abbrev pub invariant-check_inners-loop-i : goal.invariant-check_inners-loop-i
invariant-check_inners-loop-i l = Keeping (inner_right l.tables) l.binds l.fn.environment l.i l.environment l.so_far

abbrev pub invariant-check_rules-loop-i : goal.invariant-check_rules-loop-i
invariant-check_rules-loop-i l = Keeping (λ e. rule_right l.tables e l.of l.ty) l.rules l.fn.environment l.i l.environment l.so_far

abbrev pub invariant-check_arguments-loop-i : goal.invariant-check_arguments-loop-i
invariant-check_arguments-loop-i l =
    Moving (argument_right l.tables) (argument_next l.tables) (type_at l.tables.types l.of) l.arguments l.fn.environment l.i (type_at l.tables.types l.now) l.environment l.so_far

abbrev pub invariant-check_joins-loop-i : goal.invariant-check_joins-loop-i
invariant-check_joins-loop-i l =
    Moving (λ e. join_right l.tables e l.side) (join_next l.tables l.side) (type_at l.tables.types l.left) l.joins l.fn.environment l.i (type_at l.tables.types l.now) l.environment l.so_far

abbrev pub invariant-check_decs-loop-i : goal.invariant-check_decs-loop-i
invariant-check_decs-loop-i l = Declaring l.tables l.declarations l.fn.environment l.i l.environment l.so_far
