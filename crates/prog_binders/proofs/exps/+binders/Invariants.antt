use Rattle.std.proofs.Common.{take}
use Rattle.std.specs.Prelude.{sum_by}
use Rattle.prog_binders.specs.Adding.{Adds, argument_times, bind_times, dec_times, exp_times, field_times, join_times, member_times, rule_times}
use Rattle.prog_binders.proofs.exps.+binders.Given as goal

abbrev pub invariant-push_each-loop-i : goal.invariant-push_each-loop-i
invariant-push_each-loop-i l = Adds l.fn.found.items l.found.items (λ R h. sum_by (exp_times R h) (take l.i l.exps))

abbrev pub invariant-push_fields-loop-i : goal.invariant-push_fields-loop-i
invariant-push_fields-loop-i l = Adds l.fn.found.items l.found.items (λ R h. sum_by (field_times R h) (take l.i l.fields))

abbrev pub invariant-push_arguments-loop-i : goal.invariant-push_arguments-loop-i
invariant-push_arguments-loop-i l = Adds l.fn.found.items l.found.items (λ R h. sum_by (argument_times R h) (take l.i l.arguments))

abbrev pub invariant-push_joins-loop-i : goal.invariant-push_joins-loop-i
invariant-push_joins-loop-i l = Adds l.fn.found.items l.found.items (λ R h. sum_by (join_times R h) (take l.i l.joins))

abbrev pub invariant-push_rules-loop-i : goal.invariant-push_rules-loop-i
invariant-push_rules-loop-i l = Adds l.fn.found.items l.found.items (λ R h. sum_by (rule_times R h) (take l.i l.rules))

abbrev pub invariant-push_decs-loop-i : goal.invariant-push_decs-loop-i
invariant-push_decs-loop-i l = Adds l.fn.found.items l.found.items (λ R h. sum_by (dec_times R h) (take l.i l.declarations))

abbrev pub invariant-push_binds-loop-i : goal.invariant-push_binds-loop-i
invariant-push_binds-loop-i l = Adds l.fn.found.items l.found.items (λ R h. sum_by (bind_times R h) (take l.i l.binds))

abbrev pub invariant-push_members-loop-i : goal.invariant-push_members-loop-i
invariant-push_members-loop-i l = Adds l.fn.found.items l.found.items (λ R h. sum_by (member_times R h) (take l.i l.functions))
