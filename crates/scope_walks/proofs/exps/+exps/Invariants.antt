use Rattle.std.proofs.Common.{◌≡◌}
use Rattle.scope_walks.proofs.Walking.{Ran}
use Rattle.scope_walks.proofs.exps.+exps.Given as goal

abbrev pub invariant-in_binds-loop-i : goal.invariant-in_binds-loop-i
invariant-in_binds-loop-i l = l.scope ≡ l.fn.scope

abbrev pub invariant-in_clauses-loop-i : goal.invariant-in_clauses-loop-i
invariant-in_clauses-loop-i l = l.scope ≡ l.fn.scope

abbrev pub invariant-in_exps-loop-i : goal.invariant-in_exps-loop-i
invariant-in_exps-loop-i l = l.scope ≡ l.fn.scope

abbrev pub invariant-in_fields-loop-i : goal.invariant-in_fields-loop-i
invariant-in_fields-loop-i l = l.scope ≡ l.fn.scope

abbrev pub invariant-in_functions-loop-i : goal.invariant-in_functions-loop-i
invariant-in_functions-loop-i l = l.scope ≡ l.fn.scope

abbrev pub invariant-in_parts-loop-i : goal.invariant-in_parts-loop-i
invariant-in_parts-loop-i l = l.scope ≡ l.fn.scope

abbrev pub invariant-in_rules-loop-i : goal.invariant-in_rules-loop-i
invariant-in_rules-loop-i l = l.scope ≡ l.fn.scope

abbrev pub invariant-in_decs-loop-i : goal.invariant-in_decs-loop-i
invariant-in_decs-loop-i l = Ran l.decs l.i l.fn.scope l.scope
