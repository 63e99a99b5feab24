use Rattle.restrictions.specs.Nodes.{bind_places, clause_places, dec_places, exp_places, field_places, function_places, part_places, rec_places, rule_places}
use Rattle.restrictions.proofs.Walking.{Goes}
use Rattle.restrictions.proofs.exps.+exps.Given as goal

abbrev pub invariant-of_exps-loop-i : goal.invariant-of_exps-loop-i
invariant-of_exps-loop-i l = Goes exp_places l.exps l.i l.fn.walk l.walk

abbrev pub invariant-of_fields-loop-i : goal.invariant-of_fields-loop-i
invariant-of_fields-loop-i l = Goes field_places l.fields l.i l.fn.walk l.walk

abbrev pub invariant-of_parts-loop-i : goal.invariant-of_parts-loop-i
invariant-of_parts-loop-i l = Goes part_places l.parts l.i l.fn.walk l.walk

abbrev pub invariant-of_rules-loop-i : goal.invariant-of_rules-loop-i
invariant-of_rules-loop-i l = Goes rule_places l.rules l.i l.fn.walk l.walk

abbrev pub invariant-of_binds-loop-i : goal.invariant-of_binds-loop-i
invariant-of_binds-loop-i l = Goes bind_places l.binds l.i l.fn.walk l.walk

abbrev pub invariant-of_recs-loop-i : goal.invariant-of_recs-loop-i
invariant-of_recs-loop-i l = Goes rec_places l.binds l.i l.fn.walk l.walk

abbrev pub invariant-of_clauses-loop-i : goal.invariant-of_clauses-loop-i
invariant-of_clauses-loop-i l = Goes clause_places l.clauses l.i l.fn.walk l.walk

abbrev pub invariant-of_functions-loop-i : goal.invariant-of_functions-loop-i
invariant-of_functions-loop-i l = Goes function_places l.functions l.i l.fn.walk l.walk

abbrev pub invariant-of_decs-loop-i : goal.invariant-of_decs-loop-i
invariant-of_decs-loop-i l = Goes dec_places l.decs l.i l.fn.walk l.walk
