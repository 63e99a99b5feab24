use Rattle.std.proofs.Common.{drop, reverse}
use Rattle.pattern_tests.specs.Tasks.{Done}
use Rattle.pattern_tests.specs.Parts.{fields_task, field_patterns, right_rest, left_rest}
use Rattle.pattern_tests.proofs.patterns.+patterns.Given as goal

abbrev pub invariant-push_fields-loop-i : goal.invariant-push_fields-loop-i
invariant-push_fields-loop-i l = Done l.fn.work l.work l.fn.made l.made (fields_task (field_patterns l.fields) l.u l.atom) (fields_task (field_patterns (drop l.i l.fields)) l.u l.atom)

abbrev pub invariant-push_right-loop-i : goal.invariant-push_right-loop-i
invariant-push_right-loop-i l = Done l.fn.work l.work l.fn.made l.made (right_rest l.parts l.first) (right_rest (drop l.i l.parts) l.joint)

abbrev pub invariant-push_left-loop-i : goal.invariant-push_left-loop-i
invariant-push_left-loop-i l = Done l.fn.work l.work l.fn.made l.made (left_rest l.parts (reverse l.fn.pairs.items)) (left_rest (drop l.i l.parts) (reverse l.pairs.items))
