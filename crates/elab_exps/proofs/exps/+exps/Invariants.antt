use Rattle.std.proofs.Common.{map, take}
use Rattle.std.specs.Prelude.{reverse}
use Rattle.sml_tree.specs.TreeOf.{bind_of, dec_of, exp_of, rule_of}
use Rattle.elab_exps.specs.Decs.{AreDeclared}
use Rattle.elab_exps.specs.Groups.{clause_rule, function_bind}
use Rattle.elab_exps.proofs.Loops.{CallsSoFar, ElementsSoFar, FieldsSoFar, TupleSoFar}
use Rattle.elab_exps.proofs.Chains.{LeftPart, RightPart, TestsPart}
use Rattle.elab_exps.proofs.Rules.{RulesSoFar}
use Rattle.elab_exps.proofs.Whole.{SequenceSoFar}
use Rattle.elab_exps.proofs.Binding.{BoundSoFar}
use Rattle.elab_exps.proofs.Grouping.{MembersSoFar}
use Rattle.elab_exps.proofs.exps.+exps.Given as goal

abbrev pub invariant-record_of-loop-i : goal.invariant-record_of-loop-i
invariant-record_of-loop-i l = FieldsSoFar l.fn.state l.fn.context (take l.i l.fields) l.state l.context l.made

abbrev pub invariant-tuple_of-loop-i : goal.invariant-tuple_of-loop-i
invariant-tuple_of-loop-i l = TupleSoFar l.fn.state l.fn.context l.i (take l.i l.parts) l.state l.context l.made

abbrev pub invariant-calls_from-loop-i : goal.invariant-calls_from-loop-i
invariant-calls_from-loop-i l = CallsSoFar l.fn.state l.fn.context l.place l.fn.made (map exp_of (take l.i l.arguments)) l.state l.context l.made

abbrev pub invariant-sequence_of-loop-i : goal.invariant-sequence_of-loop-i
invariant-sequence_of-loop-i l = SequenceSoFar l.fn.state l.fn.context l.fn.exp l.place l.rest l.end l.i l.state l.context l.before.items

abbrev pub invariant-list_of-loop-i : goal.invariant-list_of-loop-i
invariant-list_of-loop-i l = ElementsSoFar l.initial.state l.fn.context l.listed (take l.i l.elements) l.state l.context l.made.items

abbrev pub invariant-left_of-loop-i : goal.invariant-left_of-loop-i
invariant-left_of-loop-i l = LeftPart l.fn.state l.fn.context l.fn.exp l.place l.parts l.i l.state l.context l.made

abbrev pub invariant-right_of-loop-i : goal.invariant-right_of-loop-i
invariant-right_of-loop-i l = RightPart l.fn.state l.fn.context l.fn.exp l.parts l.i l.state l.context l.made

abbrev pub invariant-tests_of-loop-i : goal.invariant-tests_of-loop-i
invariant-tests_of-loop-i l = TestsPart l.fn.state l.fn.context l.fn.exp l.parts l.end l.i l.state l.context l.before.items

abbrev pub invariant-rules_from-loop-i : goal.invariant-rules_from-loop-i
invariant-rules_from-loop-i l = RulesSoFar l.fn.state l.fn.context l.fn.made (map rule_of (take l.i l.rules)) l.state l.context l.made

abbrev pub invariant-decs_from-loop-i : goal.invariant-decs_from-loop-i
invariant-decs_from-loop-i l =
    AreDeclared l.fn.state l.fn.context (map dec_of (take l.i l.decs)) l.state l.context l.fn.made.items l.made.items l.fn.brought l.brought

abbrev pub invariant-bindings_from-loop-i : goal.invariant-bindings_from-loop-i
invariant-bindings_from-loop-i l = BoundSoFar l.fn.state l.fn.context l.begun (map bind_of (take l.i l.binds)) l.state l.context l.inside

abbrev pub invariant-recs_from-loop-i : goal.invariant-recs_from-loop-i
invariant-recs_from-loop-i l =
    MembersSoFar l.fn.state l.initial.context (map bind_of (take l.i l.recs)) (take l.i (reverse l.heads)) l.fn.inside l.state l.context l.inside l.funs.items

abbrev pub invariant-clauses_from-loop-i : goal.invariant-clauses_from-loop-i
invariant-clauses_from-loop-i l = RulesSoFar l.fn.state l.fn.context l.fn.made (map clause_rule (take l.i l.clauses)) l.state l.context l.made

abbrev pub invariant-functions_from-loop-i : goal.invariant-functions_from-loop-i
invariant-functions_from-loop-i l =
    MembersSoFar l.fn.state l.initial.context (map function_bind (take l.i l.functions)) (take l.i (reverse l.heads)) l.fn.inside l.state l.context l.inside l.funs.items
