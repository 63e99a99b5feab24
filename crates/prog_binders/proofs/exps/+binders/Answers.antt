use Rattle.std.proofs.Common.{◌+◌, ap, ◌∙◌}
use Rattle.std.specs.Prelude.{sum_by}
use Rattle.ir_poly.specs.ProgOnce.{pat_times, list_times}
use Rattle.prog_tree.specs.TreeOf.{pat_of}
use Rattle.prog_binders.specs.Adding.{parameter_times, exp_times, field_times, argument_times, join_times, rule_times, bind_times, function_times, member_times, dec_times}
use Rattle.prog_binders.proofs.Counting.{more-is, all-of, then, as-sum, as-list, as-at, pushed, nothing, atom-all, use-all, raise-exp, fn-exp, counted-exp, exception-dec, record-exp, let-exp, apply-exp, infix-exp, case-exp, sequence-exp, test-exp, handle-exp, named-function, rules-function, val-dec}
use Rattle.prog_binders.proofs.exps.+binders.Goals as goal

pub push_each-loop-i-preserved : goal.push_each-loop-i-preserved
push_each-loop-i-preserved t c = more-is exp_times c.args.exps.now c.loop-i.i c.index-exps-i.result _ _ _ c.loop-i-test.true c.index-exps-i.is c.loop-i.invariant c.in_ok-push_exp.ensures

pub push_fields-loop-i-preserved : goal.push_fields-loop-i-preserved
push_fields-loop-i-preserved t c = more-is field_times c.args.fields.now c.loop-i.i c.index-fields-i.result _ _ _ c.loop-i-test.true c.index-fields-i.is c.loop-i.invariant c.in_ok-push_exp.ensures

pub push_arguments-loop-i-preserved : goal.push_arguments-loop-i-preserved
push_arguments-loop-i-preserved t c = more-is argument_times c.args.arguments.now c.loop-i.i c.index-arguments-i.result _ _ _ c.loop-i-test.true c.index-arguments-i.is c.loop-i.invariant c.in_ok-push_exp.ensures

pub push_rules-loop-i-preserved : goal.push_rules-loop-i-preserved
push_rules-loop-i-preserved t c = more-is rule_times c.args.rules.now c.loop-i.i c.index-rules-i.result _ _ _ c.loop-i-test.true c.index-rules-i.is c.loop-i.invariant c.in_ok-push_rule.ensures

pub push_decs-loop-i-preserved : goal.push_decs-loop-i-preserved
push_decs-loop-i-preserved t c = more-is dec_times c.args.declarations.now c.loop-i.i c.index-declarations-i.result _ _ _ c.loop-i-test.true c.index-declarations-i.is c.loop-i.invariant c.in_ok-push_dec.ensures

pub push_binds-loop-i-preserved : goal.push_binds-loop-i-preserved
push_binds-loop-i-preserved t c = more-is bind_times c.args.binds.now c.loop-i.i c.index-binds-i.result _ _ _ c.loop-i-test.true c.index-binds-i.is c.loop-i.invariant c.in_ok-push_rule.ensures

pub push_exp-returns-in_ok-push_fields-in-Record : goal.push_exp-returns-in_ok-push_fields-in-Record
push_exp-returns-in_ok-push_fields-in-Record t c = as-sum (λ R h. sum_by (field_times R h) c.in-Record.fields.items) (λ R h. exp_times R h c.args.exp.now) _ _ (λ R h. ap (exp_times R h) c.in-Record.is ∙ record-exp R h c.in-Record.field-0 c.in-Record.fields)
    (as-list field_times _ _ _ _ c.deref.ensures.value c.in_ok-push_fields-in-Record.ensures)

pub push_exp-returns-in_ok-push_exp-in-Let : goal.push_exp-returns-in_ok-push_exp-in-Let
push_exp-returns-in_ok-push_exp-in-Let t c = as-sum (λ R h. sum_by (dec_times R h) c.in-Let.declarations.items + exp_times R h c.in-Let.body.value) (λ R h. exp_times R h c.args.exp.now) _ _ (λ R h. ap (exp_times R h) c.in-Let.is ∙ let-exp R h c.in-Let.field-0 c.in-Let.declarations c.in-Let.body)
    (then (λ R h. sum_by (dec_times R h) c.in-Let.declarations.items) (λ R h. exp_times R h c.in-Let.body.value) _ _ _ (as-list dec_times _ _ _ _ c.deref-in-Let.ensures.value c.in_ok-push_decs-in-Let.ensures) (as-at exp_times _ _ _ _ c.deref-in-Let-2.ensures c.in_ok-push_exp-in-Let.ensures))

pub push_exp-returns-in_ok-push_arguments-in-Apply : goal.push_exp-returns-in_ok-push_arguments-in-Apply
push_exp-returns-in_ok-push_arguments-in-Apply t c = as-sum (λ R h. exp_times R h c.in-Apply.function.value + sum_by (argument_times R h) c.in-Apply.arguments.items) (λ R h. exp_times R h c.args.exp.now) _ _ (λ R h. ap (exp_times R h) c.in-Apply.is ∙ apply-exp R h c.in-Apply.field-0 c.in-Apply.function c.in-Apply.arguments)
    (then (λ R h. exp_times R h c.in-Apply.function.value) (λ R h. sum_by (argument_times R h) c.in-Apply.arguments.items) _ _ _ (as-at exp_times _ _ _ _ c.deref-in-Apply.ensures c.in_ok-push_exp-in-Apply.ensures) (as-list argument_times _ _ _ _ c.deref-in-Apply-2.ensures.value c.in_ok-push_arguments-in-Apply.ensures))

pub push_exp-returns-in_ok-push_joins-in-Infix : goal.push_exp-returns-in_ok-push_joins-in-Infix
push_exp-returns-in_ok-push_joins-in-Infix t c = as-sum (λ R h. exp_times R h c.in-Infix.first.value + sum_by (join_times R h) c.in-Infix.joins.items) (λ R h. exp_times R h c.args.exp.now) _ _ (λ R h. ap (exp_times R h) c.in-Infix.is ∙ infix-exp R h c.in-Infix.field-0 c.in-Infix.first c.in-Infix.joins)
    (then (λ R h. exp_times R h c.in-Infix.first.value) (λ R h. sum_by (join_times R h) c.in-Infix.joins.items) _ _ _ (as-at exp_times _ _ _ _ c.deref-in-Infix.ensures c.in_ok-push_exp-in-Infix.ensures) (as-list join_times _ _ _ _ c.deref-in-Infix-2.ensures.value c.in_ok-push_joins-in-Infix.ensures))

pub push_exp-returns-in_ok-push_rules-in-Case : goal.push_exp-returns-in_ok-push_rules-in-Case
push_exp-returns-in_ok-push_rules-in-Case t c = as-sum (λ R h. exp_times R h c.in-Case.of.value + sum_by (rule_times R h) c.in-Case.rules.items) (λ R h. exp_times R h c.args.exp.now) _ _ (λ R h. ap (exp_times R h) c.in-Case.is ∙ case-exp R h c.in-Case.field-0 c.in-Case.field-1 c.in-Case.of c.in-Case.rules)
    (then (λ R h. exp_times R h c.in-Case.of.value) (λ R h. sum_by (rule_times R h) c.in-Case.rules.items) _ _ _ (as-at exp_times _ _ _ _ c.deref-in-Case.ensures c.in_ok-push_exp-in-Case.ensures) (as-list rule_times _ _ _ _ c.deref-in-Case-2.ensures.value c.in_ok-push_rules-in-Case.ensures))

pub push_exp-returns-in_ok-push_exp-in-Sequence : goal.push_exp-returns-in_ok-push_exp-in-Sequence
push_exp-returns-in_ok-push_exp-in-Sequence t c = as-sum (λ R h. sum_by (exp_times R h) c.in-Sequence.before.items + exp_times R h c.in-Sequence.last.value) (λ R h. exp_times R h c.args.exp.now) _ _ (λ R h. ap (exp_times R h) c.in-Sequence.is ∙ sequence-exp R h c.in-Sequence.field-0 c.in-Sequence.field-1 c.in-Sequence.before c.in-Sequence.last)
    (then (λ R h. sum_by (exp_times R h) c.in-Sequence.before.items) (λ R h. exp_times R h c.in-Sequence.last.value) _ _ _ (as-list exp_times _ _ _ _ c.deref-in-Sequence.ensures.value c.in_ok-push_each-in-Sequence.ensures) (as-at exp_times _ _ _ _ c.deref-in-Sequence-2.ensures c.in_ok-push_exp-in-Sequence.ensures))

pub push_exp-returns-in_ok-push_exp-in-Test : goal.push_exp-returns-in_ok-push_exp-in-Test
push_exp-returns-in_ok-push_exp-in-Test t c = as-sum (λ R h. sum_by (exp_times R h) c.in-Test.operands.items + exp_times R h c.in-Test.last.value) (λ R h. exp_times R h c.args.exp.now) _ _ (λ R h. ap (exp_times R h) c.in-Test.is ∙ test-exp R h c.in-Test.field-0 c.in-Test.field-1 c.in-Test.operands c.in-Test.last)
    (then (λ R h. sum_by (exp_times R h) c.in-Test.operands.items) (λ R h. exp_times R h c.in-Test.last.value) _ _ _ (as-list exp_times _ _ _ _ c.deref-in-Test.ensures.value c.in_ok-push_each-in-Test.ensures) (as-at exp_times _ _ _ _ c.deref-in-Test-2.ensures c.in_ok-push_exp-in-Test.ensures))

pub push_exp-returns-in_ok-push_rules-in-Handle : goal.push_exp-returns-in_ok-push_rules-in-Handle
push_exp-returns-in_ok-push_rules-in-Handle t c = as-sum (λ R h. exp_times R h c.in-Handle.body.value + sum_by (rule_times R h) c.in-Handle.rules.items) (λ R h. exp_times R h c.args.exp.now) _ _ (λ R h. ap (exp_times R h) c.in-Handle.is ∙ handle-exp R h c.in-Handle.field-0 c.in-Handle.body c.in-Handle.rules)
    (then (λ R h. exp_times R h c.in-Handle.body.value) (λ R h. sum_by (rule_times R h) c.in-Handle.rules.items) _ _ _ (as-at exp_times _ _ _ _ c.deref-in-Handle.ensures c.in_ok-push_exp-in-Handle.ensures) (as-list rule_times _ _ _ _ c.deref-in-Handle-2.ensures.value c.in_ok-push_rules-in-Handle.ensures))

pub push_exp-returns-in_ok-push_exp-in-Raise : goal.push_exp-returns-in_ok-push_exp-in-Raise
push_exp-returns-in_ok-push_exp-in-Raise t c = as-sum (λ R h. exp_times R h c.in-Raise.packet.value) (λ R h. exp_times R h c.args.exp.now) _ _ (λ R h. ap (exp_times R h) c.in-Raise.is ∙ raise-exp R h c.in-Raise.field-0 c.in-Raise.packet)
    (as-at exp_times _ _ _ _ c.deref-in-Raise.ensures c.in_ok-push_exp-in-Raise.ensures)

pub push_exp-returns-in_ok-push_function-in-Fn : goal.push_exp-returns-in_ok-push_function-in-Fn
push_exp-returns-in_ok-push_function-in-Fn t c = as-sum (λ R h. function_times R h c.in-Fn.function) (λ R h. exp_times R h c.args.exp.now) _ _ (λ R h. ap (exp_times R h) c.in-Fn.is ∙ fn-exp R h c.in-Fn.field-0 c.in-Fn.function)
    (c.in_ok-push_function-in-Fn.ensures)

pub push_exp-returns-in_ok-push_exp-in-Counted : goal.push_exp-returns-in_ok-push_exp-in-Counted
push_exp-returns-in_ok-push_exp-in-Counted t c = as-sum (λ R h. exp_times R h c.in-Counted.body.value) (λ R h. exp_times R h c.args.exp.now) _ _ (λ R h. ap (exp_times R h) c.in-Counted.is ∙ counted-exp R h c.in-Counted.field-0 c.in-Counted.field-1 c.in-Counted.body)
    (as-at exp_times _ _ _ _ c.deref-in-Counted.ensures c.in_ok-push_exp-in-Counted.ensures)

pub push_function-returns-in_ok-push_exp-in-Named : goal.push_function-returns-in_ok-push_exp-in-Named
push_function-returns-in_ok-push_exp-in-Named t c = as-sum (λ R h. sum_by (parameter_times h) c.in-Named.parameters.items + (h c.in-Named.last.variable + exp_times R h c.in-Named.body.value)) (λ R h. function_times R h c.args.function.now) _ _ (λ R h. ap (function_times R h) c.in-Named.is ∙ named-function R h c.in-Named.parameters c.in-Named.last c.in-Named.body)
    (then (λ R h. sum_by (parameter_times h) c.in-Named.parameters.items) (λ R h. h c.in-Named.last.variable + exp_times R h c.in-Named.body.value) _ _ _ (as-list (λ R h. parameter_times h) _ _ _ _ c.deref.ensures.value c.in_ok-push_parameters-in-Named.ensures) (then (λ R h. h c.in-Named.last.variable) (λ R h. exp_times R h c.in-Named.body.value) _ _ _ (pushed c.in-Named.last.variable _ _ c.in_ok-push-in-Named.ensures.items) (as-at exp_times _ _ _ _ c.deref-in-Named.ensures c.in_ok-push_exp-in-Named.ensures)))

pub push_function-returns-in_ok-push_rules-in-ByRules : goal.push_function-returns-in_ok-push_rules-in-ByRules
push_function-returns-in_ok-push_rules-in-ByRules t c = as-sum (λ R h. sum_by (parameter_times h) c.in-ByRules.parameters.items + sum_by (rule_times R h) c.in-ByRules.rules.items) (λ R h. function_times R h c.args.function.now) _ _ (λ R h. ap (function_times R h) c.in-ByRules.is ∙ rules-function R h c.in-ByRules.parameters c.in-ByRules.field-1 c.in-ByRules.field-2 c.in-ByRules.field-3 c.in-ByRules.rules)
    (then (λ R h. sum_by (parameter_times h) c.in-ByRules.parameters.items) (λ R h. sum_by (rule_times R h) c.in-ByRules.rules.items) _ _ _ (as-list (λ R h. parameter_times h) _ _ _ _ c.deref-in-ByRules.ensures.value c.in_ok-push_parameters-in-ByRules.ensures) (as-list rule_times _ _ _ _ c.deref-in-ByRules-2.ensures.value c.in_ok-push_rules-in-ByRules.ensures))

pub push_dec-returns-in_ok-push_members-in-Val : goal.push_dec-returns-in_ok-push_members-in-Val
push_dec-returns-in_ok-push_members-in-Val t c = as-sum (λ R h. sum_by (bind_times R h) c.in-Val.binds.items + sum_by (member_times R h) c.in-Val.functions.items) (λ R h. dec_times R h c.args.declaration.now) _ _ (λ R h. ap (dec_times R h) c.in-Val.is ∙ val-dec R h c.in-Val.field-0 c.in-Val.binds c.in-Val.functions)
    (then (λ R h. sum_by (bind_times R h) c.in-Val.binds.items) (λ R h. sum_by (member_times R h) c.in-Val.functions.items) _ _ _ (as-list bind_times _ _ _ _ c.deref.ensures.value c.in_ok-push_binds-in-Val.ensures) (as-list member_times _ _ _ _ c.deref-in-Val.ensures.value c.in_ok-push_members-in-Val.ensures))

pub push_dec-returns-in_ok-push-in-Exception : goal.push_dec-returns-in_ok-push-in-Exception
push_dec-returns-in_ok-push-in-Exception t c = as-sum (λ R h. h c.in-Exception.variable) (λ R h. dec_times R h c.args.declaration.now) _ _ (λ R h. ap (dec_times R h) c.in-Exception.is ∙ exception-dec R h c.in-Exception.variable c.in-Exception.field-1 c.in-Exception.field-2)
    (pushed c.in-Exception.variable _ _ c.in_ok-push-in-Exception.ensures.items)

pub push_rule-returns : goal.push_rule-returns
push_rule-returns t c = then (λ R h. pat_times h (pat_of R c.args.rule.now.pat)) (λ R h. exp_times R h c.args.rule.now.exp) _ _ _ c.in_ok-push_pat.ensures c.in_ok-push_exp.ensures

pub push_exp-returns-in-Atom : goal.push_exp-returns-in-Atom
push_exp-returns-in-Atom t c = nothing (λ R h. exp_times R h c.args.exp.now) _ (λ R h. ap (exp_times R h) c.in-Atom.is ∙ atom-all R h c.in-Atom.field-0 c.in-Atom.field-1)

pub push_exp-returns-in-Use : goal.push_exp-returns-in-Use
push_exp-returns-in-Use t c = nothing (λ R h. exp_times R h c.args.exp.now) _ (λ R h. ap (exp_times R h) c.in-Use.is ∙ use-all R h c.in-Use.field-0 c.in-Use.field-1 c.in-Use.field-2)

pub push_joins-loop-i-preserved : goal.push_joins-loop-i-preserved
push_joins-loop-i-preserved t c = more-is join_times c.args.joins.now c.loop-i.i c.index-joins-i.result _ _ _ c.loop-i-test.true c.index-joins-i.is c.loop-i.invariant
    (then (λ R h. exp_times R h c.index-joins-i.result.1) (λ R h. exp_times R h c.index-joins-i.result.2) _ _ _ c.in_ok-push_exp.ensures c.in_ok-push_exp-2.ensures)

pub push_members-loop-i-preserved : goal.push_members-loop-i-preserved
push_members-loop-i-preserved t c = more-is member_times c.args.functions.now c.loop-i.i c.index-functions-i.result _ _ _ c.loop-i-test.true c.index-functions-i.is c.loop-i.invariant
    (then (λ R h. list_times h c.index-functions-i.result.0.items) (λ R h. function_times R h c.index-functions-i.result.2) _ _ _
    (as-at (λ R h l. list_times h l) _ _ _ _ c.deref.ensures.value c.in_ok-push_variables.ensures) c.in_ok-push_function.ensures)

pub push_fields-returns : goal.push_fields-returns
push_fields-returns t c = all-of field_times c.args.fields.now c.loop-i.i _ _ c.loop-i-test.false c.loop-i.invariant

pub push_joins-returns : goal.push_joins-returns
push_joins-returns t c = all-of join_times c.args.joins.now c.loop-i.i _ _ c.loop-i-test.false c.loop-i.invariant

pub push_binds-returns : goal.push_binds-returns
push_binds-returns t c = all-of bind_times c.args.binds.now c.loop-i.i _ _ c.loop-i-test.false c.loop-i.invariant
