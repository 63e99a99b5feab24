use Rattle.std.proofs.Common.{add-one, rules, ◌≡◌, true, All, sym, subst}
use Rattle.back_end.specs.Keeping.{exp_keeps, field_keeps, argument_keeps, join_keeps, rule_keeps, bind_keeps, function_keeps, member_keeps, dec_keeps}
use Rattle.back_end.proofs.Naming.{record-keeps, let-keeps, apply-keeps, infix-keeps, case-keeps, sequences-keep, test-keeps, handle-keeps, raise-keeps, fn-keeps, counted-keeps, named-keeps, by-rules-keeps, val-keeps, both-true, one-more, at-end, same-read}
use Rattle.back_end.proofs.named.+named.Goals as goal

pub in_exp-returns-in-Record : goal.in_exp-returns-in-Record
in_exp-returns-in-Record t c = λ yes.
    let n = c.args.limit in
    subst (exp_keeps n) (sym c.in-Record.is)
    (record-keeps n c.in-Record.field-0 c.in-Record.fields (subst (All (field_keeps n)) c.deref.ensures.value (c.in_fields.ensures yes)))

pub in_exp-returns-in-Let : goal.in_exp-returns-in-Let
in_exp-returns-in-Let t c = λ yes.
    let n = c.args.limit in
    let b = both-true _ _ _ c.both.ensures yes in
    subst (exp_keeps n) (sym c.in-Let.is)
    (let-keeps n c.in-Let.field-0 c.in-Let.declarations c.in-Let.body (subst (All (dec_keeps n)) c.deref-in-Let.ensures.value (c.in_decs.ensures b.0)) (subst (exp_keeps n) c.deref-in-Let-2.ensures (c.in_exp.ensures b.1)))

pub in_exp-returns-in-Apply : goal.in_exp-returns-in-Apply
in_exp-returns-in-Apply t c = λ yes.
    let n = c.args.limit in
    let b = both-true _ _ _ c.both-in-Apply.ensures yes in
    subst (exp_keeps n) (sym c.in-Apply.is)
    (apply-keeps n c.in-Apply.field-0 c.in-Apply.function c.in-Apply.arguments (subst (exp_keeps n) c.deref-in-Apply.ensures (c.in_exp-in-Apply.ensures b.0)) (subst (All (argument_keeps n)) c.deref-in-Apply-2.ensures.value (c.in_arguments.ensures b.1)))

pub in_exp-returns-in-Infix : goal.in_exp-returns-in-Infix
in_exp-returns-in-Infix t c = λ yes.
    let n = c.args.limit in
    let b = both-true _ _ _ c.both-in-Infix.ensures yes in
    subst (exp_keeps n) (sym c.in-Infix.is)
    (infix-keeps n c.in-Infix.field-0 c.in-Infix.first c.in-Infix.joins (subst (exp_keeps n) c.deref-in-Infix.ensures (c.in_exp-in-Infix.ensures b.0)) (subst (All (join_keeps n)) c.deref-in-Infix-2.ensures.value (c.in_joins.ensures b.1)))

pub in_exp-returns-in-Case : goal.in_exp-returns-in-Case
in_exp-returns-in-Case t c = λ yes.
    let n = c.args.limit in
    let b = both-true _ _ _ c.both-in-Case.ensures yes in
    subst (exp_keeps n) (sym c.in-Case.is)
    (case-keeps n c.in-Case.field-0 c.in-Case.field-1 c.in-Case.of c.in-Case.rules (subst (exp_keeps n) c.deref-in-Case.ensures (c.in_exp-in-Case.ensures b.0)) (subst (All (rule_keeps n)) c.deref-in-Case-2.ensures.value (c.in_rules.ensures b.1)))

pub in_exp-returns-in-Sequence : goal.in_exp-returns-in-Sequence
in_exp-returns-in-Sequence t c = λ yes.
    let n = c.args.limit in
    let b = both-true _ _ _ c.both-in-Sequence.ensures yes in
    subst (exp_keeps n) (sym c.in-Sequence.is)
    (sequences-keep n c.in-Sequence.field-0 c.in-Sequence.field-1 c.in-Sequence.before c.in-Sequence.last (subst (All (exp_keeps n)) c.deref-in-Sequence.ensures.value (c.in_each.ensures b.0)) (subst (exp_keeps n) c.deref-in-Sequence-2.ensures (c.in_exp-in-Sequence.ensures b.1)))

pub in_exp-returns-in-Test : goal.in_exp-returns-in-Test
in_exp-returns-in-Test t c = λ yes.
    let n = c.args.limit in
    let b = both-true _ _ _ c.both-in-Test.ensures yes in
    subst (exp_keeps n) (sym c.in-Test.is)
    (test-keeps n c.in-Test.field-0 c.in-Test.field-1 c.in-Test.operands c.in-Test.last (subst (All (exp_keeps n)) c.deref-in-Test.ensures.value (c.in_each-in-Test.ensures b.0)) (subst (exp_keeps n) c.deref-in-Test-2.ensures (c.in_exp-in-Test.ensures b.1)))

pub in_exp-returns-in-Handle : goal.in_exp-returns-in-Handle
in_exp-returns-in-Handle t c = λ yes.
    let n = c.args.limit in
    let b = both-true _ _ _ c.both-in-Handle.ensures yes in
    subst (exp_keeps n) (sym c.in-Handle.is)
    (handle-keeps n c.in-Handle.field-0 c.in-Handle.body c.in-Handle.rules (subst (exp_keeps n) c.deref-in-Handle.ensures (c.in_exp-in-Handle.ensures b.0)) (subst (All (rule_keeps n)) c.deref-in-Handle-2.ensures.value (c.in_rules-in-Handle.ensures b.1)))

pub in_exp-returns-in-Raise : goal.in_exp-returns-in-Raise
in_exp-returns-in-Raise t c = λ yes.
    let n = c.args.limit in
    subst (exp_keeps n) (sym c.in-Raise.is)
    (raise-keeps n c.in-Raise.field-0 c.in-Raise.packet (subst (exp_keeps n) c.deref-in-Raise.ensures (c.in_exp-in-Raise.ensures yes)))

pub in_exp-returns-in-Fn : goal.in_exp-returns-in-Fn
in_exp-returns-in-Fn t c = λ yes.
    let n = c.args.limit in
    subst (exp_keeps n) (sym c.in-Fn.is)
    (fn-keeps n c.in-Fn.field-0 c.in-Fn.function (c.in_function.ensures yes))

pub in_exp-returns-in-Counted : goal.in_exp-returns-in-Counted
in_exp-returns-in-Counted t c = λ yes.
    let n = c.args.limit in
    subst (exp_keeps n) (sym c.in-Counted.is)
    (counted-keeps n c.in-Counted.field-0 c.in-Counted.field-1 c.in-Counted.body (subst (exp_keeps n) c.deref-in-Counted.ensures (c.in_exp-in-Counted.ensures yes)))

pub in_function-returns-in-Named : goal.in_function-returns-in-Named
in_function-returns-in-Named t c = λ yes.
    let n = c.args.limit in
    subst (function_keeps n) (sym c.in-Named.is)
    (named-keeps n c.in-Named.field-0 c.in-Named.field-1 c.in-Named.body (subst (exp_keeps n) c.deref.ensures (c.in_exp.ensures yes)))

pub in_function-returns-in-ByRules : goal.in_function-returns-in-ByRules
in_function-returns-in-ByRules t c = λ yes.
    let n = c.args.limit in
    subst (function_keeps n) (sym c.in-ByRules.is)
    (by-rules-keeps n c.in-ByRules.field-0 c.in-ByRules.field-1 c.in-ByRules.field-2 c.in-ByRules.field-3 c.in-ByRules.rules (subst (All (rule_keeps n)) c.deref-in-ByRules.ensures.value (c.in_rules.ensures yes)))

pub in_dec-returns-in-Val : goal.in_dec-returns-in-Val
in_dec-returns-in-Val t c = λ yes.
    let n = c.args.limit in
    let b = both-true _ _ _ c.both.ensures yes in
    subst (dec_keeps n) (sym c.in-Val.is)
    (val-keeps n c.in-Val.field-0 c.in-Val.binds c.in-Val.functions (subst (All (bind_keeps n)) c.deref.ensures.value (c.in_binds.ensures b.0)) (subst (All (member_keeps n)) c.deref-in-Val.ensures.value (c.in_members.ensures b.1)))

pub in_each-returns : goal.in_each-returns
in_each-returns t c = λ _. at-end (exp_keeps c.args.limit) c.args.exps.now c.loop-i.i c.loop-i-test.false c.loop-i.invariant

pub in_each-loop-i-preserved : goal.in_each-loop-i-preserved
in_each-loop-i-preserved t c =
    let n = c.args.limit in
    let yes : c.in_exp.result ≡ true = search rules in
    rw add-one (one-more (exp_keeps n) c.args.exps.now c.loop-i.i c.index-exps-i.result c.loop-i-test.true c.loop-i.invariant (subst (exp_keeps n) c.index-exps-i.is (c.in_exp.ensures yes)))

pub in_fields-returns : goal.in_fields-returns
in_fields-returns t c = λ _. at-end (field_keeps c.args.limit) c.args.fields.now c.loop-i.i c.loop-i-test.false c.loop-i.invariant

pub in_fields-loop-i-preserved : goal.in_fields-loop-i-preserved
in_fields-loop-i-preserved t c =
    let n = c.args.limit in
    let yes : c.in_exp.result ≡ true = search rules in
    rw add-one (one-more (field_keeps n) c.args.fields.now c.loop-i.i c.index-fields-i.result c.loop-i-test.true c.loop-i.invariant (c.in_exp.ensures yes))

pub in_arguments-returns : goal.in_arguments-returns
in_arguments-returns t c = λ _. at-end (argument_keeps c.args.limit) c.args.arguments.now c.loop-i.i c.loop-i-test.false c.loop-i.invariant

pub in_arguments-loop-i-preserved : goal.in_arguments-loop-i-preserved
in_arguments-loop-i-preserved t c =
    let n = c.args.limit in
    let yes : c.in_exp.result ≡ true = search rules in
    rw add-one (one-more (argument_keeps n) c.args.arguments.now c.loop-i.i c.index-arguments-i.result c.loop-i-test.true c.loop-i.invariant (c.in_exp.ensures yes))

pub in_joins-returns : goal.in_joins-returns
in_joins-returns t c = λ _. at-end (join_keeps c.args.limit) c.args.joins.now c.loop-i.i c.loop-i-test.false c.loop-i.invariant

pub in_joins-loop-i-preserved : goal.in_joins-loop-i-preserved
in_joins-loop-i-preserved t c =
    let n = c.args.limit in
    let yes : c.both.result ≡ true = search rules in
    let b = both-true _ _ _ c.both.ensures yes in
    rw add-one (one-more (join_keeps n) c.args.joins.now c.loop-i.i c.index-joins-i.result c.loop-i-test.true c.loop-i.invariant ((c.in_exp-operator.ensures b.0, subst (λ j. exp_keeps n j.2) (same-read c.args.joins.now c.loop-i.i c.index-joins-i-in-loop-i.result c.index-joins-i.result c.loop-i-test.true) (c.in_exp-operand.ensures b.1))))

pub in_rules-returns : goal.in_rules-returns
in_rules-returns t c = λ _. at-end (rule_keeps c.args.limit) c.args.rules.now c.loop-i.i c.loop-i-test.false c.loop-i.invariant

pub in_rules-loop-i-preserved : goal.in_rules-loop-i-preserved
in_rules-loop-i-preserved t c =
    let n = c.args.limit in
    let yes : c.in_exp.result ≡ true = search rules in
    rw add-one (one-more (rule_keeps n) c.args.rules.now c.loop-i.i c.index-rules-i.result c.loop-i-test.true c.loop-i.invariant (c.in_exp.ensures yes))

pub in_decs-returns : goal.in_decs-returns
in_decs-returns t c = λ _. at-end (dec_keeps c.args.limit) c.args.declarations.now c.loop-i.i c.loop-i-test.false c.loop-i.invariant

pub in_decs-loop-i-preserved : goal.in_decs-loop-i-preserved
in_decs-loop-i-preserved t c =
    let n = c.args.limit in
    let yes : c.in_dec.result ≡ true = search rules in
    rw add-one (one-more (dec_keeps n) c.args.declarations.now c.loop-i.i c.index-declarations-i.result c.loop-i-test.true c.loop-i.invariant (subst (dec_keeps n) c.index-declarations-i.is (c.in_dec.ensures yes)))

pub in_binds-returns : goal.in_binds-returns
in_binds-returns t c = λ _. at-end (bind_keeps c.args.limit) c.args.binds.now c.loop-i.i c.loop-i-test.false c.loop-i.invariant

pub in_binds-loop-i-preserved : goal.in_binds-loop-i-preserved
in_binds-loop-i-preserved t c =
    let n = c.args.limit in
    let yes : c.in_exp.result ≡ true = search rules in
    rw add-one (one-more (bind_keeps n) c.args.binds.now c.loop-i.i c.index-binds-i.result c.loop-i-test.true c.loop-i.invariant (c.in_exp.ensures yes))

pub in_members-returns : goal.in_members-returns
in_members-returns t c = λ _. at-end (member_keeps c.args.limit) c.args.functions.now c.loop-i.i c.loop-i-test.false c.loop-i.invariant

pub in_members-loop-i-preserved : goal.in_members-loop-i-preserved
in_members-loop-i-preserved t c =
    let n = c.args.limit in
    let yes : c.in_function.result ≡ true = search rules in
    rw add-one (one-more (member_keeps n) c.args.functions.now c.loop-i.i c.index-functions-i.result c.loop-i-test.true c.loop-i.invariant (c.in_function.ensures yes))
