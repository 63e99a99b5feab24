use Rattle.std.proofs.Common.{add-one, arith, get_or, ap}
use Rattle.prog_tree.specs.Readings.{reading}
use Rattle.prog_tree.specs.Weights.{exp_weight, field_weight, argument_weight, join_weight, rule_weight, bind_weight, member_weight, dec_weight}
use Rattle.prog_tree.proofs.Sums.{next-sum, next-sum-is, same-read, added}
use Rattle.prog_tree.proofs.Weighing.{record-weighs, let-weighs, apply-weighs, infix-weighs, case-weighs, sequences-weigh, test-weighs, handle-weighs, named-weighs, rules-function-weighs, val-weighs, rule-weight}
use Rattle.prog_tree.proofs.nodes.+nodes.Goals as goal

pub each_nodes-loop-i-preserved : goal.each_nodes-loop-i-preserved
each_nodes-loop-i-preserved t c =
    let p = next-sum-is (exp_weight (reading c.args.tables.now)) c.args.exps.now c.loop-i.i c.index-exps-i.result c.loop-i-test.true c.index-exps-i.is in
    let q = c.saturating_add-total.ensures in let r = c.exp_nodes.ensures in let s = c.loop-i.invariant in rw add-one (omega arith)

pub field_nodes-loop-i-preserved : goal.field_nodes-loop-i-preserved
field_nodes-loop-i-preserved t c =
    let p = next-sum (field_weight (reading c.args.tables.now)) c.args.fields.now c.loop-i.i c.index-fields-i.result c.loop-i-test.true in
    let q = c.saturating_add-total.ensures in let r = c.exp_nodes.ensures in let s = c.loop-i.invariant in rw add-one (omega arith)

pub argument_nodes-loop-i-preserved : goal.argument_nodes-loop-i-preserved
argument_nodes-loop-i-preserved t c =
    let p = next-sum (argument_weight (reading c.args.tables.now)) c.args.arguments.now c.loop-i.i c.index-arguments-i.result c.loop-i-test.true in
    let q = c.saturating_add-total.ensures in let r = c.exp_nodes.ensures in let s = c.loop-i.invariant in rw add-one (omega arith)

pub rule_nodes-loop-i-preserved : goal.rule_nodes-loop-i-preserved
rule_nodes-loop-i-preserved t c =
    let p = next-sum (rule_weight (reading c.args.tables.now)) c.args.rules.now c.loop-i.i c.index-rules-i.result c.loop-i-test.true in
    let k = rule-weight (reading c.args.tables.now) (get_or c.args.rules.now c.loop-i.i c.index-rules-i.result) in let q = c.saturating_add-total.ensures in let r = c.exp_nodes.ensures in let s = c.loop-i.invariant in rw add-one (omega arith)

pub bind_nodes-loop-i-preserved : goal.bind_nodes-loop-i-preserved
bind_nodes-loop-i-preserved t c =
    let p = next-sum (bind_weight (reading c.args.tables.now)) c.args.binds.now c.loop-i.i c.index-binds-i.result c.loop-i-test.true in
    let k = rule-weight (reading c.args.tables.now) (get_or c.args.binds.now c.loop-i.i c.index-binds-i.result).1 in let q = c.saturating_add-total.ensures in let r = c.exp_nodes.ensures in let s = c.loop-i.invariant in rw add-one (omega arith)

pub member_nodes-loop-i-preserved : goal.member_nodes-loop-i-preserved
member_nodes-loop-i-preserved t c =
    let p = next-sum (member_weight (reading c.args.tables.now)) c.args.functions.now c.loop-i.i c.index-functions-i.result c.loop-i-test.true in
    let q = c.saturating_add-total.ensures in let r = c.function_nodes.ensures in let s = c.loop-i.invariant in rw add-one (omega arith)

pub decs_nodes-loop-i-preserved : goal.decs_nodes-loop-i-preserved
decs_nodes-loop-i-preserved t c =
    let p = next-sum-is (dec_weight (reading c.args.tables.now)) c.args.declarations.now c.loop-i.i c.index-declarations-i.result c.loop-i-test.true c.index-declarations-i.is in
    let q = c.saturating_add-total.ensures in let r = c.dec_nodes.ensures in let s = c.loop-i.invariant in rw add-one (omega arith)

pub join_nodes-loop-i-preserved : goal.join_nodes-loop-i-preserved
join_nodes-loop-i-preserved t c =
    let p = next-sum (join_weight (reading c.args.tables.now)) c.args.joins.now c.loop-i.i c.index-joins-i.result c.loop-i-test.true in
    let w = ap (λ j. exp_weight (reading c.args.tables.now) j.2) (same-read c.args.joins.now c.loop-i.i c.index-joins-i.result c.index-joins-i-in-loop-i.result c.loop-i-test.true) in
    let q = c.saturating_add-total.ensures in let u = c.saturating_add.ensures in let r = c.exp_nodes-operator.ensures in let v = c.exp_nodes-operand.ensures in
    let s = c.loop-i.invariant in rw add-one (omega arith)

pub exp_nodes-returns-in-Record : goal.exp_nodes-returns-in-Record
exp_nodes-returns-in-Record t c = rw (c.in-Record.is, record-weighs (reading c.args.tables.now) c.in-Record.field-0 c.in-Record.fields, ← c.deref.ensures.value) c.field_nodes.ensures

pub exp_nodes-returns-in-Let : goal.exp_nodes-returns-in-Let
exp_nodes-returns-in-Let t c = rw (c.in-Let.is, let-weighs (reading c.args.tables.now) c.in-Let.field-0 c.in-Let.declarations c.in-Let.body) (added _ _ _ _ _ _ c.saturating_add.ensures (rw (← c.deref-in-Let.ensures.value) c.decs_nodes.ensures) (rw (← c.deref-in-Let-2.ensures) c.exp_nodes.ensures))

pub exp_nodes-returns-in-Apply : goal.exp_nodes-returns-in-Apply
exp_nodes-returns-in-Apply t c = rw (c.in-Apply.is, apply-weighs (reading c.args.tables.now) c.in-Apply.field-0 c.in-Apply.function c.in-Apply.arguments) (added _ _ _ _ _ _ c.saturating_add-in-Apply.ensures (rw (← c.deref-in-Apply.ensures) c.exp_nodes-in-Apply.ensures) (rw (← c.deref-in-Apply-2.ensures.value) c.argument_nodes.ensures))

pub exp_nodes-returns-in-Infix : goal.exp_nodes-returns-in-Infix
exp_nodes-returns-in-Infix t c = rw (c.in-Infix.is, infix-weighs (reading c.args.tables.now) c.in-Infix.field-0 c.in-Infix.first c.in-Infix.joins) (added _ _ _ _ _ _ c.saturating_add-in-Infix.ensures (rw (← c.deref-in-Infix.ensures) c.exp_nodes-in-Infix.ensures) (rw (← c.deref-in-Infix-2.ensures.value) c.join_nodes.ensures))

pub exp_nodes-returns-in-Case : goal.exp_nodes-returns-in-Case
exp_nodes-returns-in-Case t c = rw (c.in-Case.is, case-weighs (reading c.args.tables.now) c.in-Case.field-0 c.in-Case.field-1 c.in-Case.of c.in-Case.rules) (added _ _ _ _ _ _ c.saturating_add-in-Case.ensures (rw (← c.deref-in-Case.ensures) c.exp_nodes-in-Case.ensures) (rw (← c.deref-in-Case-2.ensures.value) c.rule_nodes.ensures))

pub exp_nodes-returns-in-Sequence : goal.exp_nodes-returns-in-Sequence
exp_nodes-returns-in-Sequence t c = rw (c.in-Sequence.is, sequences-weigh (reading c.args.tables.now) c.in-Sequence.field-0 c.in-Sequence.field-1 c.in-Sequence.before c.in-Sequence.last) (added _ _ _ _ _ _ c.saturating_add-in-Sequence.ensures (rw (← c.deref-in-Sequence.ensures.value) c.each_nodes.ensures) (rw (← c.deref-in-Sequence-2.ensures) c.exp_nodes-in-Sequence.ensures))

pub exp_nodes-returns-in-Test : goal.exp_nodes-returns-in-Test
exp_nodes-returns-in-Test t c = rw (c.in-Test.is, test-weighs (reading c.args.tables.now) c.in-Test.field-0 c.in-Test.field-1 c.in-Test.operands c.in-Test.last) (added _ _ _ _ _ _ c.saturating_add-in-Test.ensures (rw (← c.deref-in-Test.ensures.value) c.each_nodes-in-Test.ensures) (rw (← c.deref-in-Test-2.ensures) c.exp_nodes-in-Test.ensures))

pub exp_nodes-returns-in-Handle : goal.exp_nodes-returns-in-Handle
exp_nodes-returns-in-Handle t c = rw (c.in-Handle.is, handle-weighs (reading c.args.tables.now) c.in-Handle.field-0 c.in-Handle.body c.in-Handle.rules) (added _ _ _ _ _ _ c.saturating_add-in-Handle.ensures (rw (← c.deref-in-Handle.ensures) c.exp_nodes-in-Handle.ensures) (rw (← c.deref-in-Handle-2.ensures.value) c.rule_nodes-in-Handle.ensures))

pub function_nodes-returns-in-Named : goal.function_nodes-returns-in-Named
function_nodes-returns-in-Named t c = rw (c.in-Named.is, named-weighs (reading c.args.tables.now) c.in-Named.field-0 c.in-Named.field-1 c.in-Named.body, ← c.deref.ensures) c.exp_nodes.ensures

pub function_nodes-returns-in-ByRules : goal.function_nodes-returns-in-ByRules
function_nodes-returns-in-ByRules t c =
    rw (c.in-ByRules.is, rules-function-weighs (reading c.args.tables.now) c.in-ByRules.field-0 c.in-ByRules.field-1 c.in-ByRules.field-2 c.in-ByRules.field-3 c.in-ByRules.rules, ← c.deref-in-ByRules.ensures.value) c.rule_nodes.ensures

pub dec_nodes-returns-in-Val : goal.dec_nodes-returns-in-Val
dec_nodes-returns-in-Val t c =
    rw (c.in-Val.is, val-weighs (reading c.args.tables.now) c.in-Val.field-0 c.in-Val.binds c.in-Val.functions)
    (added _ _ _ _ _ _ c.saturating_add.ensures (rw (← c.deref.ensures.value) c.bind_nodes.ensures) (rw (← c.deref-in-Val.ensures.value) c.member_nodes.ensures))
