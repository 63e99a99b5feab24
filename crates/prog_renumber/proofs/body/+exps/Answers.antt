use Rattle.std.proofs.Common.{map, add-one, refl, sym, ap, ap₂, ◌∙◌, arith}
use Rattle.prog_tree.specs.TreeOf.{tree_of, function_of, dec_of, rule_of, field_of, argument_of, join_of, bind_of}
use Rattle.prog_tree.proofs.Sums.{same-read}
use Rattle.prog_renumber.specs.Renumbered.{renumbered, number_at, parameter_at, join_at, binding_at, argument_from, join_from, bind_from, member_of}
use Rattle.prog_renumber.proofs.Each.{next-made, all-made, of-ok, on-ok, three}
use Rattle.prog_renumber.proofs.ExpNodes.{use-renumbered, record-renumbered, let-renumbered, apply-renumbered, infix-renumbered, case-renumbered, sequence-renumbered, test-renumbered, handle-renumbered, raise-renumbered, fn-renumbered, counted-renumbered, named-renumbered, by-rules-renumbered, val-renumbered, rule-renumbered}
use Rattle.prog_renumber.proofs.body.+exps.Goals as goal

pub all_arguments-loop-i-preserved : goal.all_arguments-loop-i-preserved
all_arguments-loop-i-preserved t c = λ Q.
    ap (map (argument_of Q)) c.in_ok-push.ensures.items
    ∙ rw add-one (next-made (argument_of Q) (argument_from c.args.numbers.now Q) c.loop-i.i c.args.arguments.now c.loop-i.made.items (c.at.result, c.in_ok-exp.exp) c.index-arguments-i.result
    (c.loop-i.invariant Q) c.loop-i-test.true
    (ap₂ (λ x y. (x, y))
    (c.at.ensures ∙ ap (λ a. number_at c.args.numbers.now a.0) (same-read c.args.arguments.now c.loop-i.i c.index-arguments-i-in-loop-i.result c.index-arguments-i.result c.loop-i-test.true))
    (c.in_ok-exp.ensures Q)))

pub all_bindings-loop-i-preserved : goal.all_bindings-loop-i-preserved
all_bindings-loop-i-preserved t c = λ Q.
    ap (map (bind_of Q)) c.in_ok-push.ensures.items
    ∙ rw add-one (next-made (bind_of Q) (bind_from c.args.numbers.now Q) c.loop-i.i c.args.bindings.now c.loop-i.made.items (c.binding.result, c.in_ok-rule.rule) c.index-bindings-i.result
    (c.loop-i.invariant Q) c.loop-i-test.true
    (ap₂ (λ x y. (x, y))
    (c.binding.ensures ∙ ap (λ a. binding_at c.args.numbers.now a.0) (same-read c.args.bindings.now c.loop-i.i c.index-bindings-i-in-loop-i.result c.index-bindings-i.result c.loop-i-test.true))
    (c.in_ok-rule.ensures Q)))

pub all_declarations-loop-i-preserved : goal.all_declarations-loop-i-preserved
all_declarations-loop-i-preserved t c = λ Q.
    ap (map (dec_of Q)) c.in_ok-push.ensures.items
    ∙ rw add-one (next-made (dec_of Q) (dec_of (renumbered c.args.numbers.now Q)) c.loop-i.i c.args.decs.now c.loop-i.made.items c.in_ok-declaration.field-0 c.index-decs-i.result
    (c.loop-i.invariant Q) c.loop-i-test.true (c.in_ok-declaration.ensures Q ∙ ap (dec_of (renumbered c.args.numbers.now Q)) c.index-decs-i.is))

pub all_declarations-returns : goal.all_declarations-returns
all_declarations-returns t c = λ Q. all-made (dec_of Q) (dec_of (renumbered c.args.numbers.now Q)) c.loop-i.i c.args.decs.now c.loop-i.made.items (c.loop-i.invariant Q) (omega (arith, c.loop-i-test.false))

pub all_expressions-loop-i-preserved : goal.all_expressions-loop-i-preserved
all_expressions-loop-i-preserved t c = λ Q.
    ap (map (tree_of Q)) c.in_ok-push.ensures.items
    ∙ rw add-one (next-made (tree_of Q) (tree_of (renumbered c.args.numbers.now Q)) c.loop-i.i c.args.exps.now c.loop-i.made.items c.in_ok-expression.field-0 c.index-exps-i.result
    (c.loop-i.invariant Q) c.loop-i-test.true (c.in_ok-expression.ensures Q ∙ ap (tree_of (renumbered c.args.numbers.now Q)) c.index-exps-i.is))

pub all_expressions-returns : goal.all_expressions-returns
all_expressions-returns t c = λ Q. all-made (tree_of Q) (tree_of (renumbered c.args.numbers.now Q)) c.loop-i.i c.args.exps.now c.loop-i.made.items (c.loop-i.invariant Q) (omega (arith, c.loop-i-test.false))

pub all_joins-loop-i-preserved : goal.all_joins-loop-i-preserved
all_joins-loop-i-preserved t c = λ Q.
    ap (map (join_of Q)) c.in_ok-push.ensures.items
    ∙ rw add-one (next-made (join_of Q) (join_from c.args.numbers.now Q) c.loop-i.i c.args.joins.now c.loop-i.made.items (c.join.result, c.in_ok-operator.operator, c.in_ok-operator.operand) c.index-joins-i.result
    (c.loop-i.invariant Q) c.loop-i-test.true
    (three _ _ _ _ _ _ (c.join.ensures ∙ ap (λ a. join_at c.args.numbers.now a.0) (same-read c.args.joins.now c.loop-i.i c.index-joins-i-in-loop-i-2.result c.index-joins-i.result c.loop-i-test.true))
    (of-ok c.expression.result c.in_ok-operator.operator _ c.expression.ensures c.in_ok-operator.ensures.first Q)
    (of-ok c.expression-in-loop-i.result c.in_ok-operator.operand _ c.expression-in-loop-i.ensures c.in_ok-operator.ensures.second Q ∙ ap (λ a. tree_of (renumbered c.args.numbers.now Q) a.2) (same-read c.args.joins.now c.loop-i.i c.index-joins-i-in-loop-i.result c.index-joins-i.result c.loop-i-test.true))))

pub all_members-loop-i-preserved : goal.all_members-loop-i-preserved
all_members-loop-i-preserved t c = λ Q.
    ap (map (member_of Q)) c.in_ok-push.ensures.items
    ∙ rw add-one (next-made (member_of Q) (member_of (renumbered c.args.numbers.now Q)) c.loop-i.i c.args.members.now c.loop-i.made.items (c.in_ok-variables.variables, c.at.result, c.in_ok-variables.function) c.index-members-i.result
    (c.loop-i.invariant Q) c.loop-i-test.true
    (three _ _ _ _ _ _ (of-ok c.copy_variables.result c.in_ok-variables.variables _ c.copy_variables.ensures c.in_ok-variables.ensures.first ∙ c.deref.ensures.value)
    (ap Q.type (c.at.ensures ∙ ap (λ a. number_at c.args.numbers.now a.1) (same-read c.args.members.now c.loop-i.i c.index-members-i-in-loop-i-2.result c.index-members-i.result c.loop-i-test.true)))
    (of-ok c.function_with.result c.in_ok-variables.function _ c.function_with.ensures c.in_ok-variables.ensures.second Q ∙ ap (λ a. function_of (renumbered c.args.numbers.now Q) a.2) (same-read c.args.members.now c.loop-i.i c.index-members-i-in-loop-i.result c.index-members-i.result c.loop-i-test.true))))

pub all_rules-loop-i-preserved : goal.all_rules-loop-i-preserved
all_rules-loop-i-preserved t c = λ Q.
    ap (map (rule_of Q)) c.in_ok-push.ensures.items
    ∙ rw add-one (next-made (rule_of Q) (rule_of (renumbered c.args.numbers.now Q)) c.loop-i.i c.args.rules.now c.loop-i.made.items c.in_ok-rule_with.field-0 c.index-rules-i.result
    (c.loop-i.invariant Q) c.loop-i-test.true (c.in_ok-rule_with.ensures Q ∙ ap (rule_of (renumbered c.args.numbers.now Q)) c.index-rules-i.is))

pub all_rules-returns : goal.all_rules-returns
all_rules-returns t c = λ Q. all-made (rule_of Q) (rule_of (renumbered c.args.numbers.now Q)) c.loop-i.i c.args.rules.now c.loop-i.made.items (c.loop-i.invariant Q) (omega (arith, c.loop-i-test.false))

pub boxed_expression-returns : goal.boxed_expression-returns
boxed_expression-returns t c = on-ok c.boxed.result (λ new e Q. ap (tree_of Q) e ∙ c.in_ok-made.ensures Q) c.boxed.ensures

pub declaration-returns-in-Ok : goal.declaration-returns-in-Ok
declaration-returns-in-Ok t c = λ Q.
    val-renumbered c.args.numbers.now Q c.in-Val.parameters c.in-Val.parameters c.in-Val.bindings c.in-Ok.bindings c.in-Val.members c.in-Ok.members refl
    (of-ok c.all_bindings.result c.in-Ok.bindings _ c.all_bindings.ensures c.in-Ok.ensures.first Q ∙ ap (map (bind_from c.args.numbers.now Q)) c.deref.ensures.value)
    (of-ok c.all_members.result c.in-Ok.members _ c.all_members.ensures c.in-Ok.ensures.second Q ∙ ap (map (member_of (renumbered c.args.numbers.now Q))) c.deref-in-Val.ensures.value)
    ∙ ap (dec_of (renumbered c.args.numbers.now Q)) (sym c.in-Val.is)

pub expression-returns-in_ok-made-in-Use : goal.expression-returns-in_ok-made-in-Use
expression-returns-in_ok-made-in-Use t c = λ Q.
    use-renumbered c.args.numbers.now Q c.in-Use.used c.in-Use.used c.in-Use.types c.in_ok-made-in-Use.made c.in-Use.ty c.at-in-Use.result refl
    (c.in_ok-made-in-Use.ensures ∙ ap (map (number_at c.args.numbers.now)) c.deref.ensures.value) c.at-in-Use.ensures
    ∙ ap (tree_of (renumbered c.args.numbers.now Q)) (sym c.in-Use.is)

pub expression-returns-in_ok-made-in-Record : goal.expression-returns-in_ok-made-in-Record
expression-returns-in_ok-made-in-Record t c = λ Q.
    record-renumbered c.args.numbers.now Q c.in-Record.ty c.at-in-Record.result c.in-Record.fields c.in_ok-made-in-Record.made c.at-in-Record.ensures
    (c.in_ok-made-in-Record.ensures Q ∙ ap (map (field_of (renumbered c.args.numbers.now Q))) c.deref-in-Record.ensures.value)
    ∙ ap (tree_of (renumbered c.args.numbers.now Q)) (sym c.in-Record.is)

pub expression-returns-in-Ok : goal.expression-returns-in-Ok
expression-returns-in-Ok t c = λ Q.
    let-renumbered c.args.numbers.now Q c.in-Let.ty c.at-in-Ok.result c.in-Let.declarations c.in-Ok.declarations c.in-Let.body c.in-Ok.body c.at-in-Ok.ensures
    (of-ok c.all_declarations.result c.in-Ok.declarations _ c.all_declarations.ensures c.in-Ok.ensures.first Q ∙ ap (map (dec_of (renumbered c.args.numbers.now Q))) c.deref-in-Let.ensures.value)
    (of-ok c.boxed_expression.result c.in-Ok.body _ c.boxed_expression.ensures c.in-Ok.ensures.second Q ∙ ap (tree_of (renumbered c.args.numbers.now Q)) c.deref-in-Let-2.ensures)
    ∙ ap (tree_of (renumbered c.args.numbers.now Q)) (sym c.in-Let.is)

pub expression-returns-in-Ok-both : goal.expression-returns-in-Ok-both
expression-returns-in-Ok-both t c = λ Q.
    apply-renumbered c.args.numbers.now Q c.in-Apply.place c.in-Apply.place c.in-Apply.function c.in-Ok-both.function c.in-Apply.arguments c.in-Ok-both.arguments refl
    (of-ok c.boxed_expression-in-Apply.result c.in-Ok-both.function _ c.boxed_expression-in-Apply.ensures c.in-Ok-both.ensures.first Q ∙ ap (tree_of (renumbered c.args.numbers.now Q)) c.deref-in-Apply.ensures)
    (of-ok c.all_arguments.result c.in-Ok-both.arguments _ c.all_arguments.ensures c.in-Ok-both.ensures.second Q ∙ ap (map (argument_from c.args.numbers.now Q)) c.deref-in-Apply-2.ensures.value)
    ∙ ap (tree_of (renumbered c.args.numbers.now Q)) (sym c.in-Apply.is)

pub expression-returns-in-Ok-both-2 : goal.expression-returns-in-Ok-both-2
expression-returns-in-Ok-both-2 t c = λ Q.
    infix-renumbered c.args.numbers.now Q c.in-Infix.side c.in-Infix.side c.in-Infix.first c.in-Ok-both-2.first c.in-Infix.joins c.in-Ok-both-2.joins refl
    (of-ok c.boxed_expression-in-Infix.result c.in-Ok-both-2.first _ c.boxed_expression-in-Infix.ensures c.in-Ok-both-2.ensures.first Q ∙ ap (tree_of (renumbered c.args.numbers.now Q)) c.deref-in-Infix.ensures)
    (of-ok c.all_joins.result c.in-Ok-both-2.joins _ c.all_joins.ensures c.in-Ok-both-2.ensures.second Q ∙ ap (map (join_from c.args.numbers.now Q)) c.deref-in-Infix-2.ensures.value)
    ∙ ap (tree_of (renumbered c.args.numbers.now Q)) (sym c.in-Infix.is)

pub expression-returns-in-Ok-both-3 : goal.expression-returns-in-Ok-both-3
expression-returns-in-Ok-both-3 t c = λ Q.
    case-renumbered c.args.numbers.now Q c.in-Case.place c.in-Case.place c.in-Case.ty c.at-in-Ok-both-3.result c.in-Case.of c.in-Ok-both-3.of c.in-Case.rules c.in-Ok-both-3.rules refl c.at-in-Ok-both-3.ensures
    (of-ok c.boxed_expression-in-Case.result c.in-Ok-both-3.of _ c.boxed_expression-in-Case.ensures c.in-Ok-both-3.ensures.first Q ∙ ap (tree_of (renumbered c.args.numbers.now Q)) c.deref-in-Case.ensures)
    (of-ok c.all_rules.result c.in-Ok-both-3.rules _ c.all_rules.ensures c.in-Ok-both-3.ensures.second Q ∙ ap (map (rule_of (renumbered c.args.numbers.now Q))) c.deref-in-Case-2.ensures.value)
    ∙ ap (tree_of (renumbered c.args.numbers.now Q)) (sym c.in-Case.is)

pub expression-returns-in-Ok-both-4 : goal.expression-returns-in-Ok-both-4
expression-returns-in-Ok-both-4 t c = λ Q.
    sequence-renumbered c.args.numbers.now Q c.in-Sequence.place c.in-Sequence.place c.in-Sequence.ty c.at-in-Ok-both-4.result c.in-Sequence.before c.in-Ok-both-4.before c.in-Sequence.last c.in-Ok-both-4.last refl c.at-in-Ok-both-4.ensures
    (of-ok c.all_expressions.result c.in-Ok-both-4.before _ c.all_expressions.ensures c.in-Ok-both-4.ensures.first Q ∙ ap (map (tree_of (renumbered c.args.numbers.now Q))) c.deref-in-Sequence.ensures.value)
    (of-ok c.boxed_expression-in-Sequence.result c.in-Ok-both-4.last _ c.boxed_expression-in-Sequence.ensures c.in-Ok-both-4.ensures.second Q ∙ ap (tree_of (renumbered c.args.numbers.now Q)) c.deref-in-Sequence-2.ensures)
    ∙ ap (tree_of (renumbered c.args.numbers.now Q)) (sym c.in-Sequence.is)

pub expression-returns-in-Ok-both-5 : goal.expression-returns-in-Ok-both-5
expression-returns-in-Ok-both-5 t c = λ Q.
    test-renumbered c.args.numbers.now Q c.in-Test.all c.in-Test.all c.in-Test.ty c.at-in-Ok-both-5.result c.in-Test.operands c.in-Ok-both-5.operands c.in-Test.last c.in-Ok-both-5.last refl c.at-in-Ok-both-5.ensures
    (of-ok c.all_expressions-in-Test.result c.in-Ok-both-5.operands _ c.all_expressions-in-Test.ensures c.in-Ok-both-5.ensures.first Q ∙ ap (map (tree_of (renumbered c.args.numbers.now Q))) c.deref-in-Test.ensures.value)
    (of-ok c.boxed_expression-in-Test.result c.in-Ok-both-5.last _ c.boxed_expression-in-Test.ensures c.in-Ok-both-5.ensures.second Q ∙ ap (tree_of (renumbered c.args.numbers.now Q)) c.deref-in-Test-2.ensures)
    ∙ ap (tree_of (renumbered c.args.numbers.now Q)) (sym c.in-Test.is)

pub expression-returns-in-Ok-both-6 : goal.expression-returns-in-Ok-both-6
expression-returns-in-Ok-both-6 t c = λ Q.
    handle-renumbered c.args.numbers.now Q c.in-Handle.ty c.at-in-Ok-both-6.result c.in-Handle.body c.in-Ok-both-6.body c.in-Handle.rules c.in-Ok-both-6.rules c.at-in-Ok-both-6.ensures
    (of-ok c.boxed_expression-in-Handle.result c.in-Ok-both-6.body _ c.boxed_expression-in-Handle.ensures c.in-Ok-both-6.ensures.first Q ∙ ap (tree_of (renumbered c.args.numbers.now Q)) c.deref-in-Handle.ensures)
    (of-ok c.all_rules-in-Handle.result c.in-Ok-both-6.rules _ c.all_rules-in-Handle.ensures c.in-Ok-both-6.ensures.second Q ∙ ap (map (rule_of (renumbered c.args.numbers.now Q))) c.deref-in-Handle-2.ensures.value)
    ∙ ap (tree_of (renumbered c.args.numbers.now Q)) (sym c.in-Handle.is)

pub expression-returns-in_ok-made-in-Raise : goal.expression-returns-in_ok-made-in-Raise
expression-returns-in_ok-made-in-Raise t c = λ Q.
    raise-renumbered c.args.numbers.now Q c.in-Raise.ty c.at-in-Raise.result c.in-Raise.packet c.in_ok-made-in-Raise.made c.at-in-Raise.ensures
    (c.in_ok-made-in-Raise.ensures Q ∙ ap (tree_of (renumbered c.args.numbers.now Q)) c.deref-in-Raise.ensures)
    ∙ ap (tree_of (renumbered c.args.numbers.now Q)) (sym c.in-Raise.is)

pub expression-returns-in_ok-made-in-Fn : goal.expression-returns-in_ok-made-in-Fn
expression-returns-in_ok-made-in-Fn t c = λ Q.
    fn-renumbered c.args.numbers.now Q c.in-Fn.ty c.at-in-Fn.result c.in-Fn.function c.in_ok-made-in-Fn.made c.at-in-Fn.ensures
    (c.in_ok-made-in-Fn.ensures Q)
    ∙ ap (tree_of (renumbered c.args.numbers.now Q)) (sym c.in-Fn.is)

pub expression-returns-in_ok-made-in-Counted : goal.expression-returns-in_ok-made-in-Counted
expression-returns-in_ok-made-in-Counted t c = λ Q.
    counted-renumbered c.args.numbers.now Q c.in-Counted.count c.in-Counted.count c.in-Counted.ty c.at-in-Counted.result c.in-Counted.body c.in_ok-made-in-Counted.made refl c.at-in-Counted.ensures
    (c.in_ok-made-in-Counted.ensures Q ∙ ap (tree_of (renumbered c.args.numbers.now Q)) c.deref-in-Counted.ensures)
    ∙ ap (tree_of (renumbered c.args.numbers.now Q)) (sym c.in-Counted.is)

pub function_with-returns-in-Ok : goal.function_with-returns-in-Ok
function_with-returns-in-Ok t c = λ Q.
    named-renumbered c.args.numbers.now Q c.in-Named.parameters c.in-Ok.parameters c.in-Named.last c.parameter.result c.in-Named.body c.in-Ok.body
    (of-ok c.parameters.result c.in-Ok.parameters _ c.parameters.ensures c.in-Ok.ensures.first ∙ ap (map (parameter_at c.args.numbers.now)) c.deref.ensures.value) c.parameter.ensures
    (of-ok c.boxed_expression.result c.in-Ok.body _ c.boxed_expression.ensures c.in-Ok.ensures.second Q ∙ ap (tree_of (renumbered c.args.numbers.now Q)) c.deref-in-Named.ensures)
    ∙ ap (function_of (renumbered c.args.numbers.now Q)) (sym c.in-Named.is)

pub function_with-returns-in-Ok-both : goal.function_with-returns-in-Ok-both
function_with-returns-in-Ok-both t c = λ Q.
    by-rules-renumbered c.args.numbers.now Q c.in-ByRules.parameters c.in-Ok-both.parameters c.in-ByRules.place c.in-ByRules.place c.in-ByRules.argument c.at.result c.in-ByRules.answer c.at-in-Ok-both.result c.in-ByRules.rules c.in-Ok-both.rules
    (of-ok c.parameters-in-ByRules.result c.in-Ok-both.parameters _ c.parameters-in-ByRules.ensures c.in-Ok-both.ensures.first ∙ ap (map (parameter_at c.args.numbers.now)) c.deref-in-ByRules.ensures.value) refl c.at.ensures c.at-in-Ok-both.ensures
    (of-ok c.all_rules.result c.in-Ok-both.rules _ c.all_rules.ensures c.in-Ok-both.ensures.second Q ∙ ap (map (rule_of (renumbered c.args.numbers.now Q))) c.deref-in-ByRules-2.ensures.value)
    ∙ ap (function_of (renumbered c.args.numbers.now Q)) (sym c.in-ByRules.is)

pub record_fields-loop-i-preserved : goal.record_fields-loop-i-preserved
record_fields-loop-i-preserved t c = λ Q.
    ap (map (field_of Q)) c.in_ok-push.ensures.items
    ∙ rw add-one (next-made (field_of Q) (field_of (renumbered c.args.numbers.now Q)) c.loop-i.i c.args.fields.now c.loop-i.made.items (_, c.in_ok-exp.exp) c.index-fields-i.result
    (c.loop-i.invariant Q) c.loop-i-test.true
    (ap₂ (λ x y. (x, y)) (ap (λ a. a.0) (same-read c.args.fields.now c.loop-i.i c.index-fields-i-in-loop-i.result c.index-fields-i.result c.loop-i-test.true)) (c.in_ok-exp.ensures Q)))

pub rule_with-returns-in-Ok : goal.rule_with-returns-in-Ok
rule_with-returns-in-Ok t c = λ Q.
    rule-renumbered c.args.numbers.now Q c.args.rule.now _ (of-ok c.pattern.result c.in-Ok.pat _ c.pattern.ensures c.in-Ok.ensures.first Q)
    (of-ok c.expression.result c.in-Ok.exp _ c.expression.ensures c.in-Ok.ensures.second Q)
