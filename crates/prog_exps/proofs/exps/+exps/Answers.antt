use Rattle.std.proofs.Common.{◌+◌, [], map, drop, refl, sym, ap, ◌∙◌, subst}
use Rattle.ty_table.specs.TypeAt.{type_at}
use Rattle.ir_poly.specs.ProgChecked.{pat_onto, funs_onto, binds_onto}
use Rattle.ir_tables.specs.Tables.{parameters_of, parameters_at}
use Rattle.prog_known.specs.declared.manner.Manner.TheVariants.{Plain, Own, Over}
use Rattle.prog_known.specs.Onto.{Onto, known_by}
use Rattle.prog_known.specs.Lists.{run, hold, all_hold}
use Rattle.prog_known.proofs.OntoLemmas.{as-onto, then-onto}
use Rattle.prog_tree.specs.Readings.{reading}
use Rattle.prog_tree.specs.TreeOf.{pat_of, funs_by, fun_of, binds_by, bind_of}
use Rattle.prog_leaves.specs.Places.{Adds}
use Rattle.prog_leaves.specs.of_prog_parts.Expressions.{type_in, right_type, argument_next, join_next, parameter_onto, dec_onto, dec_step}
use Rattle.prog_leaves.proofs.of_prog_parts.Truths.{two, ok-as}
use Rattle.prog_leaves.specs.Right.{exp_right, typed_right, field_right, record_right, argument_right, joined, joined_right, join_right, rule_right, dropped_right, is_last, operand_right, function_right, fn_right, named_right, by_rules_right, member_right, plain_right, group_right, inner_right, dec_right, decs_right, atom_right, use_right, raise_right, has_known, exception_right, exception_onto, val_onto, is_function_type}
use Rattle.prog_leaves.proofs.Going.{keeping-starts, keeping-more, keeping-ends, moving-starts, moving-more, moving-ends, declaring-starts, declaring-more, declaring-right, declaring-adds}
use Rattle.prog_leaves.proofs.Nodes.{atom-right, use-right, record-right, apply-right, infix-right, case-right, sequence-right, test-right, handle-right, raise-right, fn-right, counted-right, let-right, named-right, by-rules-right, val-right, exception-right, weight-right, val-known, exception-known, weight-known}
use Rattle.prog_exps.proofs.Added.{adds-as, adds-if, adds-none, adds-then, ok-any}
use Rattle.prog_leaves.proofs.Inside.{extends-adds, extends-more, adds-kept, extends-kept, let-made, rule-made, case-made, handle-made, raise-made, named-made, by-rules-made, group-made, val-made}
use Rattle.prog_exps.proofs.exps.+exps.Goals as goal

pub check_fields-loop-i-init : goal.check_fields-loop-i-init
check_fields-loop-i-init t c = keeping-starts (field_right c.args.tables.now) c.args.fields.now c.args.environment.now

pub check_fields-loop-i-preserved : goal.check_fields-loop-i-preserved
check_fields-loop-i-preserved t c = keeping-more (field_right c.args.tables.now) c.args.fields.now c.args.environment.now c.loop-i.i c.index-fields-i.result c.loop-i.environment c.check_exp.new.environment c.loop-i.so_far c.in_ok-one.one c.both-so_far.result
    c.loop-i-test.true c.index-fields-i.is c.in_ok-one.ensures.right c.in_ok-one.ensures.kept c.both-so_far.ensures c.loop-i.invariant

pub check_fields-returns-clause-right : goal.check_fields-returns-clause-right
check_fields-returns-clause-right t c = keeping-ends (field_right c.args.tables.now) c.args.fields.now c.args.environment.now c.loop-i.i c.loop-i.environment c.loop-i.so_far c.loop-i-test.false c.loop-i.invariant

pub check_fields-returns-clause-kept : goal.check_fields-returns-clause-kept
check_fields-returns-clause-kept t c = c.loop-i.invariant.kept

pub check_dropped-loop-i-init : goal.check_dropped-loop-i-init
check_dropped-loop-i-init t c = keeping-starts (dropped_right c.args.tables.now) c.args.exps.now c.args.environment.now

pub check_dropped-loop-i-preserved : goal.check_dropped-loop-i-preserved
check_dropped-loop-i-preserved t c = keeping-more (dropped_right c.args.tables.now) c.args.exps.now c.args.environment.now c.loop-i.i c.index-exps-i.result c.loop-i.environment c.check_drop.new.environment c.loop-i.so_far c.in_ok-one.one c.both-so_far.result
    c.loop-i-test.true c.index-exps-i.is c.in_ok-one.ensures.right c.in_ok-one.ensures.kept c.both-so_far.ensures c.loop-i.invariant

pub check_dropped-returns-clause-right : goal.check_dropped-returns-clause-right
check_dropped-returns-clause-right t c = keeping-ends (dropped_right c.args.tables.now) c.args.exps.now c.args.environment.now c.loop-i.i c.loop-i.environment c.loop-i.so_far c.loop-i-test.false c.loop-i.invariant

pub check_dropped-returns-clause-kept : goal.check_dropped-returns-clause-kept
check_dropped-returns-clause-kept t c = c.loop-i.invariant.kept

pub check_operands-loop-i-init : goal.check_operands-loop-i-init
check_operands-loop-i-init t c = keeping-starts (operand_right c.args.tables.now) c.args.exps.now c.args.environment.now

pub check_operands-loop-i-preserved : goal.check_operands-loop-i-preserved
check_operands-loop-i-preserved t c = keeping-more (operand_right c.args.tables.now) c.args.exps.now c.args.environment.now c.loop-i.i c.index-exps-i.result c.loop-i.environment c.check_operand.new.environment c.loop-i.so_far c.in_ok-one.one c.both-so_far.result
    c.loop-i-test.true c.index-exps-i.is c.in_ok-one.ensures.right c.in_ok-one.ensures.kept c.both-so_far.ensures c.loop-i.invariant

pub check_operands-returns-clause-right : goal.check_operands-returns-clause-right
check_operands-returns-clause-right t c = keeping-ends (operand_right c.args.tables.now) c.args.exps.now c.args.environment.now c.loop-i.i c.loop-i.environment c.loop-i.so_far c.loop-i-test.false c.loop-i.invariant

pub check_operands-returns-clause-kept : goal.check_operands-returns-clause-kept
check_operands-returns-clause-kept t c = c.loop-i.invariant.kept

pub check_members-loop-i-init : goal.check_members-loop-i-init
check_members-loop-i-init t c = keeping-starts (member_right c.args.tables.now) c.args.members.now c.args.environment.now

pub check_members-returns-clause-right : goal.check_members-returns-clause-right
check_members-returns-clause-right t c = keeping-ends (member_right c.args.tables.now) c.args.members.now c.args.environment.now c.loop-i.i c.loop-i.environment c.loop-i.so_far c.loop-i-test.false c.loop-i.invariant

pub check_members-returns-clause-kept : goal.check_members-returns-clause-kept
check_members-returns-clause-kept t c = c.loop-i.invariant.kept

pub check_inners-loop-i-init : goal.check_inners-loop-i-init
check_inners-loop-i-init t c = keeping-starts (inner_right c.args.tables.now) c.args.binds.now c.args.environment.now

pub check_inners-returns-clause-right : goal.check_inners-returns-clause-right
check_inners-returns-clause-right t c = keeping-ends (inner_right c.args.tables.now) c.args.binds.now c.args.environment.now c.loop-i.i c.loop-i.environment c.loop-i.so_far c.loop-i-test.false c.loop-i.invariant

pub check_inners-returns-clause-kept : goal.check_inners-returns-clause-kept
check_inners-returns-clause-kept t c = c.loop-i.invariant.kept

pub check_rules-loop-i-init : goal.check_rules-loop-i-init
check_rules-loop-i-init t c = keeping-starts (λ e. rule_right c.args.tables.now e c.args.of c.args.ty) c.args.rules.now c.args.environment.now

pub check_rules-loop-i-preserved : goal.check_rules-loop-i-preserved
check_rules-loop-i-preserved t c = keeping-more (λ e. rule_right c.args.tables.now e c.args.of c.args.ty) c.args.rules.now c.args.environment.now c.loop-i.i c.index-rules-i.result c.loop-i.environment c.check_rule.new.environment c.loop-i.so_far c.in_ok-one.one c.both-so_far.result
    c.loop-i-test.true c.index-rules-i.is c.in_ok-one.ensures.right c.in_ok-one.ensures.kept c.both-so_far.ensures c.loop-i.invariant

pub check_rules-returns-clause-right : goal.check_rules-returns-clause-right
check_rules-returns-clause-right t c = keeping-ends (λ e. rule_right c.args.tables.now e c.args.of c.args.ty) c.args.rules.now c.args.environment.now c.loop-i.i c.loop-i.environment c.loop-i.so_far c.loop-i-test.false c.loop-i.invariant

pub check_rules-returns-clause-kept : goal.check_rules-returns-clause-kept
check_rules-returns-clause-kept t c = c.loop-i.invariant.kept

pub check_arguments-loop-i-init : goal.check_arguments-loop-i-init
check_arguments-loop-i-init t c = moving-starts (argument_right c.args.tables.now) (argument_next c.args.tables.now) (type_at c.args.tables.now.types c.args.of) c.args.arguments.now c.args.environment.now

pub check_arguments-returns-clause-right : goal.check_arguments-returns-clause-right
check_arguments-returns-clause-right t c = moving-ends (argument_right c.args.tables.now) (argument_next c.args.tables.now) (type_at c.args.tables.now.types c.args.of) c.args.arguments.now c.args.environment.now c.loop-i.i (type_at c.args.tables.now.types c.loop-i.now) c.loop-i.environment c.loop-i.so_far c.loop-i-test.false c.loop-i.invariant

pub check_arguments-returns-clause-kept : goal.check_arguments-returns-clause-kept
check_arguments-returns-clause-kept t c = c.loop-i.invariant.kept

pub check_joins-loop-i-init : goal.check_joins-loop-i-init
check_joins-loop-i-init t c = moving-starts (λ e. join_right c.args.tables.now e c.args.side) (join_next c.args.tables.now c.args.side) (type_at c.args.tables.now.types c.args.left) c.args.joins.now c.args.environment.now

pub check_joins-returns-clause-right : goal.check_joins-returns-clause-right
check_joins-returns-clause-right t c = moving-ends (λ e. join_right c.args.tables.now e c.args.side) (join_next c.args.tables.now c.args.side) (type_at c.args.tables.now.types c.args.left) c.args.joins.now c.args.environment.now c.loop-i.i (type_at c.args.tables.now.types c.loop-i.now) c.loop-i.environment c.loop-i.so_far c.loop-i-test.false c.loop-i.invariant

pub check_joins-returns-clause-kept : goal.check_joins-returns-clause-kept
check_joins-returns-clause-kept t c = c.loop-i.invariant.kept

pub check_decs-loop-i-init : goal.check_decs-loop-i-init
check_decs-loop-i-init t c = declaring-starts c.args.tables.now c.args.declarations.now c.args.environment.now

pub check_decs-loop-i-preserved : goal.check_decs-loop-i-preserved
check_decs-loop-i-preserved t c = declaring-more c.args.tables.now c.args.declarations.now c.args.environment.now c.loop-i.i c.index-declarations-i.result c.loop-i.environment c.check_dec.new.environment c.loop-i.so_far c.in_ok-one.one c.both-so_far.result
    c.loop-i-test.true c.index-declarations-i.is c.in_ok-one.ensures.right c.in_ok-one.ensures.adds c.both-so_far.ensures c.loop-i.invariant

pub check_decs-returns-clause-right : goal.check_decs-returns-clause-right
check_decs-returns-clause-right t c = declaring-right c.args.tables.now c.args.declarations.now c.args.environment.now c.loop-i.i c.loop-i.environment c.loop-i.so_far c.loop-i-test.false c.loop-i.invariant

pub check_decs-returns-clause-adds : goal.check_decs-returns-clause-adds
check_decs-returns-clause-adds t c = declaring-adds c.args.tables.now c.args.declarations.now c.args.environment.now c.loop-i.i c.loop-i.environment c.loop-i.so_far c.loop-i-test.false c.loop-i.invariant

pub check_typed-returns-clause-right : goal.check_typed-returns-clause-right
check_typed-returns-clause-right t c = two c.both.ensures c.in_ok-right.ensures.right c.has_type-typed.ensures

pub check_raise-returns-clause-right : goal.check_raise-returns-clause-right
check_raise-returns-clause-right t c = c.in_ok-right.ensures.right ∙ raise-made c.args.tables.now c.args.environment.now c.args.packet.now c.args.facts.now.exn c.requires.exn

pub check_record-returns-clause-right : goal.check_record-returns-clause-right
check_record-returns-clause-right t c = two c.both.ensures c.in_ok-right.ensures.right c.in_ok-row.ensures

pub check_rule-returns-clause-right : goal.check_rule-returns-clause-right
check_rule-returns-clause-right t c =
    two c.both.ensures c.in_ok-matched.ensures c.in_ok-right.ensures.right ∙ rule-made c.args.tables.now c.args.environment.now (record { parameters = c.args.environment.now.parameters; variables = c.bind_pat.new.variables }) c.args.of c.args.ty c.args.rule.now (record { parameters = refl; onto = c.in_ok-bind_pat.ensures })

pub check_rule-returns-clause-kept : goal.check_rule-returns-clause-kept
check_rule-returns-clause-kept t c =
    c.leave.ensures c.args.environment.now c.mark_place-back.ensures (extends-kept c.args.environment.now (record { parameters = c.args.environment.now.parameters; variables = c.bind_pat.new.variables }) c.check_typed.new.environment c.in_ok-right.ensures.kept
    (extends-adds c.args.tables.now c.args.environment.now (record { parameters = c.args.environment.now.parameters; variables = c.bind_pat.new.variables }) (pat_onto (known_by c.args.tables.now Plain) (pat_of (reading c.args.tables.now) c.args.rule.now.pat) (type_at c.args.tables.now.types c.args.of)) (record { parameters = refl; onto = c.in_ok-bind_pat.ensures })))

pub check_drop-returns-clause-right : goal.check_drop-returns-clause-right
check_drop-returns-clause-right t c = two c.both.ensures c.in_ok-right.ensures.right (c.in_ok-known.ensures ∙ ap (λ e. has_known c.args.tables.now e c.args.exp.now) c.in_ok-right.ensures.kept)

pub check_operand-returns-clause-right : goal.check_operand-returns-clause-right
check_operand-returns-clause-right t c = two c.both.ensures c.in_ok-right.ensures.right c.is_test-test.ensures

pub check_fn-returns-clause-right : goal.check_fn-returns-clause-right
check_fn-returns-clause-right t c = two c.both.ensures c.in_ok-right.ensures.right c.is_function_type-typed.ensures

pub check_function-returns-in-Named-clause-right : goal.check_function-returns-in-Named-clause-right
check_function-returns-in-Named-clause-right t c = ok-as c.check_named.result _ _
    (ap (λ l. named_right c.args.tables.now c.args.environment.now l c.in-Named.last c.deref-in-Named.result.now) c.deref.ensures.value ∙ ap (λ b. named_right c.args.tables.now c.args.environment.now c.in-Named.parameters.items c.in-Named.last b) c.deref-in-Named.ensures
    ∙ sym (named-right c.args.tables.now c.args.environment.now c.in-Named.parameters c.in-Named.last c.in-Named.body) ∙ ap (function_right c.args.tables.now c.args.environment.now) (sym c.in-Named.is)) c.check_named.ensures.right

pub check_function-returns-in-ByRules-clause-right : goal.check_function-returns-in-ByRules-clause-right
check_function-returns-in-ByRules-clause-right t c = ok-as c.check_by_rules.result _ _
    (ap (λ l. by_rules_right c.args.tables.now c.args.environment.now l c.in-ByRules.argument c.in-ByRules.given c.deref-in-ByRules-2.result.now) c.deref-in-ByRules.ensures.value
    ∙ ap (λ l. by_rules_right c.args.tables.now c.args.environment.now c.in-ByRules.parameters.items c.in-ByRules.argument c.in-ByRules.given l) c.deref-in-ByRules-2.ensures.value
    ∙ sym (by-rules-right c.args.tables.now c.args.environment.now c.in-ByRules.parameters c.in-ByRules.field-1 c.in-ByRules.argument c.in-ByRules.given c.in-ByRules.rules) ∙ ap (function_right c.args.tables.now c.args.environment.now) (sym c.in-ByRules.is)) c.check_by_rules.ensures.right

pub check_named-returns-clause-right : goal.check_named-returns-clause-right
check_named-returns-clause-right t c = two c.both-2.ensures c.in_ok-before.ensures.right (two c.both.ensures c.in_ok-known.ensures.right c.in_ok-right.ensures.right)
    ∙ named-made c.args.tables.now c.args.environment.now c.check_parameters.new.environment c.check_parameter.new.environment c.args.parameters.now c.args.last c.args.body.now c.in_ok-before.ensures.adds c.in_ok-known.ensures.adds

pub check_named-returns-clause-kept : goal.check_named-returns-clause-kept
check_named-returns-clause-kept t c = c.leave.ensures c.args.environment.now c.mark_place-back.ensures
    (extends-kept c.args.environment.now c.check_parameter.new.environment c.check_exp.new.environment c.in_ok-right.ensures.kept
    (extends-more c.args.environment.now c.check_parameters.new.environment c.check_parameter.new.environment
    (extends-adds c.args.tables.now c.args.environment.now c.check_parameters.new.environment (run (parameter_onto c.args.tables.now) c.args.parameters.now) c.in_ok-before.ensures.adds)
    (extends-adds c.args.tables.now c.check_parameters.new.environment c.check_parameter.new.environment (parameter_onto c.args.tables.now c.args.last []) c.in_ok-known.ensures.adds)))

pub check_by_rules-returns-clause-right : goal.check_by_rules-returns-clause-right
check_by_rules-returns-clause-right t c = two c.both-2.ensures c.in_ok-before.ensures.right (two c.both.ensures c.in_ok-known.ensures c.in_ok-matched.ensures.right)
    ∙ by-rules-made c.args.tables.now c.args.environment.now c.check_parameters.new.environment c.args.parameters.now c.args.argument c.args.given c.args.rules.now c.in_ok-before.ensures.adds

pub check_by_rules-returns-clause-kept : goal.check_by_rules-returns-clause-kept
check_by_rules-returns-clause-kept t c = c.leave.ensures c.args.environment.now c.mark_place-back.ensures
    (extends-kept c.args.environment.now c.check_parameters.new.environment c.check_rules.new.environment c.in_ok-matched.ensures.kept
    (extends-adds c.args.tables.now c.args.environment.now c.check_parameters.new.environment (run (parameter_onto c.args.tables.now) c.args.parameters.now) c.in_ok-before.ensures.adds))

pub check_group-returns-clause-right : goal.check_group-returns-clause-right
check_group-returns-clause-right t c =
    c.in_ok-right.ensures.right ∙ group-made c.args.tables.now c.args.environment.now (record { parameters = c.args.environment.now.parameters; variables = c.bind_members.new.variables }) c.args.members.now (record { parameters = refl; onto = c.in_ok-bind_members.ensures })

pub check_group-returns-clause-kept : goal.check_group-returns-clause-kept
check_group-returns-clause-kept t c =
    c.leave.ensures c.args.environment.now c.mark_place-back.ensures (extends-kept c.args.environment.now (record { parameters = c.args.environment.now.parameters; variables = c.bind_members.new.variables }) c.check_members.new.environment c.in_ok-right.ensures.kept
    (extends-adds c.args.tables.now c.args.environment.now (record { parameters = c.args.environment.now.parameters; variables = c.bind_members.new.variables }) (funs_onto (known_by c.args.tables.now Own) (funs_by (type_at c.args.tables.now.types) (map (fun_of (reading c.args.tables.now)) c.args.members.now))) (record { parameters = refl; onto = c.in_ok-bind_members.ensures })))

pub check_exp-returns-in-Atom-clause-right : goal.check_exp-returns-in-Atom-clause-right
check_exp-returns-in-Atom-clause-right t c = ok-as c.check_atom.result _ _ (sym (atom-right c.args.tables.now c.args.environment.now c.in-Atom.atom c.in-Atom.ty) ∙ ap (exp_right c.args.tables.now c.args.environment.now) (sym c.in-Atom.is)) c.check_atom.ensures

pub check_exp-returns-in-Use-clause-right : goal.check_exp-returns-in-Use-clause-right
check_exp-returns-in-Use-clause-right t c = ok-as c.check_use.result _ _ (ap (λ l. use_right c.args.tables.now c.args.environment.now c.in-Use.used l c.in-Use.ty) c.deref.ensures.value ∙ sym (use-right c.args.tables.now c.args.environment.now c.in-Use.used c.in-Use.ts c.in-Use.ty) ∙ ap (exp_right c.args.tables.now c.args.environment.now) (sym c.in-Use.is)) c.check_use.ensures

pub check_exp-returns-in-Record-clause-right : goal.check_exp-returns-in-Record-clause-right
check_exp-returns-in-Record-clause-right t c = ok-as c.check_record.result _ _ (ap (record_right c.args.tables.now c.args.environment.now c.in-Record.ty) c.deref-in-Record.ensures.value ∙ sym (record-right c.args.tables.now c.args.environment.now c.in-Record.ty c.in-Record.fields) ∙ ap (exp_right c.args.tables.now c.args.environment.now) (sym c.in-Record.is)) c.check_record.ensures.right

pub check_exp-returns-in-Raise-clause-right : goal.check_exp-returns-in-Raise-clause-right
check_exp-returns-in-Raise-clause-right t c = ok-as c.check_raise.result _ _ (ap (raise_right c.args.tables.now c.args.environment.now) c.deref-in-Raise.ensures ∙ sym (raise-right c.args.tables.now c.args.environment.now c.in-Raise.field-0 c.in-Raise.packet) ∙ ap (exp_right c.args.tables.now c.args.environment.now) (sym c.in-Raise.is)) c.check_raise.ensures.right

pub check_exp-returns-in-Fn-clause-right : goal.check_exp-returns-in-Fn-clause-right
check_exp-returns-in-Fn-clause-right t c = ok-as c.check_fn.result _ _ (sym (fn-right c.args.tables.now c.args.environment.now c.in-Fn.ty c.in-Fn.function) ∙ ap (exp_right c.args.tables.now c.args.environment.now) (sym c.in-Fn.is)) c.check_fn.ensures.right

pub check_exp-returns-in-Counted-clause-right : goal.check_exp-returns-in-Counted-clause-right
check_exp-returns-in-Counted-clause-right t c = ok-as c.check_typed-in-Counted.result _ _ (ap (λ x. typed_right c.args.tables.now c.args.environment.now x c.in-Counted.ty) c.deref-in-Counted.ensures ∙ sym (counted-right c.args.tables.now c.args.environment.now c.in-Counted.field-0 c.in-Counted.ty c.in-Counted.body) ∙ ap (exp_right c.args.tables.now c.args.environment.now) (sym c.in-Counted.is)) c.check_typed-in-Counted.ensures.right

pub check_exp-returns-in_ok-right-in-Let-clause-right : goal.check_exp-returns-in_ok-right-in-Let-clause-right
check_exp-returns-in_ok-right-in-Let-clause-right t c = two c.both.ensures (c.in_ok-declared-in-Let.ensures.right ∙ ap (decs_right c.args.tables.now c.args.environment.now) c.deref-in-Let.ensures.value)
    (c.in_ok-right-in-Let.ensures.right ∙ ap (λ x. typed_right c.args.tables.now c.check_decs.new.environment x c.in-Let.ty) c.deref-in-Let-2.ensures)
    ∙ let-made c.args.tables.now c.args.environment.now c.check_decs.new.environment c.in-Let.ty c.in-Let.declarations.items c.in-Let.body.value (subst (λ l. Adds c.args.tables.now c.args.environment.now c.check_decs.new.environment (run (dec_step c.args.tables.now) l)) c.deref-in-Let.ensures.value c.in_ok-declared-in-Let.ensures.adds)
    ∙ sym (let-right c.args.tables.now c.args.environment.now c.in-Let.ty c.in-Let.declarations c.in-Let.body)
    ∙ ap (exp_right c.args.tables.now c.args.environment.now) (sym c.in-Let.is)

pub check_exp-returns-in_ok-right-in-Let-clause-kept : goal.check_exp-returns-in_ok-right-in-Let-clause-kept
check_exp-returns-in_ok-right-in-Let-clause-kept t c = c.leave.ensures c.args.environment.now c.mark_place-back.ensures (extends-kept c.args.environment.now c.check_decs.new.environment c.check_typed.new.environment c.in_ok-right-in-Let.ensures.kept
    (extends-adds c.args.tables.now c.args.environment.now c.check_decs.new.environment (run (dec_step c.args.tables.now) c.in-Let.declarations.items) (subst (λ l. Adds c.args.tables.now c.args.environment.now c.check_decs.new.environment (run (dec_step c.args.tables.now) l)) c.deref-in-Let.ensures.value c.in_ok-declared-in-Let.ensures.adds)))

pub check_exp-returns-in_ok-applied-in-Apply-clause-right : goal.check_exp-returns-in_ok-applied-in-Apply-clause-right
check_exp-returns-in_ok-applied-in-Apply-clause-right t c = two c.both-in-Apply.ensures (c.in_ok-right-in-Apply.ensures.right ∙ ap (exp_right c.args.tables.now c.args.environment.now) c.deref-in-Apply.ensures)
    (c.in_ok-applied-in-Apply.ensures.right
    ∙ ap (λ e. hold (argument_right c.args.tables.now e) (argument_next c.args.tables.now) (type_at c.args.tables.now.types c.type_of-of.result) c.deref-in-Apply-3.result.now) c.in_ok-right-in-Apply.ensures.kept
    ∙ ap (λ u. hold (argument_right c.args.tables.now c.args.environment.now) (argument_next c.args.tables.now) u c.deref-in-Apply-3.result.now) (c.type_of-of.ensures (reading c.args.tables.now) ∙ ap (type_in c.args.tables.now) c.deref-in-Apply-2.ensures)
    ∙ ap (hold (argument_right c.args.tables.now c.args.environment.now) (argument_next c.args.tables.now) (type_in c.args.tables.now c.in-Apply.function.value)) c.deref-in-Apply-3.ensures.value)
    ∙ sym (apply-right c.args.tables.now c.args.environment.now c.in-Apply.field-0 c.in-Apply.function c.in-Apply.arguments)
    ∙ ap (exp_right c.args.tables.now c.args.environment.now) (sym c.in-Apply.is)

pub check_exp-returns-in_ok-applied-in-Apply-clause-kept : goal.check_exp-returns-in_ok-applied-in-Apply-clause-kept
check_exp-returns-in_ok-applied-in-Apply-clause-kept t c = c.in_ok-applied-in-Apply.ensures.kept ∙ c.in_ok-right-in-Apply.ensures.kept

pub check_exp-returns-in_ok-joined-in-Infix-clause-right : goal.check_exp-returns-in_ok-joined-in-Infix-clause-right
check_exp-returns-in_ok-joined-in-Infix-clause-right t c = two c.both-in-Infix.ensures (c.in_ok-right-in-Infix.ensures.right ∙ ap (exp_right c.args.tables.now c.args.environment.now) c.deref-in-Infix.ensures)
    (c.in_ok-joined-in-Infix.ensures.right
    ∙ ap (λ e. hold (join_right c.args.tables.now e c.in-Infix.side) (join_next c.args.tables.now c.in-Infix.side) (type_at c.args.tables.now.types c.type_of-left.result) c.deref-in-Infix-3.result.now) c.in_ok-right-in-Infix.ensures.kept
    ∙ ap (λ u. hold (join_right c.args.tables.now c.args.environment.now c.in-Infix.side) (join_next c.args.tables.now c.in-Infix.side) u c.deref-in-Infix-3.result.now) (c.type_of-left.ensures (reading c.args.tables.now) ∙ ap (type_in c.args.tables.now) c.deref-in-Infix-2.ensures)
    ∙ ap (hold (join_right c.args.tables.now c.args.environment.now c.in-Infix.side) (join_next c.args.tables.now c.in-Infix.side) (type_in c.args.tables.now c.in-Infix.first.value)) c.deref-in-Infix-3.ensures.value)
    ∙ sym (infix-right c.args.tables.now c.args.environment.now c.in-Infix.side c.in-Infix.first c.in-Infix.joins)
    ∙ ap (exp_right c.args.tables.now c.args.environment.now) (sym c.in-Infix.is)

pub check_exp-returns-in_ok-joined-in-Infix-clause-kept : goal.check_exp-returns-in_ok-joined-in-Infix-clause-kept
check_exp-returns-in_ok-joined-in-Infix-clause-kept t c = c.in_ok-joined-in-Infix.ensures.kept ∙ c.in_ok-right-in-Infix.ensures.kept

pub check_exp-returns-in_ok-matched-in-Case-clause-right : goal.check_exp-returns-in_ok-matched-in-Case-clause-right
check_exp-returns-in_ok-matched-in-Case-clause-right t c = two c.both-in-Case.ensures (c.in_ok-right-in-Case.ensures.right ∙ ap (dropped_right c.args.tables.now c.args.environment.now) c.deref-in-Case.ensures)
    (c.in_ok-matched-in-Case.ensures.right ∙ ap (λ e. all_hold (rule_right c.args.tables.now e c.type_of.result c.in-Case.ty) c.deref-in-Case-2.result.now) c.in_ok-right-in-Case.ensures.kept
    ∙ ap (all_hold (rule_right c.args.tables.now c.args.environment.now c.type_of.result c.in-Case.ty)) c.deref-in-Case-2.ensures.value)
    ∙ case-made c.args.tables.now c.args.environment.now c.in-Case.ty c.in-Case.of.value c.in-Case.rules.items c.type_of.result (c.type_of.ensures (reading c.args.tables.now) ∙ ap (type_in c.args.tables.now) c.deref-in-Case-3.ensures)
    ∙ sym (case-right c.args.tables.now c.args.environment.now c.in-Case.field-0 c.in-Case.ty c.in-Case.of c.in-Case.rules)
    ∙ ap (exp_right c.args.tables.now c.args.environment.now) (sym c.in-Case.is)

pub check_exp-returns-in_ok-matched-in-Case-clause-kept : goal.check_exp-returns-in_ok-matched-in-Case-clause-kept
check_exp-returns-in_ok-matched-in-Case-clause-kept t c = c.in_ok-matched-in-Case.ensures.kept ∙ c.in_ok-right-in-Case.ensures.kept

pub check_exp-returns-in_ok-given-in-Sequence-clause-right : goal.check_exp-returns-in_ok-given-in-Sequence-clause-right
check_exp-returns-in_ok-given-in-Sequence-clause-right t c = two c.both-in-Sequence-2.ensures (c.in_ok-dropped-in-Sequence.ensures.right ∙ ap (all_hold (dropped_right c.args.tables.now c.args.environment.now)) c.deref-in-Sequence.ensures.value)
    (two c.both-in-Sequence.ensures (c.in_ok-given-in-Sequence.ensures.right ∙ ap (λ e. exp_right c.args.tables.now e c.deref-in-Sequence-2.result.now) c.in_ok-dropped-in-Sequence.ensures.kept ∙ ap (exp_right c.args.tables.now c.args.environment.now) c.deref-in-Sequence-2.ensures)
    (c.is_last-typed.ensures ∙ ap (λ l. is_last c.args.tables.now l c.deref-in-Sequence-4.result.now c.in-Sequence.ty) c.deref-in-Sequence-3.ensures.value ∙ ap (λ x. is_last c.args.tables.now c.in-Sequence.before.items x c.in-Sequence.ty) c.deref-in-Sequence-4.ensures))
    ∙ sym (sequence-right c.args.tables.now c.args.environment.now c.in-Sequence.field-0 c.in-Sequence.ty c.in-Sequence.before c.in-Sequence.last)
    ∙ ap (exp_right c.args.tables.now c.args.environment.now) (sym c.in-Sequence.is)

pub check_exp-returns-in_ok-given-in-Sequence-clause-kept : goal.check_exp-returns-in_ok-given-in-Sequence-clause-kept
check_exp-returns-in_ok-given-in-Sequence-clause-kept t c = c.in_ok-given-in-Sequence.ensures.kept ∙ c.in_ok-dropped-in-Sequence.ensures.kept

pub check_exp-returns-in_ok-after-in-Test-clause-right : goal.check_exp-returns-in_ok-after-in-Test-clause-right
check_exp-returns-in_ok-after-in-Test-clause-right t c = two c.both-in-Test-2.ensures (two c.both-in-Test.ensures (c.in_ok-before-in-Test.ensures.right ∙ ap (all_hold (operand_right c.args.tables.now c.args.environment.now)) c.deref-in-Test.ensures.value)
    (c.in_ok-after-in-Test.ensures.right ∙ ap (λ e. operand_right c.args.tables.now e c.deref-in-Test-2.result.now) c.in_ok-before-in-Test.ensures.kept ∙ ap (operand_right c.args.tables.now c.args.environment.now) c.deref-in-Test-2.ensures)) c.is_bool-truth.ensures
    ∙ sym (test-right c.args.tables.now c.args.environment.now c.in-Test.field-0 c.in-Test.ty c.in-Test.operands c.in-Test.last)
    ∙ ap (exp_right c.args.tables.now c.args.environment.now) (sym c.in-Test.is)

pub check_exp-returns-in_ok-after-in-Test-clause-kept : goal.check_exp-returns-in_ok-after-in-Test-clause-kept
check_exp-returns-in_ok-after-in-Test-clause-kept t c = c.in_ok-after-in-Test.ensures.kept ∙ c.in_ok-before-in-Test.ensures.kept

pub check_exp-returns-in_ok-handled-in-Handle-clause-right : goal.check_exp-returns-in_ok-handled-in-Handle-clause-right
check_exp-returns-in_ok-handled-in-Handle-clause-right t c = two c.both-in-Handle.ensures (c.in_ok-right-in-Handle.ensures.right ∙ ap (λ x. typed_right c.args.tables.now c.args.environment.now x c.in-Handle.ty) c.deref-in-Handle.ensures)
    (c.in_ok-handled-in-Handle.ensures.right ∙ ap (λ e. all_hold (rule_right c.args.tables.now e c.args.facts.now.exn c.in-Handle.ty) c.deref-in-Handle-2.result.now) c.in_ok-right-in-Handle.ensures.kept
    ∙ ap (all_hold (rule_right c.args.tables.now c.args.environment.now c.args.facts.now.exn c.in-Handle.ty)) c.deref-in-Handle-2.ensures.value)
    ∙ handle-made c.args.tables.now c.args.environment.now c.in-Handle.ty c.in-Handle.body.value c.in-Handle.rules.items c.args.facts.now.exn c.requires.exn
    ∙ sym (handle-right c.args.tables.now c.args.environment.now c.in-Handle.ty c.in-Handle.body c.in-Handle.rules)
    ∙ ap (exp_right c.args.tables.now c.args.environment.now) (sym c.in-Handle.is)

pub check_exp-returns-in_ok-handled-in-Handle-clause-kept : goal.check_exp-returns-in_ok-handled-in-Handle-clause-kept
check_exp-returns-in_ok-handled-in-Handle-clause-kept t c = c.in_ok-handled-in-Handle.ensures.kept ∙ c.in_ok-right-in-Handle.ensures.kept

pub check_dec-returns-in-Exception-clause-right : goal.check_dec-returns-in-Exception-clause-right
check_dec-returns-in-Exception-clause-right t c = ok-as c.declare_exception.result _ _
    (sym (exception-right c.args.tables.now c.args.environment.now c.in-Exception.variable c.in-Exception.field-1 c.in-Exception.argument) ∙ ap (dec_right c.args.tables.now c.args.environment.now) (sym c.in-Exception.is)) c.declare_exception.ensures.right

pub check_dec-returns-in-Exception-clause-adds : goal.check_dec-returns-in-Exception-clause-adds
check_dec-returns-in-Exception-clause-adds t c =
    adds-if c.declare_exception.result c.args.tables.now c.args.environment.now c.declare_exception.new.environment (exception_onto c.args.tables.now c.in-Exception.variable c.in-Exception.argument) (dec_step c.args.tables.now c.args.declaration.now [])
    (λ G. exception-known c.args.tables.now G c.in-Exception.variable c.in-Exception.field-1 c.in-Exception.argument ∙ ap (dec_onto c.args.tables.now G) (sym c.in-Exception.is)) c.declare_exception.ensures.adds

pub check_dec-returns-in-Weight-clause-right : goal.check_dec-returns-in-Weight-clause-right
check_dec-returns-in-Weight-clause-right t c = sym (weight-right c.args.tables.now c.args.environment.now c.in-Weight.field-0) ∙ ap (dec_right c.args.tables.now c.args.environment.now) (sym c.in-Weight.is)

pub check_dec-returns-in-Weight-clause-adds : goal.check_dec-returns-in-Weight-clause-adds
check_dec-returns-in-Weight-clause-adds t c =
    adds-none c.args.tables.now c.args.environment.now (dec_step c.args.tables.now c.args.declaration.now []) (λ G. weight-known c.args.tables.now G c.in-Weight.field-0 ∙ ap (dec_onto c.args.tables.now G) (sym c.in-Weight.is))

pub check_dec-returns-in_ok-bind_bindings-in-Val-clause-right : goal.check_dec-returns-in_ok-bind_bindings-in-Val-clause-right
check_dec-returns-in_ok-bind_bindings-in-Val-clause-right t c =
    two c.both-in-Val-2.ensures refl
    (two c.both-in-Val.ensures (c.in_ok-plain-in-Val.ensures ∙ ap (all_hold (plain_right c.args.tables.now c.args.environment.now)) c.deref.ensures.value)
    (two c.both.ensures (c.in_ok-inner-in-Val.ensures.right ∙ ap (all_hold (inner_right c.args.tables.now c.declare.new.environment)) c.deref-in-Val.ensures.value)
    (c.in_ok-group-in-Val.ensures.right ∙ ap (λ e. group_right c.args.tables.now e c.deref-in-Val-2.result.now) c.in_ok-inner-in-Val.ensures.kept ∙ ap (group_right c.args.tables.now c.declare.new.environment) c.deref-in-Val-2.ensures.value)))
    ∙ val-made c.args.tables.now c.in-Val.parameters c.in-Val.binds.items c.in-Val.members.items c.args.environment.now c.declare.new.environment c.in_ok-new-in-Val.new c.in_ok-new-in-Val.ensures.new c.in_ok-new-in-Val.ensures.declared c.in_ok-new-in-Val.ensures.variables
    ∙ sym (val-right c.args.tables.now c.args.environment.now c.in-Val.parameters c.in-Val.binds c.in-Val.members) ∙ ap (dec_right c.args.tables.now c.args.environment.now) (sym c.in-Val.is)

pub check_dec-returns-in_ok-bind_bindings-in-Val-clause-adds : goal.check_dec-returns-in_ok-bind_bindings-in-Val-clause-adds
check_dec-returns-in_ok-bind_bindings-in-Val-clause-adds t c =
    adds-as c.args.tables.now c.args.environment.now (record { parameters = c.leave.new.environment.parameters; variables = c.bind_bindings.new.variables }) (val_onto c.args.tables.now c.in-Val.parameters c.in-Val.binds.items c.in-Val.members.items) (dec_step c.args.tables.now c.args.declaration.now [])
    (λ G. val-known c.args.tables.now G c.in-Val.parameters c.in-Val.binds c.in-Val.members ∙ ap (dec_onto c.args.tables.now G) (sym c.in-Val.is))
    (subst (λ e. Adds c.args.tables.now e (record { parameters = c.leave.new.environment.parameters; variables = c.bind_bindings.new.variables }) (val_onto c.args.tables.now c.in-Val.parameters c.in-Val.binds.items c.in-Val.members.items))
    (c.leave.ensures c.args.environment.now c.mark_place-back.ensures (extends-kept c.args.environment.now c.declare.new.environment c.check_group.new.environment (c.in_ok-group-in-Val.ensures.kept ∙ c.in_ok-inner-in-Val.ensures.kept) c.in_ok-new-in-Val.ensures.extends))
    (adds-then c.args.tables.now c.leave.new.environment (record { parameters = c.leave.new.environment.parameters; variables = c.bind_members.new.variables }) (record { parameters = c.leave.new.environment.parameters; variables = c.bind_bindings.new.variables }) (funs_onto (known_by c.args.tables.now (Over c.in-Val.parameters)) (funs_by (type_at c.args.tables.now.types) (map (fun_of (reading c.args.tables.now)) c.in-Val.members.items))) (binds_onto (parameters_at (parameters_of c.args.tables.now) c.in-Val.parameters) (binds_by (type_at c.args.tables.now.types) (map (bind_of (reading c.args.tables.now)) c.in-Val.binds.items)))
    (record { parameters = refl; onto = subst (λ l. Onto c.args.tables.now c.leave.new.environment.variables c.bind_members.new.variables (funs_onto (known_by c.args.tables.now (Over c.in-Val.parameters)) (funs_by (type_at c.args.tables.now.types) (map (fun_of (reading c.args.tables.now)) l)))) c.deref-in-Val-3.ensures.value c.in_ok-bind_members-in-Val.ensures })
    (record { parameters = refl; onto = subst (λ l. Onto c.args.tables.now c.bind_members.new.variables c.bind_bindings.new.variables (binds_onto (parameters_at (parameters_of c.args.tables.now) c.in-Val.parameters) (binds_by (type_at c.args.tables.now.types) (map (bind_of (reading c.args.tables.now)) l)))) c.deref-in-Val-4.ensures.value c.in_ok-bind_bindings-in-Val.ensures })))

pub check_exp-returns-in-Atom-clause-kept : goal.check_exp-returns-in-Atom-clause-kept
check_exp-returns-in-Atom-clause-kept t c = ok-any c.check_atom.result refl

pub check_exp-returns-in-Use-clause-kept : goal.check_exp-returns-in-Use-clause-kept
check_exp-returns-in-Use-clause-kept t c = ok-any c.check_use.result refl

pub check_arguments-loop-i-preserved : goal.check_arguments-loop-i-preserved
check_arguments-loop-i-preserved t c = moving-more (argument_right c.args.tables.now) (argument_next c.args.tables.now) (type_at c.args.tables.now.types c.args.of) c.args.arguments.now c.args.environment.now c.loop-i.i c.index-arguments-i.result (type_at c.args.tables.now.types c.loop-i.now)
    (type_at c.args.tables.now.types c.index-arguments-i.result.0) c.loop-i.environment c.check_exp.new.environment c.loop-i.so_far c.both-one.result c.both-so_far.result c.loop-i-test.true c.index-arguments-i.is
    (two c.both-one.ensures c.in_ok-right.ensures.right c.applies-fits.ensures) c.in_ok-right.ensures.kept c.both-so_far.ensures refl c.loop-i.invariant

pub check_joins-loop-i-preserved : goal.check_joins-loop-i-preserved
check_joins-loop-i-preserved t c = moving-more (λ e. join_right c.args.tables.now e c.args.side) (join_next c.args.tables.now c.args.side) (type_at c.args.tables.now.types c.args.left) c.args.joins.now c.args.environment.now c.loop-i.i c.index-joins-i.result (type_at c.args.tables.now.types c.loop-i.now)
    (type_at c.args.tables.now.types c.left_after-now.result) c.loop-i.environment _ c.loop-i.so_far c.both-one.result c.both-so_far.result c.loop-i-test.true c.index-joins-i.is
    (two c.both-one.ensures (two c.both-operands.ensures c.in_ok-operator.ensures.right (c.in_ok-operand.ensures.right ∙ ap (λ e. exp_right c.args.tables.now e c.index-joins-i.result.2) c.in_ok-operator.ensures.kept))
    (c.is_joined-joined.ensures ∙ ap (λ w. joined c.args.tables.now (type_at c.args.tables.now.types c.loop-i.now) w c.index-joins-i.result) c.right_of-right.ensures))
    (c.in_ok-operand.ensures.kept ∙ c.in_ok-operator.ensures.kept) c.both-so_far.ensures c.left_after-now.ensures c.loop-i.invariant

pub check_members-loop-i-preserved : goal.check_members-loop-i-preserved
check_members-loop-i-preserved t c = keeping-more (member_right c.args.tables.now) c.args.members.now c.args.environment.now c.loop-i.i c.index-members-i.result c.loop-i.environment c.check_function.new.environment c.loop-i.so_far c.both-one.result c.both-so_far.result
    c.loop-i-test.true c.index-members-i.is (two c.both-one.ensures c.in_ok-known.ensures (two c.both-made.ensures c.in_ok-right.ensures.right c.is_function_type-typed.ensures)) c.in_ok-right.ensures.kept c.both-so_far.ensures c.loop-i.invariant

pub check_inners-loop-i-preserved : goal.check_inners-loop-i-preserved
check_inners-loop-i-preserved t c = keeping-more (inner_right c.args.tables.now) c.args.binds.now c.args.environment.now c.loop-i.i c.index-binds-i.result c.loop-i.environment c.check_typed.new.environment c.loop-i.so_far c.both-one.result c.both-so_far.result
    c.loop-i-test.true c.index-binds-i.is (two c.both-one.ensures c.in_ok-general.ensures c.in_ok-right.ensures.right) c.in_ok-right.ensures.kept c.both-so_far.ensures c.loop-i.invariant
