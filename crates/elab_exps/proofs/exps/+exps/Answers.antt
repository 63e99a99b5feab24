use Rattle.std.proofs.Common.{◌-◌, [], ◌∷◌, length, get_or, map, refl, sym, ap, subst, ◌∙◌, arith}
use Rattle.std.specs.Prelude.{reverse}
use Rattle.sml_tree.specs.TreeOf.{bind_of, exp_of, rule_of}
use Rattle.sml_tree.specs.declared.tree.Exp.TheVariants as node
use Rattle.sml_tree.specs.declared.tree.Function.{out-Function}
use Rattle.elab_steps.specs.Growing.{HasType}
use Rattle.scope_decs.specs.of_dec_forms.Bringing.{IsBringing}
use Rattle.elab_context.specs.declared.context.Context.{Context}
use Rattle.elab_steps.proofs.Changing.{if-ok}
use Rattle.elab_steps.proofs.Growing.{comes_before, grows_on, grows_same, type_later}
use Rattle.elab_steps.specs.World.{type_of}
use Rattle.scope_decs.proofs.of_exp_forms.Nodes.{source-BuiltIn, source-Constant, source-Vid}
use Rattle.scope_decs.proofs.of_exp_forms.Sizes.{arguments-size, bind-size, binds-size, body-size, dec-size, decs-size, exp-size, field-size, handled-size, handler-size, operand-size, operator-size, part-size, parts-size, rest-size, rule-size, rules-size}
use Rattle.elab_exps.specs.Groups.{clause_rule, function_bind}
use Rattle.elab_exps.proofs.Loops.{calls_begin, calls_end, calls_more, context_on, elements_begin, elements_end, elements_more, exp_in, fields_end, fields_more, rows_have, stands_on, tuple_end, tuple_more}
use Rattle.elab_exps.proofs.Chains.{left_done, left_first, left_next, right_done, right_first, right_next, tests_done, tests_first, tests_next}
use Rattle.elab_exps.proofs.Rules.{applied_is, begun_grows, case_is, clause-at, each_more, function_is, handle_is, rule-at, rules_begin, rules_end, stands_begun}
use Rattle.elab_exps.proofs.Whole.{apply_is, of_source, one-more, raise_is, sequence_alone, sequence_begins, sequence_done, sequence_more, some-before, typed_is}
use Rattle.elab_exps.proofs.Sources.{bind-most, clause-size, clauses-size, first-part-size, function-most, functions-size, match-size, recs-size, rest-all, rest-most, second-part-size}
use Rattle.elab_exps.proofs.Declaring.{all_declared, let_in_is, let_left, local_declared, more_declared, none_declared, sequence_declared}
use Rattle.elab_exps.proofs.Binding.{all_bound, begun_within, bound_more, none_bound, within_on}
use Rattle.elab_exps.proofs.Heading.{head-held, heads_count, heads_have, mark_is}
use Rattle.elab_exps.proofs.Grouping.{clausal_body, clausal_member, entered_stands, entered_types, fun_source, group_filled, group_ready, member_grows, members_begin, members_end, members_more, rec_member, reserved_at, reserved_stands, scopes_functions, val_source}
use Rattle.elab_exps.proofs.Taking.{variables_left}
use Rattle.elab_exps.proofs.exps.+exps.Goals as goal

pub record_of-loop-i-init : goal.record_of-loop-i-init
record_of-loop-i-init t c = record { same = refl; are = c.no_fields-made.ensures _ _ }

pub record_of-elab_exp-requires : goal.record_of-elab_exp-requires
record_of-elab_exp-requires t c = (
  omega (arith, c.decreases, field-size c.args.fields.now c.loop-i.i c.index-fields-i.result c.loop-i-test.true),
  stands_on c.args.state.now c.loop-i.state c.args.context.now c.loop-i.context c.requires c.loop-i.invariant.are.exps.grows c.loop-i.invariant.same,
)

pub record_of-loop-i-preserved : goal.record_of-loop-i-preserved
record_of-loop-i-preserved t c =
    fields_more c.args.state.now c.loop-i.state c.elab_exp.new.state c.args.context.now c.loop-i.context c.elab_exp.new.context c.args.fields.now c.loop-i.i c.index-fields-i.result
    c.index-fields-i-in-loop-i.result c.in_ok-one.one c.loop-i.made c.add_field.new.fields c.loop-i-test.true c.loop-i.invariant c.in_ok-one.ensures.context c.in_ok-one.ensures.is
    c.in_ok-add_field.ensures

pub record_of-record-requires-clause-context : goal.record_of-record-requires-clause-context
record_of-record-requires-clause-context t c =
    context_on c.args.state.now c.loop-i.state c.args.context.now c.loop-i.context c.requires.context c.loop-i.invariant.are.exps.grows c.loop-i.invariant.same

pub record_of-record-requires-clause-row : goal.record_of-record-requires-clause-row
record_of-record-requires-clause-row t c = rows_have c.args.state.now c.loop-i.state c.args.context.now _ _ c.loop-i.made c.loop-i.invariant.are

pub record_of-returns-clause-context : goal.record_of-returns-clause-context
record_of-returns-clause-context t c = c.loop-i.invariant.same

pub record_of-returns-clause-is : goal.record_of-returns-clause-is
record_of-returns-clause-is t c =
    fields_end c.args.state.now c.loop-i.state c.record.new.state c.args.context.now c.loop-i.context c.args.place c.args.fields.now c.loop-i.i c.loop-i.made _ (omega arith) c.loop-i.invariant
    c.in_ok-record.ensures

pub tuple_of-loop-i-init : goal.tuple_of-loop-i-init
tuple_of-loop-i-init t c = record { same = refl; are = c.no_fields-made.ensures _ _ }

pub tuple_of-elab_exp-requires : goal.tuple_of-elab_exp-requires
tuple_of-elab_exp-requires t c = (
  omega (arith, c.decreases, exp-size c.args.parts.now c.loop-i.i c.index-parts-i.result c.loop-i-test.true c.index-parts-i.is),
  stands_on c.args.state.now c.loop-i.state c.args.context.now c.loop-i.context c.requires c.loop-i.invariant.are.exps.grows c.loop-i.invariant.same,
)

pub tuple_of-loop-i-preserved : goal.tuple_of-loop-i-preserved
tuple_of-loop-i-preserved t c =
    tuple_more c.args.state.now c.loop-i.state c.elab_exp.new.state c.args.context.now c.loop-i.context c.elab_exp.new.context c.args.parts.now c.loop-i.i c.index-parts-i.result
    c.in_ok-label.label c.in_ok-one.one c.loop-i.made c.add_field.new.fields c.loop-i-test.true c.index-parts-i.is c.in_ok-label.ensures c.loop-i.invariant c.in_ok-one.ensures.context
    c.in_ok-one.ensures.is c.in_ok-add_field.ensures

pub tuple_of-record-requires-clause-context : goal.tuple_of-record-requires-clause-context
tuple_of-record-requires-clause-context t c =
    context_on c.args.state.now c.loop-i.state c.args.context.now c.loop-i.context c.requires.context c.loop-i.invariant.are.exps.grows c.loop-i.invariant.same

pub tuple_of-record-requires-clause-row : goal.tuple_of-record-requires-clause-row
tuple_of-record-requires-clause-row t c = rows_have c.args.state.now c.loop-i.state c.args.context.now _ _ c.loop-i.made c.loop-i.invariant.are

pub tuple_of-returns-clause-context : goal.tuple_of-returns-clause-context
tuple_of-returns-clause-context t c = c.loop-i.invariant.same

pub tuple_of-returns-clause-is : goal.tuple_of-returns-clause-is
tuple_of-returns-clause-is t c =
    tuple_end c.args.state.now c.loop-i.state c.record.new.state c.args.context.now c.loop-i.context c.args.place c.args.parts.now c.loop-i.i c.loop-i.made _ (omega arith) c.loop-i.invariant
    c.in_ok-record.ensures

pub calls_from-loop-i-init : goal.calls_from-loop-i-init
calls_from-loop-i-init t c = calls_begin c.args.state.now c.args.context.now c.args.place c.args.made.now c.requires.made

pub calls_from-elab_exp-requires : goal.calls_from-elab_exp-requires
calls_from-elab_exp-requires t c = (
  omega (arith, c.decreases, exp-size c.args.arguments.now c.loop-i.i c.index-arguments-i.result c.loop-i-test.true c.index-arguments-i.is),
  stands_on c.args.state.now c.loop-i.state c.args.context.now c.loop-i.context c.requires.context c.loop-i.invariant.grows c.loop-i.invariant.same,
)

pub calls_from-add_argument-requires-clause-context : goal.calls_from-add_argument-requires-clause-context
calls_from-add_argument-requires-clause-context t c =
    context_on c.args.state.now c.elab_exp.new.state c.args.context.now c.elab_exp.new.context c.requires.context.context
    (grows_on c.args.state.now c.loop-i.state c.elab_exp.new.state c.loop-i.invariant.grows c.in_ok-one.ensures.is.grows) (c.in_ok-one.ensures.context ∙ c.loop-i.invariant.same)

pub calls_from-add_argument-requires-clause-function : goal.calls_from-add_argument-requires-clause-function
calls_from-add_argument-requires-clause-function t c = type_later c.loop-i.state c.elab_exp.new.state c.loop-i.made.ty c.in_ok-one.ensures.is.grows c.loop-i.invariant.is

pub calls_from-add_argument-requires-clause-argument : goal.calls_from-add_argument-requires-clause-argument
calls_from-add_argument-requires-clause-argument t c = c.in_ok-one.ensures.is.is

pub calls_from-loop-i-preserved : goal.calls_from-loop-i-preserved
calls_from-loop-i-preserved t c =
    calls_more c.args.state.now c.loop-i.state c.elab_exp.new.state c.add_argument.new.state c.args.context.now c.loop-i.context c.elab_exp.new.context c.args.place c.args.arguments.now
    c.loop-i.i c.index-arguments-i.result c.in_ok-one.one c.args.made.now c.loop-i.made c.add_argument.new.made c.loop-i-test.true c.index-arguments-i.is c.loop-i.invariant
    c.in_ok-one.ensures.context c.in_ok-one.ensures.is c.in_ok-add_argument.ensures.grows c.in_ok-add_argument.ensures.is c.in_ok-add_argument.ensures.added

pub calls_from-returns-clause-context : goal.calls_from-returns-clause-context
calls_from-returns-clause-context t c = c.loop-i.invariant.same

pub calls_from-returns-clause-is : goal.calls_from-returns-clause-is
calls_from-returns-clause-is t c S f h k =
    calls_end c.args.state.now c.loop-i.state c.args.context.now c.loop-i.context c.args.place c.args.arguments.now c.loop-i.i c.args.made.now c.loop-i.made (omega arith) c.loop-i.invariant
    S f h k

pub apply_of-elab_exp-requires : goal.apply_of-elab_exp-requires
apply_of-elab_exp-requires t c =
    (omega (arith, c.decreases, operator-size c.args.exp.now c.in-Apply.place c.in-Apply.operator c.in-Apply.arguments c.deref-3.result.now c.in-Apply.is c.deref-3.ensures), c.requires)

pub apply_of-calls_from-requires : goal.apply_of-calls_from-requires
apply_of-calls_from-requires t c = (
  omega (arith, c.decreases, arguments-size c.args.exp.now c.in-Apply.place c.in-Apply.operator c.in-Apply.arguments c.deref-4.result.now c.in-Apply.is c.deref-4.ensures.value),
  (
    stands_on c.args.state.now c.elab_exp.new.state c.args.context.now c.elab_exp.new.context c.requires c.in_ok-function.ensures.is.grows c.in_ok-function.ensures.context,
    (c.in_ok-made.ensures c.args.state.now c.elab_exp.new.state c.args.context.now c.in-Apply.place (exp_of c.deref-3.result.now) c.in_ok-function.ensures.is).is,
  ),
)

pub apply_of-returns-clause-context : goal.apply_of-returns-clause-context
apply_of-returns-clause-context t c = c.in_ok-calls_from.ensures.context ∙ c.in_ok-function.ensures.context

pub apply_of-returns-clause-is : goal.apply_of-returns-clause-is
apply_of-returns-clause-is t c =
    apply_is c.args.state.now c.elab_exp.new.state c.calls_from.new.state c.args.context.now c.elab_exp.new.context c.args.exp.now c.in-Apply.place c.in-Apply.operator c.in-Apply.arguments
    c.deref-3.result.now c.deref-4.result.now c.in_ok-function.function c.in_ok-made.made c.calls_from.new.made c.finish_call.result c.in-Apply.is c.deref-3.ensures c.deref-4.ensures.value
    c.in_ok-function.ensures.context (let h = c.is_called.ensures in let k = c.if-not-is_called.false in search arith) c.in_ok-function.ensures.is c.in_ok-made.ensures
    c.in_ok-calls_from.ensures.is c.finish_call.ensures

pub elab_exp-with_type-requires-clause-context : goal.elab_exp-with_type-requires-clause-context
elab_exp-with_type-requires-clause-context t c =
    context_on c.args.state.now c.elab_exp.new.state c.args.context.now c.elab_exp.new.context c.requires.context c.in_ok-inner-in-Typed.ensures.is.grows c.in_ok-inner-in-Typed.ensures.context

pub elab_exp-raising-requires-clause-context : goal.elab_exp-raising-requires-clause-context
elab_exp-raising-requires-clause-context t c =
    context_on c.args.state.now c.elab_exp-in-Raise.new.state c.args.context.now c.elab_exp-in-Raise.new.context c.requires.context c.in_ok-packet-in-Raise.ensures.is.grows
    c.in_ok-packet-in-Raise.ensures.context

pub elab_exp-returns-in_ok-identifier-in-Vid-clause-is : goal.elab_exp-returns-in_ok-identifier-in-Vid-clause-is
elab_exp-returns-in_ok-identifier-in-Vid-clause-is t c =
    of_source c.args.state.now c.identifier.new.state c.args.context.now c.in_ok-identifier-in-Vid.field-0 c.args.exp.now (node.Vid c.in-Vid.place c.in-Vid.long) _ c.in-Vid.is
    (source-Vid c.in-Vid.place c.in-Vid.long) c.in_ok-identifier-in-Vid.ensures.is

pub elab_exp-returns-in_ok-with_type-in-Typed-clause-is : goal.elab_exp-returns-in_ok-with_type-in-Typed-clause-is
elab_exp-returns-in_ok-with_type-in-Typed-clause-is t c =
    typed_is c.args.state.now c.elab_exp.new.state c.with_type.new.state c.args.context.now c.elab_exp.new.context c.args.exp.now c.in-Typed.place c.in-Typed.inner c.in-Typed.ty
    c.deref-in-Typed.result.now c.in_ok-inner-in-Typed.inner c.in_ok-with_type-in-Typed.field-0 c.in-Typed.is c.deref-in-Typed.ensures c.in_ok-inner-in-Typed.ensures.context
    c.in_ok-inner-in-Typed.ensures.is c.in_ok-with_type-in-Typed.ensures

pub elab_exp-returns-in_ok-raising-in-Raise-clause-is : goal.elab_exp-returns-in_ok-raising-in-Raise-clause-is
elab_exp-returns-in_ok-raising-in-Raise-clause-is t c =
    raise_is c.args.state.now c.elab_exp-in-Raise.new.state c.raising.new.state c.args.context.now c.elab_exp-in-Raise.new.context c.args.exp.now c.in-Raise.place c.in-Raise.packet
    c.deref-in-Raise.result.now c.in_ok-packet-in-Raise.packet c.in_ok-raising-in-Raise.field-0 c.in-Raise.is c.deref-in-Raise.ensures c.in_ok-packet-in-Raise.ensures.context
    c.in_ok-packet-in-Raise.ensures.is c.in_ok-raising-in-Raise.ensures

pub elab_exp-returns-in_ok-constant-in-Constant-clause-is : goal.elab_exp-returns-in_ok-constant-in-Constant-clause-is
elab_exp-returns-in_ok-constant-in-Constant-clause-is t c =
    of_source c.args.state.now c.constant.new.state c.args.context.now c.in_ok-constant-in-Constant.field-0 c.args.exp.now (node.Constant c.in-Constant.field-0 c.in-Constant.value) _
    c.in-Constant.is (source-Constant c.in-Constant.field-0 c.in-Constant.value) (c.in_ok-constant-in-Constant.ensures c.in-Constant.field-0)

pub elab_exp-returns-in_ok-built-in-BuiltIn-clause-is : goal.elab_exp-returns-in_ok-built-in-BuiltIn-clause-is
elab_exp-returns-in_ok-built-in-BuiltIn-clause-is t c =
    of_source c.args.state.now c.built.new.state c.args.context.now c.in_ok-built-in-BuiltIn.field-0 c.args.exp.now (node.BuiltIn c.in-BuiltIn.field-0 c.in-BuiltIn.which) _
    c.in-BuiltIn.is (source-BuiltIn c.in-BuiltIn.field-0 c.in-BuiltIn.which) (c.in_ok-built-in-BuiltIn.ensures c.in-BuiltIn.field-0)

pub sequence_of-returns-then-is_empty-clause-is : goal.sequence_of-returns-then-is_empty-clause-is
sequence_of-returns-then-is_empty-clause-is t c =
    sequence_alone c.args.state.now c.elab_exp.new.state c.args.context.now c.args.exp.now c.in-Sequence.place c.in-Sequence.first c.in-Sequence.rest c.deref.result.now c.deref-rest.result.now
    c.in_ok-one.one c.in-Sequence.is c.deref.ensures c.deref-rest.ensures.value (sym c.is_empty.ensures ∙ c.if-is_empty.true) c.in_ok-one.ensures.is

pub sequence_of-loop-i-init : goal.sequence_of-loop-i-init
sequence_of-loop-i-init t c =
    sequence_begins c.args.state.now c.elab_exp.new.state c.args.context.now c.elab_exp.new.context c.args.exp.now c.in-Sequence.place c.in-Sequence.first c.in-Sequence.rest c.deref.result.now
    c.deref-rest.result.now _ c.in_ok-one.one _ c.add_before.new.before.items c.in-Sequence.is c.deref.ensures c.deref-rest.ensures.value c.new-before.ensures.items
    c.in_ok-one.ensures.context c.in_ok-one.ensures.is c.in_ok-add_before.ensures

pub sequence_of-elab_exp-requires-in-loop-i : goal.sequence_of-elab_exp-requires-in-loop-i
sequence_of-elab_exp-requires-in-loop-i t c = (
  omega (
    arith,
    c.decreases,
    rest-size c.args.exp.now c.in-Sequence.place c.in-Sequence.first c.in-Sequence.rest c.deref-rest.result.now c.in-Sequence.is c.deref-rest.ensures.value,
    exp-size c.deref-rest.result.now c.loop-i.i c.index-rest-i.result (omega (arith, c.loop-i-test.true)) c.index-rest-i.is,
  ),
  stands_on c.args.state.now c.loop-i.state c.args.context.now c.loop-i.context c.requires c.loop-i.invariant.parts.are.grows c.loop-i.invariant.parts.same,
)

pub sequence_of-loop-i-preserved : goal.sequence_of-loop-i-preserved
sequence_of-loop-i-preserved t c =
    sequence_more c.args.state.now c.loop-i.state c.elab_exp-in-loop-i.new.state c.args.context.now c.loop-i.context c.elab_exp-in-loop-i.new.context c.args.exp.now c.in-Sequence.place
    c.deref-rest.result.now (length c.deref-rest.result.now - 1) c.loop-i.i c.index-rest-i.result c.in_ok-one-2.one c.loop-i.before.items c.add_before-in-loop-i.new.before.items
    (omega (arith, c.loop-i-test.true)) c.loop-i-test.true c.index-rest-i.is c.loop-i.invariant c.in_ok-one-2.ensures.context c.in_ok-one-2.ensures.is c.in_ok-add_before-2.ensures

pub sequence_of-elab_exp-requires-2 : goal.sequence_of-elab_exp-requires-2
sequence_of-elab_exp-requires-2 t c = (
  omega (
    arith,
    c.decreases,
    rest-size c.args.exp.now c.in-Sequence.place c.in-Sequence.first c.in-Sequence.rest c.deref-rest.result.now c.in-Sequence.is c.deref-rest.ensures.value,
    exp-size c.deref-rest.result.now (length c.deref-rest.result.now - 1) c.index-rest-end.result (some-before c.deref-rest.result.now c.is_empty.result c.is_empty.ensures c.if-is_empty.false)
        c.index-rest-end.is,
  ),
  stands_on c.args.state.now c.loop-i.state c.args.context.now c.loop-i.context c.requires c.loop-i.invariant.parts.are.grows c.loop-i.invariant.parts.same,
)

pub sequence_of-sequence-requires-clause-context : goal.sequence_of-sequence-requires-clause-context
sequence_of-sequence-requires-clause-context t c =
    context_on c.args.state.now c.elab_exp-2.new.state c.args.context.now c.elab_exp-2.new.context c.requires.context
    (grows_on c.args.state.now c.loop-i.state c.elab_exp-2.new.state c.loop-i.invariant.parts.are.grows c.in_ok-last.ensures.is.grows)
    (c.in_ok-last.ensures.context ∙ c.loop-i.invariant.parts.same)

pub sequence_of-returns-clause-context : goal.sequence_of-returns-clause-context
sequence_of-returns-clause-context t c = c.in_ok-last.ensures.context ∙ c.loop-i.invariant.parts.same

pub sequence_of-returns-clause-is : goal.sequence_of-returns-clause-is
sequence_of-returns-clause-is t c =
    sequence_done c.args.state.now c.loop-i.state c.elab_exp-2.new.state c.sequence.new.state c.args.context.now c.loop-i.context c.elab_exp-2.new.context c.args.exp.now c.in-Sequence.place
    c.deref-rest.result.now (length c.deref-rest.result.now - 1) c.loop-i.i c.index-rest-end.result c.loop-i.before.items c.in_ok-last.last c.in_ok-sequence.field-0
    (one-more c.deref-rest.result.now c.is_empty.result c.is_empty.ensures c.if-is_empty.false) (omega (arith)) c.index-rest-end.is c.loop-i.invariant c.in_ok-last.ensures.context
    c.in_ok-last.ensures.is c.in_ok-sequence.ensures

pub list_of-loop-i-init : goal.list_of-loop-i-init
list_of-loop-i-init t c = elements_begin c.start_list.new.state c.args.context.now c.in_ok-listed.listed _ c.new-made.ensures.items

pub list_of-elab_exp-requires : goal.list_of-elab_exp-requires
list_of-elab_exp-requires t c = (
  omega (arith, c.decreases, exp-size c.args.elements.now c.loop-i.i c.index-elements-i.result c.loop-i-test.true c.index-elements-i.is),
  stands_on c.args.state.now c.loop-i.state c.args.context.now c.loop-i.context c.requires
      (grows_on c.args.state.now c.start_list.new.state c.loop-i.state c.in_ok-listed.ensures.grows c.loop-i.invariant.are.grows) c.loop-i.invariant.same,
)

pub list_of-add_element-requires-clause-element : goal.list_of-add_element-requires-clause-element
list_of-add_element-requires-clause-element t c =
    type_later c.start_list.new.state c.elab_exp.new.state c.in_ok-listed.listed.element
    (grows_on c.start_list.new.state c.loop-i.state c.elab_exp.new.state c.loop-i.invariant.are.grows c.in_ok-one.ensures.is.grows) c.in_ok-listed.ensures.element

pub list_of-loop-i-preserved : goal.list_of-loop-i-preserved
list_of-loop-i-preserved t c =
    elements_more c.start_list.new.state c.loop-i.state c.elab_exp.new.state c.add_element.new.state c.args.context.now c.loop-i.context c.elab_exp.new.context c.in_ok-listed.listed
    c.args.elements.now c.loop-i.i c.index-elements-i.result c.in_ok-one.one c.loop-i.made.items c.add_element.new.parts.items c.loop-i-test.true c.index-elements-i.is c.loop-i.invariant
    c.in_ok-one.ensures.context c.in_ok-one.ensures.is c.in_ok-add_element.ensures

pub list_of-returns-clause-context : goal.list_of-returns-clause-context
list_of-returns-clause-context t c = c.loop-i.invariant.same

pub list_of-returns-clause-is : goal.list_of-returns-clause-is
list_of-returns-clause-is t c =
    elements_end c.args.state.now c.start_list.new.state c.loop-i.state c.args.context.now c.loop-i.context c.args.place c.in_ok-listed.listed c.args.elements.now c.loop-i.i c.loop-i.made.items
    _ (omega arith) c.in_ok-listed.ensures c.loop-i.invariant c.in_ok-finish_list.ensures

pub left_of-elab_exp-requires : goal.left_of-elab_exp-requires
left_of-elab_exp-requires t c =
    (omega (arith, c.decreases, operand-size c.args.exp.now c.in-Chain.place c.in-Chain.right c.in-Chain.first c.in-Chain.parts c.deref.result.now c.in-Chain.is c.deref.ensures), c.requires)

pub left_of-loop-i-init : goal.left_of-loop-i-init
left_of-loop-i-init t c =
    left_first c.args.exp.now c.in-Chain.place c.in-Chain.right c.in-Chain.first c.in-Chain.parts c.deref.result.now c.deref-parts.result.now c.in-Chain.is c.deref.ensures
    c.deref-parts.ensures.value c.args.state.now c.elab_exp.new.state c.args.context.now c.elab_exp.new.context c.in_ok-one.one c.start_left-made.result c.if-right.false
    c.in_ok-one.ensures.context c.in_ok-one.ensures.is c.start_left-made.ensures.is

pub left_of-elab_exp-requires-in-loop-i : goal.left_of-elab_exp-requires-in-loop-i
left_of-elab_exp-requires-in-loop-i t c = (
  omega (
    arith,
    c.decreases,
    parts-size c.args.exp.now c.in-Chain.place c.in-Chain.right c.in-Chain.first c.in-Chain.parts c.deref-parts.result.now c.in-Chain.is c.deref-parts.ensures.value,
    part-size c.deref-parts.result.now c.loop-i.i c.index-parts-i.result c.loop-i-test.true,
  ),
  stands_on c.args.state.now c.loop-i.state c.args.context.now c.loop-i.context c.requires c.loop-i.invariant.so_far.left.grows c.loop-i.invariant.so_far.same,
)

pub left_of-add_left-requires-clause-context : goal.left_of-add_left-requires-clause-context
left_of-add_left-requires-clause-context t c =
    context_on c.args.state.now c.elab_exp-in-loop-i.new.state c.args.context.now c.elab_exp-in-loop-i.new.context c.requires.context
    (grows_on c.args.state.now c.loop-i.state c.elab_exp-in-loop-i.new.state c.loop-i.invariant.so_far.left.grows c.in_ok-one-2.ensures.is.grows)
    (c.in_ok-one-2.ensures.context ∙ c.loop-i.invariant.so_far.same)

pub left_of-add_left-requires-clause-chain : goal.left_of-add_left-requires-clause-chain
left_of-add_left-requires-clause-chain t c =
    type_later c.loop-i.state c.elab_exp-in-loop-i.new.state c.loop-i.made.ty c.in_ok-one-2.ensures.is.grows c.loop-i.invariant.so_far.left.is

pub left_of-loop-i-preserved : goal.left_of-loop-i-preserved
left_of-loop-i-preserved t c =
    left_next c.args.state.now c.loop-i.state c.elab_exp-in-loop-i.new.state c.add_left.new.state c.args.context.now c.loop-i.context c.elab_exp-in-loop-i.new.context c.args.exp.now
    c.in-Chain.place c.deref-parts.result.now c.loop-i.i c.index-parts-i-in-loop-i.result c.index-parts-i.result c.in_ok-operator.operator c.in_ok-one-2.one c.loop-i.made c.add_left.new.chain
    c.loop-i-test.true c.index-parts-i-in-loop-i.is c.in_ok-operator.ensures c.loop-i.invariant c.in_ok-one-2.ensures.context c.in_ok-one-2.ensures.is
    (c.in_ok-add_left.ensures)

pub left_of-returns-clause-context : goal.left_of-returns-clause-context
left_of-returns-clause-context t c = c.loop-i.invariant.so_far.same

pub left_of-returns-clause-is : goal.left_of-returns-clause-is
left_of-returns-clause-is t c =
    left_done c.args.state.now c.loop-i.state c.args.context.now c.loop-i.context c.args.exp.now c.in-Chain.place c.deref-parts.result.now c.loop-i.i c.loop-i.made _ (omega arith)
    c.loop-i.invariant c.in_ok-finish_left.ensures

pub rules_from-loop-i-init : goal.rules_from-loop-i-init
rules_from-loop-i-init t c = rules_begin c.args.state.now c.args.context.now c.args.made.now

pub rules_from-begin_rule-requires-clause-context : goal.rules_from-begin_rule-requires-clause-context
rules_from-begin_rule-requires-clause-context t c =
    context_on c.args.state.now c.loop-i.state c.args.context.now c.loop-i.context c.requires.context.context c.loop-i.invariant.grows c.loop-i.invariant.same

pub rules_from-begin_rule-requires-clause-domain : goal.rules_from-begin_rule-requires-clause-domain
rules_from-begin_rule-requires-clause-domain t c =
    subst (HasType c.loop-i.state) (sym c.loop-i.invariant.domain) (type_later c.args.state.now c.loop-i.state c.args.made.now.domain c.loop-i.invariant.grows c.requires.domain)

pub rules_from-elab_exp-requires : goal.rules_from-elab_exp-requires
rules_from-elab_exp-requires t c = (
  omega (arith, c.decreases, rule-size c.args.rules.now c.loop-i.i c.index-rules-i-in-loop-i-2.result c.loop-i-test.true),
  stands_begun c.loop-i.state c.begin_rule.new.state c.loop-i.context c.begin_rule.new.context _ c.loop-i.made.domain c.in_ok-begun.begun
      (stands_on c.args.state.now c.loop-i.state c.args.context.now c.loop-i.context c.requires.context c.loop-i.invariant.grows c.loop-i.invariant.same) c.in_ok-begun.ensures.begun,
)

pub rules_from-counted-requires-clause-context : goal.rules_from-counted-requires-clause-context
rules_from-counted-requires-clause-context t c =
    (stands_on c.begin_rule.new.state c.elab_exp.new.state c.begin_rule.new.context c.elab_exp.new.context
    (stands_begun c.loop-i.state c.begin_rule.new.state c.loop-i.context c.begin_rule.new.context _ c.loop-i.made.domain c.in_ok-begun.begun
    (stands_on c.args.state.now c.loop-i.state c.args.context.now c.loop-i.context c.requires.context c.loop-i.invariant.grows c.loop-i.invariant.same) c.in_ok-begun.ensures.begun)
    c.in_ok-exp.ensures.is.grows c.in_ok-exp.ensures.context).context

pub rules_from-end_rule-requires-clause-range : goal.rules_from-end_rule-requires-clause-range
rules_from-end_rule-requires-clause-range t c =
    subst (HasType c.counted.new.state) (sym c.loop-i.invariant.range)
    (type_later c.args.state.now c.counted.new.state c.args.made.now.range
    (grows_on c.args.state.now c.loop-i.state c.counted.new.state c.loop-i.invariant.grows
    (grows_on c.loop-i.state c.begin_rule.new.state c.counted.new.state
    (begun_grows c.loop-i.state c.begin_rule.new.state c.loop-i.context c.begin_rule.new.context _ c.loop-i.made.domain c.in_ok-begun.begun c.in_ok-begun.ensures.begun)
    (c.in_ok-side.ensures c.begin_rule.new.state c.begin_rule.new.context _ (sym c.in_ok-exp.ensures.context) c.in_ok-exp.ensures.is).grows)) c.requires.range)

pub rules_from-loop-i-preserved : goal.rules_from-loop-i-preserved
rules_from-loop-i-preserved t c =
    each_more rule_of c.args.state.now c.loop-i.state c.begin_rule.new.state c.counted.new.state c.end_rule.new.state c.args.context.now c.loop-i.context c.begin_rule.new.context
    c.elab_exp.new.context c.end_rule.new.context c.args.rules.now c.loop-i.i c.index-rules-i.result (get_or c.args.rules.now c.loop-i.i c.index-rules-i.result).place _ _
    c.in_ok-begun.begun c.in_ok-side.side c.args.made.now c.loop-i.made c.end_rule.new.made c.requires.context.context c.loop-i-test.true
    (rule-at c.args.rules.now c.loop-i.i c.index-rules-i.result c.index-rules-i-in-loop-i.result c.index-rules-i-in-loop-i-2.result _ c.loop-i-test.true refl) c.loop-i.invariant
    c.in_ok-begun.ensures.begun c.in_ok-exp.ensures.context (c.in_ok-side.ensures c.begin_rule.new.state c.begin_rule.new.context _ (sym c.in_ok-exp.ensures.context) c.in_ok-exp.ensures.is) c.in_ok-end_rule.ensures.grows c.in_ok-end_rule.ensures.domain c.in_ok-end_rule.ensures.range
    c.in_ok-end_rule.ensures.left c.in_ok-end_rule.ensures.added

pub rules_from-returns-clause-are : goal.rules_from-returns-clause-are
rules_from-returns-clause-are t c R k =
    rules_end rule_of c.args.state.now c.loop-i.state c.args.context.now c.loop-i.context c.args.rules.now c.loop-i.i c.args.made.now c.loop-i.made (omega arith) c.loop-i.invariant R k

pub function_of-rules_from-requires : goal.function_of-rules_from-requires
function_of-rules_from-requires t c = (
  omega (arith, c.decreases),
  (
    stands_on c.args.state.now c.start_function.new.state c.args.context.now c.args.context.now c.requires c.in_ok-made.ensures.grows refl,
    (c.in_ok-made.ensures.domain, c.in_ok-made.ensures.range),
  ),
)

pub function_of-by_rules-requires-clause-context : goal.function_of-by_rules-requires-clause-context
function_of-by_rules-requires-clause-context t c =
    context_on c.args.state.now c.rules_from.new.state c.args.context.now c.rules_from.new.context c.requires.context
    (grows_on c.args.state.now c.start_function.new.state c.rules_from.new.state c.in_ok-made.ensures.grows c.in_ok-rules_from.ensures.grows) c.in_ok-rules_from.ensures.context

pub function_of-by_rules-requires-clause-domain : goal.function_of-by_rules-requires-clause-domain
function_of-by_rules-requires-clause-domain t c = (c.in_ok-rules_from.ensures.are c.args.state.now c.in_ok-made.ensures).domain

pub function_of-by_rules-requires-clause-range : goal.function_of-by_rules-requires-clause-range
function_of-by_rules-requires-clause-range t c = (c.in_ok-rules_from.ensures.are c.args.state.now c.in_ok-made.ensures).range

pub function_of-returns-clause-is : goal.function_of-returns-clause-is
function_of-returns-clause-is t c =
    function_is c.args.state.now c.rules_from.new.state c.by_rules.new.state c.args.context.now c.rules_from.new.context c.args.place (map rule_of c.args.rules.now) c.rules_from.new.made _
    c.in_ok-rules_from.ensures.context (c.in_ok-rules_from.ensures.are c.args.state.now c.in_ok-made.ensures) c.in_ok-by_rules.ensures

pub case_from-rules_from-requires : goal.case_from-rules_from-requires
case_from-rules_from-requires t c = (
  omega (arith, c.decreases),
  (
    stands_on c.args.state.now c.start_case.new.state c.args.context.now c.args.context.now c.requires.context c.in_ok-made.ensures.grows refl,
    (
      subst (HasType c.start_case.new.state) (sym c.in_ok-made.ensures.domain)
          (type_later c.args.state.now c.start_case.new.state c.args.taken.ty c.in_ok-made.ensures.grows c.requires.taken),
      c.in_ok-made.ensures.range,
    ),
  ),
)

pub case_from-case_of-requires-clause-context : goal.case_from-case_of-requires-clause-context
case_from-case_of-requires-clause-context t c =
    context_on c.args.state.now c.rules_from.new.state c.args.context.now c.rules_from.new.context c.requires.context.context
    (grows_on c.args.state.now c.start_case.new.state c.rules_from.new.state c.in_ok-made.ensures.grows c.in_ok-rules_from.ensures.grows) c.in_ok-rules_from.ensures.context

pub case_from-case_of-requires-clause-range : goal.case_from-case_of-requires-clause-range
case_from-case_of-requires-clause-range t c =
    subst (HasType c.rules_from.new.state) (sym c.in_ok-rules_from.ensures.range)
    (type_later c.start_case.new.state c.rules_from.new.state c.in_ok-made.made.range c.in_ok-rules_from.ensures.grows c.in_ok-made.ensures.range)

pub case_from-returns-clause-is : goal.case_from-returns-clause-is
case_from-returns-clause-is t c S p q e h =
    case_is S c.args.state.now c.rules_from.new.state c.case_of.new.state c.args.context.now c.rules_from.new.context p q e (map rule_of c.args.rules.now) c.args.taken c.rules_from.new.made _
    c.in_ok-rules_from.ensures.context h (c.in_ok-rules_from.ensures.are c.args.state.now (c.in_ok-made.ensures.started S e h))
    (c.in_ok-rules_from.ensures.domain ∙ c.in_ok-made.ensures.domain) c.in_ok-case_of.ensures

pub handle_of-elab_exp-requires : goal.handle_of-elab_exp-requires
handle_of-elab_exp-requires t c =
    (omega (arith, c.decreases, handled-size c.args.exp.now c.in-Handle.field-0 c.in-Handle.body c.in-Handle.rules c.deref.result.now c.in-Handle.is c.deref.ensures), c.requires)

pub handle_of-start_handle-requires : goal.handle_of-start_handle-requires
handle_of-start_handle-requires t c = record {
  context = context_on c.args.state.now c.elab_exp.new.state c.args.context.now c.elab_exp.new.context c.requires.context c.in_ok-body.ensures.is.grows c.in_ok-body.ensures.context;
}

pub handle_of-rules_from-requires : goal.handle_of-rules_from-requires
handle_of-rules_from-requires t c = (
  omega (arith, c.decreases, handler-size c.args.exp.now c.in-Handle.field-0 c.in-Handle.body c.in-Handle.rules c.deref-2.result.now c.in-Handle.is c.deref-2.ensures.value),
  (
    stands_on c.args.state.now c.start_handle.new.state c.args.context.now c.elab_exp.new.context c.requires
        (grows_on c.args.state.now c.elab_exp.new.state c.start_handle.new.state c.in_ok-body.ensures.is.grows c.in_ok-made.ensures.grows) c.in_ok-body.ensures.context,
    (
      c.in_ok-made.ensures.is,
      subst (HasType c.start_handle.new.state) (sym c.in_ok-made.ensures.range)
          (type_later c.elab_exp.new.state c.start_handle.new.state c.in_ok-body.body.ty c.in_ok-made.ensures.grows c.in_ok-body.ensures.is.is),
    ),
  ),
)

pub handle_of-handling-requires-clause-context : goal.handle_of-handling-requires-clause-context
handle_of-handling-requires-clause-context t c =
    context_on c.args.state.now c.rules_from.new.state c.args.context.now c.rules_from.new.context c.requires.context
    (grows_on c.args.state.now c.elab_exp.new.state c.rules_from.new.state c.in_ok-body.ensures.is.grows
    (grows_on c.elab_exp.new.state c.start_handle.new.state c.rules_from.new.state c.in_ok-made.ensures.grows c.in_ok-rules_from.ensures.grows))
    (c.in_ok-rules_from.ensures.context ∙ c.in_ok-body.ensures.context)

pub handle_of-handling-requires-clause-body : goal.handle_of-handling-requires-clause-body
handle_of-handling-requires-clause-body t c =
    type_later c.elab_exp.new.state c.rules_from.new.state c.in_ok-body.body.ty
    (grows_on c.elab_exp.new.state c.start_handle.new.state c.rules_from.new.state c.in_ok-made.ensures.grows c.in_ok-rules_from.ensures.grows) c.in_ok-body.ensures.is.is

pub handle_of-returns-clause-context : goal.handle_of-returns-clause-context
handle_of-returns-clause-context t c = c.in_ok-rules_from.ensures.context ∙ c.in_ok-body.ensures.context

pub handle_of-returns-clause-is : goal.handle_of-returns-clause-is
handle_of-returns-clause-is t c =
    handle_is c.args.state.now c.elab_exp.new.state c.rules_from.new.state c.handling.new.state c.args.context.now c.elab_exp.new.context c.rules_from.new.context c.args.exp.now
    c.in-Handle.field-0 c.in-Handle.body c.in-Handle.rules c.deref.result.now c.deref-2.result.now c.in_ok-body.body c.rules_from.new.made _ c.in-Handle.is c.deref.ensures
    c.deref-2.ensures.value c.in_ok-body.ensures.context c.in_ok-rules_from.ensures.context c.in_ok-body.ensures.is
    (c.in_ok-rules_from.ensures.are c.elab_exp.new.state
    (c.in_ok-made.ensures.started c.args.state.now (exp_of c.deref.result.now)
    (exp_in c.args.state.now c.elab_exp.new.state c.elab_exp.new.context c.args.context.now (exp_of c.deref.result.now) c.in_ok-body.body (sym c.in_ok-body.ensures.context)
    c.in_ok-body.ensures.is)))
    (λ W k.
    ap (λ d. type_of W d) c.in_ok-rules_from.ensures.domain
    ∙ c.in_ok-made.ensures.domain W (comes_before c.start_handle.new.state c.rules_from.new.state W c.in_ok-rules_from.ensures.grows k))
    (c.in_ok-rules_from.ensures.range ∙ c.in_ok-made.ensures.range) c.in_ok-handling.ensures

pub right_of-elab_exp-requires : goal.right_of-elab_exp-requires
right_of-elab_exp-requires t c =
    (omega (arith, c.decreases, operand-size c.args.exp.now c.in-Chain.place c.in-Chain.right c.in-Chain.first c.in-Chain.parts c.deref.result.now c.in-Chain.is c.deref.ensures), c.requires)

pub right_of-start_right-requires : goal.right_of-start_right-requires
right_of-start_right-requires t c = record {
  context = context_on c.args.state.now c.elab_exp.new.state c.args.context.now c.elab_exp.new.context c.requires.context c.in_ok-one.ensures.is.grows c.in_ok-one.ensures.context;
}

pub right_of-loop-i-init : goal.right_of-loop-i-init
right_of-loop-i-init t c =
    right_first c.args.exp.now c.in-Chain.place c.in-Chain.right c.in-Chain.first c.in-Chain.parts c.deref.result.now c.deref-parts.result.now c.in-Chain.is c.deref.ensures
    c.deref-parts.ensures.value c.args.state.now c.elab_exp.new.state c.start_right.new.state c.args.context.now c.elab_exp.new.context c.in_ok-one.one c.in_ok-made.made
    (let k = c.if-not-right.false in search arith) c.in_ok-one.ensures.context c.in_ok-one.ensures.is c.in_ok-made.ensures

pub right_of-elab_exp-requires-in-loop-i : goal.right_of-elab_exp-requires-in-loop-i
right_of-elab_exp-requires-in-loop-i t c = (
  omega (
    arith,
    c.decreases,
    parts-size c.args.exp.now c.in-Chain.place c.in-Chain.right c.in-Chain.first c.in-Chain.parts c.deref-parts.result.now c.in-Chain.is c.deref-parts.ensures.value,
    part-size c.deref-parts.result.now c.loop-i.i c.index-parts-i.result c.loop-i-test.true,
  ),
  stands_on c.args.state.now c.loop-i.state c.args.context.now c.loop-i.context c.requires c.loop-i.invariant.so_far.right.grows c.loop-i.invariant.so_far.same,
)

pub right_of-add_right-requires-clause-context : goal.right_of-add_right-requires-clause-context
right_of-add_right-requires-clause-context t c =
    context_on c.args.state.now c.elab_exp-in-loop-i.new.state c.args.context.now c.elab_exp-in-loop-i.new.context c.requires.context
    (grows_on c.args.state.now c.loop-i.state c.elab_exp-in-loop-i.new.state c.loop-i.invariant.so_far.right.grows c.in_ok-one-2.ensures.is.grows)
    (c.in_ok-one-2.ensures.context ∙ c.loop-i.invariant.so_far.same)

pub right_of-add_right-requires-clause-last : goal.right_of-add_right-requires-clause-last
right_of-add_right-requires-clause-last t c =
    type_later c.loop-i.state c.elab_exp-in-loop-i.new.state c.loop-i.made.last c.in_ok-one-2.ensures.is.grows c.loop-i.invariant.so_far.right.last_is

pub right_of-add_right-requires-clause-hole : goal.right_of-add_right-requires-clause-hole
right_of-add_right-requires-clause-hole t c =
    type_later c.loop-i.state c.elab_exp-in-loop-i.new.state c.loop-i.made.hole c.in_ok-one-2.ensures.is.grows c.loop-i.invariant.so_far.right.hole_is

pub right_of-loop-i-preserved : goal.right_of-loop-i-preserved
right_of-loop-i-preserved t c =
    right_next c.args.state.now c.loop-i.state c.elab_exp-in-loop-i.new.state c.add_right.new.state c.args.context.now c.loop-i.context c.elab_exp-in-loop-i.new.context c.args.exp.now
    c.deref-parts.result.now c.loop-i.i c.index-parts-i-in-loop-i.result c.index-parts-i.result c.index-parts-i-in-loop-i-2.result
    (get_or c.deref-parts.result.now c.loop-i.i c.index-parts-i-in-loop-i-2.result).place c.in_ok-operator.operator c.in_ok-one-2.one c.loop-i.made c.add_right.new.chain
    c.loop-i-test.true c.index-parts-i-in-loop-i.is c.in_ok-operator.ensures refl c.loop-i.invariant c.in_ok-one-2.ensures.context c.in_ok-one-2.ensures.is c.in_ok-add_right.ensures

pub right_of-finish_right-requires-clause-last : goal.right_of-finish_right-requires-clause-last
right_of-finish_right-requires-clause-last t c = c.loop-i.invariant.so_far.right.last_is

pub right_of-finish_right-requires-clause-hole : goal.right_of-finish_right-requires-clause-hole
right_of-finish_right-requires-clause-hole t c = c.loop-i.invariant.so_far.right.hole_is

pub right_of-returns-clause-context : goal.right_of-returns-clause-context
right_of-returns-clause-context t c = c.loop-i.invariant.so_far.same

pub right_of-returns-clause-is : goal.right_of-returns-clause-is
right_of-returns-clause-is t c =
    right_done c.args.state.now c.loop-i.state c.finish_right.new.state c.args.context.now c.loop-i.context c.args.exp.now c.deref-parts.result.now c.loop-i.i c.loop-i.made _ (omega arith)
    c.loop-i.invariant c.in_ok-finish_right.ensures

pub tests_of-elab_exp-requires : goal.tests_of-elab_exp-requires
tests_of-elab_exp-requires t c =
    (omega (arith, c.decreases, operand-size c.args.exp.now c.in-Chain.place c.in-Chain.right c.in-Chain.first c.in-Chain.parts c.deref.result.now c.in-Chain.is c.deref.ensures), c.requires)

pub tests_of-loop-i-init : goal.tests_of-loop-i-init
tests_of-loop-i-init t c =
    tests_first c.args.exp.now c.in-Chain.place c.in-Chain.right c.in-Chain.first c.in-Chain.parts c.deref.result.now c.deref-parts.result.now c.in-Chain.is c.deref.ensures
    c.deref-parts.ensures.value c.args.state.now c.elab_exp.new.state c.add_operand.new.state c.args.context.now c.elab_exp.new.context (length c.deref-parts.result.now - 1) c.in_ok-one.one _
    c.add_operand.new.before.items (let k = c.if-not-right.false in search arith) c.new-before.ensures.items c.in_ok-one.ensures.context c.in_ok-one.ensures.is
    c.in_ok-add_operand.ensures.added

pub tests_of-elab_exp-requires-in-loop-i : goal.tests_of-elab_exp-requires-in-loop-i
tests_of-elab_exp-requires-in-loop-i t c = (
  omega (
    arith,
    c.decreases,
    parts-size c.args.exp.now c.in-Chain.place c.in-Chain.right c.in-Chain.first c.in-Chain.parts c.deref-parts.result.now c.in-Chain.is c.deref-parts.ensures.value,
    part-size c.deref-parts.result.now c.loop-i.i c.index-parts-i.result (omega (arith, c.loop-i-test.true)),
  ),
  stands_on c.args.state.now c.loop-i.state c.args.context.now c.loop-i.context c.requires c.loop-i.invariant.so_far.are.parts.grows c.loop-i.invariant.so_far.same,
)

pub tests_of-add_operand-requires-in-loop-i : goal.tests_of-add_operand-requires-in-loop-i
tests_of-add_operand-requires-in-loop-i t c = c.in_ok-one-2.ensures.is.is

pub tests_of-loop-i-preserved : goal.tests_of-loop-i-preserved
tests_of-loop-i-preserved t c =
    tests_next c.args.state.now c.loop-i.state c.elab_exp-in-loop-i.new.state c.add_operand-in-loop-i.new.state c.args.context.now c.loop-i.context c.elab_exp-in-loop-i.new.context
    c.args.exp.now c.deref-parts.result.now (length c.deref-parts.result.now - 1) c.loop-i.i c.index-parts-i.result c.in_ok-one-2.one c.loop-i.before.items
    c.add_operand-in-loop-i.new.before.items (omega (arith, c.loop-i-test.true)) c.loop-i-test.true c.loop-i.invariant c.in_ok-one-2.ensures.context c.in_ok-one-2.ensures.is
    c.in_ok-add_operand-2.ensures.added

pub tests_of-elab_exp-requires-2 : goal.tests_of-elab_exp-requires-2
tests_of-elab_exp-requires-2 t c = (
  omega (
    arith,
    c.decreases,
    parts-size c.args.exp.now c.in-Chain.place c.in-Chain.right c.in-Chain.first c.in-Chain.parts c.deref-parts.result.now c.in-Chain.is c.deref-parts.ensures.value,
    part-size c.deref-parts.result.now (length c.deref-parts.result.now - 1) c.index-parts-end.result
        (some-before c.deref-parts.result.now c.is_empty.result c.is_empty.ensures c.if-is_empty.false),
  ),
  stands_on c.args.state.now c.loop-i.state c.args.context.now c.loop-i.context c.requires c.loop-i.invariant.so_far.are.parts.grows c.loop-i.invariant.so_far.same,
)

pub tests_of-choices-requires-clause-context : goal.tests_of-choices-requires-clause-context
tests_of-choices-requires-clause-context t c =
    context_on c.args.state.now c.elab_exp-2.new.state c.args.context.now c.elab_exp-2.new.context c.requires.context
    (grows_on c.args.state.now c.loop-i.state c.elab_exp-2.new.state c.loop-i.invariant.so_far.are.parts.grows c.in_ok-last.ensures.is.grows)
    (c.in_ok-last.ensures.context ∙ c.loop-i.invariant.so_far.same)

pub tests_of-returns-clause-context : goal.tests_of-returns-clause-context
tests_of-returns-clause-context t c = c.in_ok-last.ensures.context ∙ c.loop-i.invariant.so_far.same

pub tests_of-returns-clause-is : goal.tests_of-returns-clause-is
tests_of-returns-clause-is t c =
    tests_done c.args.state.now c.loop-i.state c.elab_exp-2.new.state c.choices.new.state c.args.context.now c.loop-i.context c.elab_exp-2.new.context c.args.exp.now c.args.all
    c.deref-parts.result.now (length c.deref-parts.result.now - 1) c.loop-i.i c.index-parts-end.result c.loop-i.before.items c.in_ok-last.last _
    (one-more c.deref-parts.result.now c.is_empty.result c.is_empty.ensures c.if-is_empty.false) (omega arith) (c.are_joined.ensures (let k = c.if-not-are_joined.false in search arith))
    c.loop-i.invariant c.in_ok-last.ensures.context c.in_ok-last.ensures.is c.in_ok-choices.ensures

pub fn_applied-elab_exp-requires : goal.fn_applied-elab_exp-requires
fn_applied-elab_exp-requires t c = (
  omega (
    arith,
    c.decreases,
    arguments-size c.args.exp.now c.in-Apply.place c.in-Apply.operator c.in-Apply.arguments c.deref-arguments.result.now c.in-Apply.is c.deref-arguments.ensures.value,
    exp-size c.deref-arguments.result.now 0 c.index-arguments-0.result
        (omega (arith, one-more c.deref-arguments.result.now c.is_empty.result c.is_empty.ensures c.if-is_empty.false)) c.index-arguments-0.is,
  ),
  c.requires,
)

pub fn_applied-case_from-requires : goal.fn_applied-case_from-requires
fn_applied-case_from-requires t c = (
  omega (
    arith,
    c.decreases,
    operator-size c.args.exp.now c.in-Apply.place c.in-Apply.operator c.in-Apply.arguments c.deref-operator.result.now c.in-Apply.is c.deref-operator.ensures,
    rules-size c.deref-operator.result.now c.in-Fn.field-0 c.in-Fn.rules c.deref.result.now c.in-Fn.is c.deref.ensures.value,
  ),
  (
    stands_on c.args.state.now c.elab_exp.new.state c.args.context.now c.elab_exp.new.context c.requires c.in_ok-taken.ensures.is.grows c.in_ok-taken.ensures.context,
    c.in_ok-taken.ensures.is.is,
  ),
)

pub fn_applied-calls_from-requires : goal.fn_applied-calls_from-requires
fn_applied-calls_from-requires t c =
    let one = c.in_ok-made.ensures.is c.args.state.now c.in-Apply.place c.in-Apply.place (exp_of c.index-arguments-0.result)
    (exp_in c.args.state.now c.elab_exp.new.state c.elab_exp.new.context c.args.context.now (exp_of c.index-arguments-0.result) c.in_ok-taken.taken
    (sym c.in_ok-taken.ensures.context) c.in_ok-taken.ensures.is) in (
      omega (
        arith,
        c.decreases,
        arguments-size c.args.exp.now c.in-Apply.place c.in-Apply.operator c.in-Apply.arguments c.deref-arguments.result.now c.in-Apply.is c.deref-arguments.ensures.value,
        rest-most c.deref-arguments.result.now _ (rest-all c.deref-arguments.result.now),
      ),
      (
        stands_on c.args.state.now c.case_from.new.state c.args.context.now c.case_from.new.context c.requires one.grows
            (c.in_ok-made.ensures.context ∙ c.in_ok-taken.ensures.context),
        (c.in_ok-made-2.ensures c.args.state.now c.case_from.new.state c.elab_exp.new.context c.in-Apply.place _ one).is,
      ),
    )

pub fn_applied-returns-clause-context : goal.fn_applied-returns-clause-context
fn_applied-returns-clause-context t c = c.in_ok-calls_from.ensures.context ∙ c.in_ok-made.ensures.context ∙ c.in_ok-taken.ensures.context

pub fn_applied-returns-clause-is : goal.fn_applied-returns-clause-is
fn_applied-returns-clause-is t c =
    applied_is c.args.state.now c.elab_exp.new.state c.case_from.new.state c.calls_from.new.state c.args.context.now c.elab_exp.new.context c.case_from.new.context c.args.exp.now
    c.in-Apply.place c.in-Apply.operator c.in-Apply.arguments c.deref-operator.result.now c.in-Fn.field-0 c.in-Fn.rules c.deref.result.now c.deref-arguments.result.now _
    c.index-arguments-0.result c.in_ok-taken.taken c.in_ok-made.made c.in_ok-made-2.made c.calls_from.new.made c.finish_call.result c.in-Apply.is c.deref-operator.ensures
    c.deref-arguments.ensures.value c.in-Fn.is c.deref.ensures.value
    (omega (arith, one-more c.deref-arguments.result.now c.is_empty.result c.is_empty.ensures c.if-is_empty.false)) c.index-arguments-0.is
    (rest-all c.deref-arguments.result.now) c.in_ok-taken.ensures.context c.in_ok-made.ensures.context
    c.in_ok-taken.ensures.is c.in_ok-made.ensures.is c.in_ok-made-2.ensures c.in_ok-calls_from.ensures.is c.finish_call.ensures

pub let_of-decs_from-requires : goal.let_of-decs_from-requires
let_of-decs_from-requires t c =
    (omega (arith, c.decreases, decs-size c.args.exp.now c.in-Let.place c.in-Let.decs c.in-Let.body c.deref.result.now c.in-Let.is c.deref.ensures.value), c.requires)

pub let_of-elab_exp-requires : goal.let_of-elab_exp-requires
let_of-elab_exp-requires t c =
    (omega (arith, c.decreases, body-size c.args.exp.now c.in-Let.place c.in-Let.decs c.in-Let.body c.deref-2.result.now c.in-Let.is c.deref-2.ensures), c.in_ok-decs_from.ensures.stands)

pub let_of-block-requires-clause-context : goal.let_of-block-requires-clause-context
let_of-block-requires-clause-context t c =
    context_on c.args.state.now c.elab_exp.new.state c.args.context.now c.leave_block.new.context c.requires.context
    (grows_on c.args.state.now c.decs_from.new.state c.elab_exp.new.state c.in_ok-decs_from.ensures.bring.grows c.in_ok-body.ensures.is.grows)
    (let_left c.args.state.now c.decs_from.new.state c.args.context.now c.decs_from.new.context c.elab_exp.new.context c.leave_block.new.context _ c.begin_block-mark.result _ _ _ _
    c.begin_block-mark.ensures c.in_ok-decs_from.ensures c.in_ok-body.ensures.context c.leave_block.ensures)

pub let_of-returns-clause-context : goal.let_of-returns-clause-context
let_of-returns-clause-context t c =
    let_left c.args.state.now c.decs_from.new.state c.args.context.now c.decs_from.new.context c.elab_exp.new.context c.leave_block.new.context _ c.begin_block-mark.result _ _ _ _
    c.begin_block-mark.ensures c.in_ok-decs_from.ensures c.in_ok-body.ensures.context c.leave_block.ensures

pub let_of-returns-clause-is : goal.let_of-returns-clause-is
let_of-returns-clause-is t c =
    let_in_is c.args.state.now c.decs_from.new.state c.elab_exp.new.state c.block.new.state c.args.context.now c.decs_from.new.context c.leave_block.new.context c.args.exp.now
    c.in-Let.place c.in-Let.decs c.in-Let.body c.deref.result.now c.deref-2.result.now _ c.decs_from.new.made.items _ _ c.in_ok-body.body _ c.in-Let.is c.deref.ensures.value
    c.deref-2.ensures c.new-made.ensures.items c.requires c.in_ok-decs_from.ensures c.in_ok-body.ensures.is
    (let_left c.args.state.now c.decs_from.new.state c.args.context.now c.decs_from.new.context c.elab_exp.new.context c.leave_block.new.context _ c.begin_block-mark.result _ _ _ _
    c.begin_block-mark.ensures c.in_ok-decs_from.ensures c.in_ok-body.ensures.context c.leave_block.ensures)
    c.in_ok-block.ensures

pub decs_from-loop-i-init : goal.decs_from-loop-i-init
decs_from-loop-i-init t c = none_declared c.args.state.now c.args.context.now c.args.made.now.items c.args.brought.now c.requires

pub decs_from-elab_dec-requires : goal.decs_from-elab_dec-requires
decs_from-elab_dec-requires t c =
    (omega (arith, c.decreases, dec-size c.args.decs.now c.loop-i.i c.index-decs-i.result c.loop-i-test.true c.index-decs-i.is), c.loop-i.invariant.stands)

pub decs_from-loop-i-preserved : goal.decs_from-loop-i-preserved
decs_from-loop-i-preserved t c =
    more_declared c.args.state.now c.loop-i.state c.elab_dec.new.state c.args.context.now c.loop-i.context c.elab_dec.new.context c.args.decs.now c.loop-i.i c.index-decs-i.result
    c.args.made.now.items c.loop-i.made.items c.elab_dec.new.made.items c.args.brought.now c.loop-i.brought c.elab_dec.new.brought c.loop-i-test.true c.index-decs-i.is c.loop-i.invariant
    c.in_ok-elab_dec.ensures

pub decs_from-returns : goal.decs_from-returns
decs_from-returns t c =
    all_declared c.args.state.now c.loop-i.state c.args.context.now c.loop-i.context c.args.decs.now c.loop-i.i c.args.made.now.items c.loop-i.made.items c.args.brought.now c.loop-i.brought
    (omega arith) c.loop-i.invariant

pub local_of-decs_from-requires : goal.local_of-decs_from-requires
local_of-decs_from-requires t c =
    (omega (arith, c.decreases, first-part-size c.args.dec.now c.in-Local.field-0 c.in-Local.first c.in-Local.second c.deref.result.now c.in-Local.is c.deref.ensures.value), c.requires)

pub local_of-decs_from-requires-2 : goal.local_of-decs_from-requires-2
local_of-decs_from-requires-2 t c = (
  omega (arith, c.decreases, second-part-size c.args.dec.now c.in-Local.field-0 c.in-Local.first c.in-Local.second c.deref-2.result.now c.in-Local.is c.deref-2.ensures.value),
  c.in_ok-decs_from.ensures.stands,
)

pub local_of-returns : goal.local_of-returns
local_of-returns t c =
    local_declared c.args.state.now c.decs_from.new.state c.decs_from-2.new.state c.args.context.now c.decs_from.new.context c.decs_from-2.new.context c.end_local.new.context
    c.args.dec.now c.in-Local.field-0 c.in-Local.first c.in-Local.second c.deref.result.now c.deref-2.result.now c.begin_local-mark.result c.args.made.now.items
    c.decs_from.new.made.items c.decs_from-2.new.made.items _ _ _ c.decs_from-2.new.brought c.args.brought.now c.end_local.new.brought c.in-Local.is c.deref.ensures.value
    c.deref-2.ensures.value c.requires c.begin_local-mark.ensures c.in_ok-decs_from.ensures c.new-shown.ensures.values c.new-shown.ensures.types c.in_ok-decs_from-2.ensures
    c.in_ok-end_local.ensures.context c.in_ok-end_local.ensures.declared

pub bindings_from-loop-i-init : goal.bindings_from-loop-i-init
bindings_from-loop-i-init t c = record {
  same = refl;
  are = none_bound c.args.state.now c.args.context.now c.args.begun c.none_inside-inside.result c.none_inside-inside.ensures.bound c.none_inside-inside.ensures.flags c.none_inside-inside.ensures.binds;
}

pub bindings_from-elab_exp-requires : goal.bindings_from-elab_exp-requires
bindings_from-elab_exp-requires t c = (
  omega (arith, c.decreases, bind-size c.args.binds.now c.loop-i.i c.index-binds-i.result c.loop-i-test.true),
  stands_on c.args.state.now c.loop-i.state c.args.context.now c.loop-i.context c.requires.context c.loop-i.invariant.are.grows c.loop-i.invariant.same,
)

pub bindings_from-counted-requires-clause-context : goal.bindings_from-counted-requires-clause-context
bindings_from-counted-requires-clause-context t c =
    context_on c.args.state.now c.elab_exp.new.state c.args.context.now c.elab_exp.new.context c.requires.context.context
    (grows_on c.args.state.now c.loop-i.state c.elab_exp.new.state c.loop-i.invariant.are.grows c.in_ok-exp.ensures.is.grows)
    (c.in_ok-exp.ensures.context ∙ c.loop-i.invariant.same)

pub bindings_from-add_binding-requires-clause-context : goal.bindings_from-add_binding-requires-clause-context
bindings_from-add_binding-requires-clause-context t c =
    context_on c.args.state.now c.counted.new.state c.args.context.now c.elab_exp.new.context c.requires.context.context
    (grows_on c.args.state.now c.loop-i.state c.counted.new.state c.loop-i.invariant.are.grows (c.in_ok-side.ensures c.loop-i.state c.loop-i.context _ (sym c.in_ok-exp.ensures.context) c.in_ok-exp.ensures.is).grows)
    (c.in_ok-exp.ensures.context ∙ c.loop-i.invariant.same)

pub bindings_from-add_binding-requires-clause-within : goal.bindings_from-add_binding-requires-clause-within
bindings_from-add_binding-requires-clause-within t c =
    within_on c.args.context.now c.elab_exp.new.context c.args.begun c.args.scoped.now c.requires.within (c.in_ok-exp.ensures.context ∙ c.loop-i.invariant.same)

pub bindings_from-add_binding-requires-clause-exp : goal.bindings_from-add_binding-requires-clause-exp
bindings_from-add_binding-requires-clause-exp t c = (c.in_ok-side.ensures c.loop-i.state c.loop-i.context _ (sym c.in_ok-exp.ensures.context) c.in_ok-exp.ensures.is).is

pub bindings_from-loop-i-preserved : goal.bindings_from-loop-i-preserved
bindings_from-loop-i-preserved t c =
    bound_more c.args.state.now c.loop-i.state c.counted.new.state c.add_binding.new.state c.args.context.now c.loop-i.context c.elab_exp.new.context c.add_binding.new.context c.args.begun
    c.args.binds.now c.loop-i.i c.index-binds-i-in-loop-i-3.result c.index-binds-i.result c.in_ok-side.side c.loop-i.inside c.add_binding.new.inside c.loop-i-test.true
    c.index-binds-i-in-loop-i-3.is c.loop-i.invariant c.in_ok-exp.ensures.context (c.in_ok-side.ensures c.loop-i.state c.loop-i.context _ (sym c.in_ok-exp.ensures.context) c.in_ok-exp.ensures.is) c.in_ok-add_binding.ensures.context c.in_ok-add_binding.ensures.added

pub bindings_from-returns-clause-context : goal.bindings_from-returns-clause-context
bindings_from-returns-clause-context t c = c.loop-i.invariant.same

pub bindings_from-returns-clause-are : goal.bindings_from-returns-clause-are
bindings_from-returns-clause-are t c =
    all_bound c.args.state.now c.loop-i.state c.args.context.now c.loop-i.context c.args.begun c.args.binds.now c.loop-i.i c.loop-i.inside (omega arith) c.loop-i.invariant

pub rec_of-annotate_head-requires-clause-context : goal.rec_of-annotate_head-requires-clause-context
rec_of-annotate_head-requires-clause-context t c = c.requires.context.context

pub rec_of-start_function-requires : goal.rec_of-start_function-requires
rec_of-start_function-requires t c = record {
  context = context_on c.args.state.now c.annotate_head.new.state c.args.context.now c.args.context.now c.requires.context.context c.in_ok-annotate_head.ensures.grows refl;
}

pub rec_of-rules_from-requires : goal.rec_of-rules_from-requires
rec_of-rules_from-requires t c = (
  omega (arith, c.decreases, match-size c.args.bind.now _ c.in-Fn.place c.in-Fn.rules c.deref.result.now refl c.in-Fn.is c.deref.ensures.value),
  (
    stands_on c.args.state.now c.start_function.new.state c.args.context.now c.args.context.now c.requires.context
        (grows_on c.args.state.now c.annotate_head.new.state c.start_function.new.state c.in_ok-annotate_head.ensures.grows c.in_ok-made.ensures.grows) refl,
    (c.in_ok-made.ensures.domain, c.in_ok-made.ensures.range),
  ),
)

pub rec_of-by_rules-requires-clause-context : goal.rec_of-by_rules-requires-clause-context
rec_of-by_rules-requires-clause-context t c =
    context_on c.args.state.now c.rules_from.new.state c.args.context.now c.rules_from.new.context c.requires.context.context
    (grows_on c.args.state.now c.annotate_head.new.state c.rules_from.new.state c.in_ok-annotate_head.ensures.grows
    (grows_on c.annotate_head.new.state c.start_function.new.state c.rules_from.new.state c.in_ok-made.ensures.grows c.in_ok-rules_from.ensures.grows)) c.in_ok-rules_from.ensures.context

pub rec_of-by_rules-requires-clause-domain : goal.rec_of-by_rules-requires-clause-domain
rec_of-by_rules-requires-clause-domain t c = (c.in_ok-rules_from.ensures.are c.annotate_head.new.state c.in_ok-made.ensures).domain

pub rec_of-by_rules-requires-clause-range : goal.rec_of-by_rules-requires-clause-range
rec_of-by_rules-requires-clause-range t c = (c.in_ok-rules_from.ensures.are c.annotate_head.new.state c.in_ok-made.ensures).range

pub rec_of-returns-clause-context : goal.rec_of-returns-clause-context
rec_of-returns-clause-context t c = c.in_ok-rules_from.ensures.context

pub rec_of-returns-clause-is : goal.rec_of-returns-clause-is
rec_of-returns-clause-is t c =
    rec_member c.args.state.now c.annotate_head.new.state c.rules_from.new.state c.by_rules.new.state c.args.context.now c.rules_from.new.context c.args.bind.now _ c.in-Fn.place c.in-Fn.rules
    c.deref.result.now c.args.ty c.rules_from.new.made _ refl c.in-Fn.is c.deref.ensures.value c.in_ok-annotate_head.ensures c.in_ok-rules_from.ensures.context
    (c.in_ok-rules_from.ensures.are c.annotate_head.new.state c.in_ok-made.ensures) c.in_ok-by_rules.ensures

pub recs_from-loop-i-init : goal.recs_from-loop-i-init
recs_from-loop-i-init t c = members_begin c.args.state.now c.enter_group.new.context c.args.inside.now _ c.new-funs.ensures.items

pub recs_from-head_at-head-requires : goal.recs_from-head_at-head-requires
recs_from-head_at-head-requires t c = omega (arith, c.requires.count, c.loop-i-test.true)

pub recs_from-rec_of-requires : goal.recs_from-rec_of-requires
recs_from-rec_of-requires t c = (
  omega (arith, c.decreases, bind-most c.args.recs.now c.loop-i.i c.index-recs-i-in-loop-i.result c.loop-i-test.true c.index-recs-i-in-loop-i.is),
  (
    stands_on c.args.state.now c.loop-i.state c.enter_group.new.context c.loop-i.context (c.in_ok-mark.ensures.stands c.args.state.now c.requires.context c.requires.heads)
        c.loop-i.invariant.are.functions.grows c.loop-i.invariant.same,
    type_later c.args.state.now c.loop-i.state c.head_at-head.result.now.ty c.loop-i.invariant.are.functions.grows
        (head-held c.args.state.now c.args.heads.now c.loop-i.i c.head_at-head.result.now c.requires.heads (omega (arith, c.requires.count, c.loop-i-test.true)) c.head_at-head.ensures),
  ),
)

pub recs_from-add_member-requires-clause-context : goal.recs_from-add_member-requires-clause-context
recs_from-add_member-requires-clause-context t c =
    (stands_on c.args.state.now c.rec_of.new.state c.enter_group.new.context c.rec_of.new.context (c.in_ok-mark.ensures.stands c.args.state.now c.requires.context c.requires.heads)
    (grows_on c.args.state.now c.loop-i.state c.rec_of.new.state c.loop-i.invariant.are.functions.grows
    (member_grows c.loop-i.state c.rec_of.new.state c.loop-i.context _ c.head_at-head.result.now.ty c.in_ok-made.made c.in_ok-made.ensures.is))
    (c.in_ok-made.ensures.context ∙ c.loop-i.invariant.same)).context

pub recs_from-add_member-requires-clause-head : goal.recs_from-add_member-requires-clause-head
recs_from-add_member-requires-clause-head t c =
    type_later c.args.state.now c.rec_of.new.state c.head_at-head.result.now.ty
    (grows_on c.args.state.now c.loop-i.state c.rec_of.new.state c.loop-i.invariant.are.functions.grows
    (member_grows c.loop-i.state c.rec_of.new.state c.loop-i.context _ c.head_at-head.result.now.ty c.in_ok-made.made c.in_ok-made.ensures.is))
    (head-held c.args.state.now c.args.heads.now c.loop-i.i c.head_at-head.result.now c.requires.heads (omega (arith, c.requires.count, c.loop-i-test.true)) c.head_at-head.ensures)

pub recs_from-add_member-requires-clause-member : goal.recs_from-add_member-requires-clause-member
recs_from-add_member-requires-clause-member t c = c.in_ok-made.ensures.is.function.is

pub recs_from-loop-i-preserved : goal.recs_from-loop-i-preserved
recs_from-loop-i-preserved t c =
    members_more bind_of c.args.state.now c.loop-i.state c.rec_of.new.state c.add_member.new.state c.enter_group.new.context c.loop-i.context c.rec_of.new.context c.args.recs.now
    c.args.heads.now c.loop-i.i c.index-recs-i-in-loop-i.result c.head_at-head.result.now c.args.inside.now c.loop-i.inside c.add_member.new.inside c.loop-i.funs.items c.add_member.new.funs.items
    c.in_ok-made.made c.requires.count c.loop-i-test.true c.index-recs-i-in-loop-i.is c.head_at-head.ensures c.loop-i.invariant c.in_ok-made.ensures.context c.in_ok-made.ensures.is
    (λ S M rs r hs first. c.in_ok-add_member.ensures.added S M rs r hs first)

pub recs_from-returns-clause-context : goal.recs_from-returns-clause-context
recs_from-returns-clause-context t c =
    c.leave_heads.ensures c.args.context.now (reverse c.args.heads.now) c.in_ok-mark.ensures.mark (c.loop-i.invariant.same ∙ c.in_ok-mark.ensures.entered)

pub recs_from-returns-clause-are : goal.recs_from-returns-clause-are
recs_from-returns-clause-are t c =
    members_end bind_of c.args.state.now c.loop-i.state c.args.context.now c.enter_group.new.context c.loop-i.context c.args.recs.now c.args.heads.now c.loop-i.i c.args.inside.now
    c.loop-i.inside c.loop-i.funs.items c.requires.count (omega arith) c.in_ok-mark.ensures.entered c.loop-i.invariant

pub clauses_from-loop-i-init : goal.clauses_from-loop-i-init
clauses_from-loop-i-init t c = rules_begin c.args.state.now c.args.context.now c.args.made.now

pub clauses_from-begin_clause-requires-clause-context : goal.clauses_from-begin_clause-requires-clause-context
clauses_from-begin_clause-requires-clause-context t c =
    context_on c.args.state.now c.loop-i.state c.args.context.now c.loop-i.context c.requires.context.context c.loop-i.invariant.grows c.loop-i.invariant.same

pub clauses_from-begin_clause-requires-clause-domain : goal.clauses_from-begin_clause-requires-clause-domain
clauses_from-begin_clause-requires-clause-domain t c =
    subst (HasType c.loop-i.state) (sym c.loop-i.invariant.domain) (type_later c.args.state.now c.loop-i.state c.args.made.now.domain c.loop-i.invariant.grows c.requires.domain)

pub clauses_from-elab_exp-requires : goal.clauses_from-elab_exp-requires
clauses_from-elab_exp-requires t c = (
  omega (arith, c.decreases, clause-size c.args.clauses.now c.loop-i.i c.index-clauses-i-in-loop-i-2.result c.loop-i-test.true),
  stands_begun c.loop-i.state c.begin_clause.new.state c.loop-i.context c.begin_clause.new.context _ c.loop-i.made.domain c.in_ok-begun.begun
      (stands_on c.args.state.now c.loop-i.state c.args.context.now c.loop-i.context c.requires.context c.loop-i.invariant.grows c.loop-i.invariant.same) c.in_ok-begun.ensures,
)

pub clauses_from-counted-requires-clause-context : goal.clauses_from-counted-requires-clause-context
clauses_from-counted-requires-clause-context t c =
    (stands_on c.begin_clause.new.state c.elab_exp.new.state c.begin_clause.new.context c.elab_exp.new.context
    (stands_begun c.loop-i.state c.begin_clause.new.state c.loop-i.context c.begin_clause.new.context _ c.loop-i.made.domain c.in_ok-begun.begun
    (stands_on c.args.state.now c.loop-i.state c.args.context.now c.loop-i.context c.requires.context c.loop-i.invariant.grows c.loop-i.invariant.same) c.in_ok-begun.ensures)
    c.in_ok-exp.ensures.is.grows c.in_ok-exp.ensures.context).context

pub clauses_from-end_rule-requires-clause-range : goal.clauses_from-end_rule-requires-clause-range
clauses_from-end_rule-requires-clause-range t c =
    subst (HasType c.counted.new.state) (sym c.loop-i.invariant.range)
    (type_later c.args.state.now c.counted.new.state c.args.made.now.range
    (grows_on c.args.state.now c.loop-i.state c.counted.new.state c.loop-i.invariant.grows
    (grows_on c.loop-i.state c.begin_clause.new.state c.counted.new.state
    (begun_grows c.loop-i.state c.begin_clause.new.state c.loop-i.context c.begin_clause.new.context _ c.loop-i.made.domain c.in_ok-begun.begun c.in_ok-begun.ensures)
    (c.in_ok-side.ensures c.begin_clause.new.state c.begin_clause.new.context _ (sym c.in_ok-exp.ensures.context) c.in_ok-exp.ensures.is).grows)) c.requires.range)

pub clauses_from-loop-i-preserved : goal.clauses_from-loop-i-preserved
clauses_from-loop-i-preserved t c =
    each_more clause_rule c.args.state.now c.loop-i.state c.begin_clause.new.state c.counted.new.state c.end_rule.new.state c.args.context.now c.loop-i.context c.begin_clause.new.context
    c.elab_exp.new.context c.end_rule.new.context c.args.clauses.now c.loop-i.i c.index-clauses-i.result (get_or c.args.clauses.now c.loop-i.i c.index-clauses-i.result).place _ _
    c.in_ok-begun.begun c.in_ok-side.side c.args.made.now c.loop-i.made c.end_rule.new.made c.requires.context.context c.loop-i-test.true
    (clause-at c.args.clauses.now c.loop-i.i c.index-clauses-i.result c.index-clauses-i-in-loop-i.result c.index-clauses-i-in-loop-i-2.result _ c.deref.result.now c.loop-i-test.true refl
    c.deref.ensures.value) c.loop-i.invariant
    c.in_ok-begun.ensures c.in_ok-exp.ensures.context (c.in_ok-side.ensures c.begin_clause.new.state c.begin_clause.new.context _ (sym c.in_ok-exp.ensures.context) c.in_ok-exp.ensures.is) c.in_ok-end_rule.ensures.grows c.in_ok-end_rule.ensures.domain c.in_ok-end_rule.ensures.range
    c.in_ok-end_rule.ensures.left c.in_ok-end_rule.ensures.added

pub clauses_from-returns-clause-are : goal.clauses_from-returns-clause-are
clauses_from-returns-clause-are t c R k =
    rules_end clause_rule c.args.state.now c.loop-i.state c.args.context.now c.loop-i.context c.args.clauses.now c.loop-i.i c.args.made.now c.loop-i.made (omega arith) c.loop-i.invariant R k

pub clauses_on-clauses_from-requires : goal.clauses_on-clauses_from-requires
clauses_on-clauses_from-requires t c = (
  omega (arith, c.decreases),
  (
    stands_on c.args.state.now c.start_case.new.state c.args.context.now c.args.context.now c.requires.context c.in_ok-made.ensures.grows refl,
    (
      subst (HasType c.start_case.new.state) (sym c.in_ok-made.ensures.domain)
          (type_later c.args.state.now c.start_case.new.state c.args.taken.ty c.in_ok-made.ensures.grows c.requires.taken),
      c.in_ok-made.ensures.range,
    ),
  ),
)

pub clauses_on-case_of-requires-clause-context : goal.clauses_on-case_of-requires-clause-context
clauses_on-case_of-requires-clause-context t c =
    context_on c.args.state.now c.clauses_from.new.state c.args.context.now c.clauses_from.new.context c.requires.context.context
    (grows_on c.args.state.now c.start_case.new.state c.clauses_from.new.state c.in_ok-made.ensures.grows c.in_ok-clauses_from.ensures.grows) c.in_ok-clauses_from.ensures.context

pub clauses_on-case_of-requires-clause-range : goal.clauses_on-case_of-requires-clause-range
clauses_on-case_of-requires-clause-range t c =
    subst (HasType c.clauses_from.new.state) (sym c.in_ok-clauses_from.ensures.range)
    (type_later c.start_case.new.state c.clauses_from.new.state c.in_ok-made.made.range c.in_ok-clauses_from.ensures.grows c.in_ok-made.ensures.range)

pub clauses_on-returns-clause-is : goal.clauses_on-returns-clause-is
clauses_on-returns-clause-is t c S p q e h =
    case_is S c.args.state.now c.clauses_from.new.state c.case_of.new.state c.args.context.now c.clauses_from.new.context p q e (map clause_rule c.args.clauses.now) c.args.taken
    c.clauses_from.new.made _ c.in_ok-clauses_from.ensures.context h (c.in_ok-clauses_from.ensures.are c.args.state.now (c.in_ok-made.ensures.started S e h))
    (c.in_ok-clauses_from.ensures.domain ∙ c.in_ok-made.ensures.domain) c.in_ok-case_of.ensures

pub clausal_of-enter_parameters-requires-clause-context : goal.clausal_of-enter_parameters-requires-clause-context
clausal_of-enter_parameters-requires-clause-context t c = c.requires.context

pub clausal_of-clauses_on-requires : goal.clausal_of-clauses_on-requires
clausal_of-clauses_on-requires t c = (
  omega (arith, c.decreases, clauses-size c.args.function.now c.deref-clauses.result.now c.deref-clauses.ensures.value),
  (
    entered_stands c.args.state.now c.enter_parameters.new.state c.taken.new.state c.args.context.now c.enter_parameters.new.context _ _ _ c.requires c.in_ok-entered.ensures.context
        c.in_ok-entered.ensures.within c.in_ok-entered.ensures.entered (c.in_ok-operand.ensures _ (sym c.in_ok-count.ensures.count)).grows,
    (c.in_ok-operand.ensures _ (sym c.in_ok-count.ensures.count)).is,
  ),
)

pub clausal_of-finish_clauses-requires-clause-types : goal.clausal_of-finish_clauses-requires-clause-types
clausal_of-finish_clauses-requires-clause-types t c =
    entered_types c.args.state.now c.enter_parameters.new.state c.clauses_on.new.state c.args.context.now c.enter_parameters.new.context _ _ _ c.in_ok-entered.ensures.entered
    (clausal_body c.enter_parameters.new.state c.taken.new.state c.clauses_on.new.state c.enter_parameters.new.context _ c.deref-clauses.result.now c.in_ok-count.count c.in_ok-operand.operand
    c.in_ok-body.body c.in_ok-count.ensures.count c.in_ok-operand.ensures c.in_ok-body.ensures.is).grows

pub clausal_of-finish_clauses-requires-clause-body : goal.clausal_of-finish_clauses-requires-clause-body
clausal_of-finish_clauses-requires-clause-body t c =
    (clausal_body c.enter_parameters.new.state c.taken.new.state c.clauses_on.new.state c.enter_parameters.new.context (out-Function c.args.function.now).place c.deref-clauses.result.now c.in_ok-count.count
    c.in_ok-operand.operand c.in_ok-body.body c.in_ok-count.ensures.count c.in_ok-operand.ensures c.in_ok-body.ensures.is).is

pub clausal_of-returns-clause-context : goal.clausal_of-returns-clause-context
clausal_of-returns-clause-context t c =
    variables_left c.args.context.now c.enter_parameters.new.context c.clauses_on.new.context c.leave.new.context c.mark-mark.result c.in_ok-entered.ensures.within c.in_ok-body.ensures.context
    (mark_is c.args.context.now.values c.mark-mark.result c.mark-mark.ensures.named c.mark-mark.ensures.fresh c.mark-mark.ensures.equals) c.leave.ensures

pub clausal_of-returns-clause-is : goal.clausal_of-returns-clause-is
clausal_of-returns-clause-is t c ty =
    clausal_member c.args.state.now c.enter_parameters.new.state c.clauses_on.new.state c.finish_clauses.new.state c.args.context.now c.enter_parameters.new.context c.args.function.now
    c.deref-clauses.result.now c.in_ok-count.count ty c.in_ok-entered.entered c.in_ok-body.body _ c.deref-clauses.ensures.value c.in_ok-count.ensures.some c.in_ok-count.ensures.count
    c.in_ok-entered.ensures.entered
    (clausal_body c.enter_parameters.new.state c.taken.new.state c.clauses_on.new.state c.enter_parameters.new.context (out-Function c.args.function.now).place c.deref-clauses.result.now c.in_ok-count.count
    c.in_ok-operand.operand c.in_ok-body.body c.in_ok-count.ensures.count c.in_ok-operand.ensures c.in_ok-body.ensures.is) c.in_ok-finish_clauses.ensures

pub functions_from-loop-i-init : goal.functions_from-loop-i-init
functions_from-loop-i-init t c = members_begin c.args.state.now c.enter_group.new.context c.args.inside.now _ c.new-funs.ensures.items

pub functions_from-head_at-head-requires : goal.functions_from-head_at-head-requires
functions_from-head_at-head-requires t c = omega (arith, c.requires.count, c.loop-i-test.true)

pub functions_from-clausal_of-requires : goal.functions_from-clausal_of-requires
functions_from-clausal_of-requires t c = (
  omega (arith, c.decreases, function-most c.args.functions.now c.loop-i.i c.index-functions-i-in-loop-i.result c.loop-i-test.true c.index-functions-i-in-loop-i.is),
  stands_on c.args.state.now c.loop-i.state c.enter_group.new.context c.loop-i.context (c.in_ok-mark.ensures.stands c.args.state.now c.requires.context c.requires.heads)
      c.loop-i.invariant.are.functions.grows c.loop-i.invariant.same,
)

pub functions_from-add_member-requires-clause-context : goal.functions_from-add_member-requires-clause-context
functions_from-add_member-requires-clause-context t c =
    (stands_on c.args.state.now c.clausal_of.new.state c.enter_group.new.context c.clausal_of.new.context (c.in_ok-mark.ensures.stands c.args.state.now c.requires.context c.requires.heads)
    (grows_on c.args.state.now c.loop-i.state c.clausal_of.new.state c.loop-i.invariant.are.functions.grows
    (member_grows c.loop-i.state c.clausal_of.new.state c.loop-i.context _ c.head_at-head.result.now.ty c.in_ok-made.made (c.in_ok-made.ensures.is c.head_at-head.result.now.ty)))
    (c.in_ok-made.ensures.context ∙ c.loop-i.invariant.same)).context

pub functions_from-add_member-requires-clause-head : goal.functions_from-add_member-requires-clause-head
functions_from-add_member-requires-clause-head t c =
    type_later c.args.state.now c.clausal_of.new.state c.head_at-head.result.now.ty
    (grows_on c.args.state.now c.loop-i.state c.clausal_of.new.state c.loop-i.invariant.are.functions.grows
    (member_grows c.loop-i.state c.clausal_of.new.state c.loop-i.context _ c.head_at-head.result.now.ty c.in_ok-made.made (c.in_ok-made.ensures.is c.head_at-head.result.now.ty)))
    (head-held c.args.state.now c.args.heads.now c.loop-i.i c.head_at-head.result.now c.requires.heads (omega (arith, c.requires.count, c.loop-i-test.true)) c.head_at-head.ensures)

pub functions_from-add_member-requires-clause-member : goal.functions_from-add_member-requires-clause-member
functions_from-add_member-requires-clause-member t c = (c.in_ok-made.ensures.is c.head_at-head.result.now.ty).function.is

pub functions_from-loop-i-preserved : goal.functions_from-loop-i-preserved
functions_from-loop-i-preserved t c =
    members_more function_bind c.args.state.now c.loop-i.state c.clausal_of.new.state c.add_member.new.state c.enter_group.new.context c.loop-i.context c.clausal_of.new.context c.args.functions.now
    c.args.heads.now c.loop-i.i c.index-functions-i-in-loop-i.result c.head_at-head.result.now c.args.inside.now c.loop-i.inside c.add_member.new.inside c.loop-i.funs.items c.add_member.new.funs.items
    c.in_ok-made.made c.requires.count c.loop-i-test.true c.index-functions-i-in-loop-i.is c.head_at-head.ensures c.loop-i.invariant c.in_ok-made.ensures.context (c.in_ok-made.ensures.is c.head_at-head.result.now.ty)
    (λ S M rs r hs first. c.in_ok-add_member.ensures.added S M rs r hs first)

pub functions_from-returns-clause-context : goal.functions_from-returns-clause-context
functions_from-returns-clause-context t c =
    c.leave_heads.ensures c.args.context.now (reverse c.args.heads.now) c.in_ok-mark.ensures.mark (c.loop-i.invariant.same ∙ c.in_ok-mark.ensures.entered)

pub functions_from-returns-clause-are : goal.functions_from-returns-clause-are
functions_from-returns-clause-are t c =
    members_end function_bind c.args.state.now c.loop-i.state c.args.context.now c.enter_group.new.context c.loop-i.context c.args.functions.now c.args.heads.now c.loop-i.i c.args.inside.now
    c.loop-i.inside c.loop-i.funs.items c.requires.count (omega arith) c.in_ok-mark.ensures.entered c.loop-i.invariant

pub val_of-begin-requires-clause-context : goal.val_of-begin-requires-clause-context
val_of-begin-requires-clause-context t c = c.requires.context

pub val_of-begin-requires-clause-level : goal.val_of-begin-requires-clause-level
val_of-begin-requires-clause-level t c = c.requires.level

pub val_of-bindings_from-requires : goal.val_of-bindings_from-requires
val_of-bindings_from-requires t c = (
  omega (arith, c.decreases, binds-size c.args.dec.now c.in-Val.place c.in-Val.tyvars c.in-Val.binds c.in-Val.recs c.deref-binds.result.now c.in-Val.is c.deref-binds.ensures.value),
  (
    reserved_stands c.args.state.now c.begin.new.state c.reserve_recs.new.state c.args.context.now c.begin.new.context c.deref-scoped.result.now _ _ c.requires c.in_ok-begun.ensures.context
        c.in_ok-begun.ensures.begun c.in_ok-heads.ensures,
    begun_within c.args.state.now c.begin.new.state c.args.context.now c.begin.new.context c.in_ok-begun.begun c.deref-scoped.result.now c.in_ok-begun.ensures.tyvars
        c.in_ok-begun.ensures.begun,
  ),
)

pub val_of-recs_from-requires : goal.val_of-recs_from-requires
val_of-recs_from-requires t c = (
  omega (arith, c.decreases, recs-size c.args.dec.now c.in-Val.place c.in-Val.tyvars c.in-Val.binds c.in-Val.recs c.deref-recs.result.now c.in-Val.is c.deref-recs.ensures.value),
  (
    stands_on c.reserve_recs.new.state c.bindings_from.new.state c.begin.new.context c.bindings_from.new.context
        (reserved_stands c.args.state.now c.begin.new.state c.reserve_recs.new.state c.args.context.now c.begin.new.context c.deref-scoped.result.now _ _ c.requires c.in_ok-begun.ensures.context
        c.in_ok-begun.ensures.begun c.in_ok-heads.ensures) c.in_ok-inside.ensures.are.grows c.in_ok-inside.ensures.context,
    (
      heads_have c.begin.new.state c.reserve_recs.new.state c.bindings_from.new.state c.begin.new.context _ c.deref-heads.result.now (reserved_at c.begin.new.state c.reserve_recs.new.state c.begin.new.context _ c.in_ok-heads.heads.items c.deref-heads.result.now c.deref-heads.ensures.value c.in_ok-heads.ensures) c.in_ok-inside.ensures.are.grows,
      heads_count bind_of c.begin.new.state c.reserve_recs.new.state c.begin.new.context c.deref-recs.result.now c.deref-heads.result.now (reserved_at c.begin.new.state c.reserve_recs.new.state c.begin.new.context _ c.in_ok-heads.heads.items c.deref-heads.result.now c.deref-heads.ensures.value c.in_ok-heads.ensures),
    ),
  ),
)

pub val_of-finish_inside-requires-clause-stands : goal.val_of-finish_inside-requires-clause-stands
val_of-finish_inside-requires-clause-stands t c =
    stands_on c.reserve_recs.new.state c.recs_from.new.state c.begin.new.context c.recs_from.new.context
    (reserved_stands c.args.state.now c.begin.new.state c.reserve_recs.new.state c.args.context.now c.begin.new.context c.deref-scoped.result.now _ _ c.requires c.in_ok-begun.ensures.context
    c.in_ok-begun.ensures.begun c.in_ok-heads.ensures)
    (grows_on c.reserve_recs.new.state c.bindings_from.new.state c.recs_from.new.state c.in_ok-inside.ensures.are.grows c.in_ok-funs.ensures.are.functions.grows)
    (c.in_ok-funs.ensures.context ∙ c.in_ok-inside.ensures.context)

pub val_of-finish_inside-requires-clause-ready : goal.val_of-finish_inside-requires-clause-ready
val_of-finish_inside-requires-clause-ready t c =
    group_ready c.args.state.now c.recs_from.new.state c.args.context.now c.recs_from.new.context c.in_ok-begun.begun c.deref-scoped.result.now c.deref-tyvars.result.now
    (map bind_of c.deref-binds.result.now) (map bind_of c.deref-recs.result.now) c.recs_from.new.inside c.in_ok-funs.funs.items c.requires
    (group_filled c.args.state.now c.begin.new.state c.reserve_recs.new.state c.bindings_from.new.state c.recs_from.new.state c.args.context.now c.begin.new.context
    c.bindings_from.new.context c.recs_from.new.context c.in_ok-begun.begun c.deref-scoped.result.now c.deref-tyvars.result.now (map bind_of c.deref-binds.result.now)
    (map bind_of c.deref-recs.result.now) c.deref-heads.result.now c.in_ok-inside.inside c.recs_from.new.inside c.in_ok-funs.funs.items c.in_ok-begun.ensures.first c.in_ok-begun.ensures.tyvars
    c.in_ok-begun.ensures.begun (sym (c.deref-scoped.ensures.value ∙ c.in_ok-scoped.ensures))
    (reserved_at c.begin.new.state c.reserve_recs.new.state c.begin.new.context _ c.in_ok-heads.heads.items c.deref-heads.result.now c.deref-heads.ensures.value c.in_ok-heads.ensures)
    c.in_ok-inside.ensures.context c.in_ok-inside.ensures.are c.in_ok-funs.ensures.context c.in_ok-funs.ensures.are)

pub val_of-returns-clause-schemes : goal.val_of-returns-clause-schemes
val_of-returns-clause-schemes t c =
    c.in_ok-made.ensures.schemes ∙ ap (λ (k : Context). k.schemes) (c.in_ok-funs.ensures.context ∙ c.in_ok-inside.ensures.context)
    ∙ ap (λ (k : Context). k.schemes) c.in_ok-begun.ensures.begun.deep

pub val_of-returns-clause-stands : goal.val_of-returns-clause-stands
val_of-returns-clause-stands t c =
    c.in_ok-made.ensures.stands c.args.state.now c.args.context.now c.deref-tyvars.result.now (map bind_of c.deref-binds.result.now) (map bind_of c.deref-recs.result.now) c.requires
    (group_filled c.args.state.now c.begin.new.state c.reserve_recs.new.state c.bindings_from.new.state c.recs_from.new.state c.args.context.now c.begin.new.context
    c.bindings_from.new.context c.recs_from.new.context c.in_ok-begun.begun c.deref-scoped.result.now c.deref-tyvars.result.now (map bind_of c.deref-binds.result.now)
    (map bind_of c.deref-recs.result.now) c.deref-heads.result.now c.in_ok-inside.inside c.recs_from.new.inside c.in_ok-funs.funs.items c.in_ok-begun.ensures.first c.in_ok-begun.ensures.tyvars
    c.in_ok-begun.ensures.begun (sym (c.deref-scoped.ensures.value ∙ c.in_ok-scoped.ensures))
    (reserved_at c.begin.new.state c.reserve_recs.new.state c.begin.new.context _ c.in_ok-heads.heads.items c.deref-heads.result.now c.deref-heads.ensures.value c.in_ok-heads.ensures)
    c.in_ok-inside.ensures.context c.in_ok-inside.ensures.are c.in_ok-funs.ensures.context c.in_ok-funs.ensures.are)

pub val_of-returns-clause-brings : goal.val_of-returns-clause-brings
val_of-returns-clause-brings t c =
    subst (λ z. IsBringing c.args.state.now c.args.context.now z c.finish_inside.new.state c.finish_inside.new.context (c.in_ok-made.made ∷ []) c.args.brought.now c.finish_inside.new.brought)
    (val_source c.args.dec.now c.in-Val.place c.in-Val.tyvars c.in-Val.binds c.in-Val.recs c.deref-tyvars.result.now c.deref-binds.result.now c.deref-recs.result.now c.in-Val.is
    c.deref-tyvars.ensures.value c.deref-binds.ensures.value c.deref-recs.ensures.value)
    (c.in_ok-made.ensures.brings c.args.state.now c.args.context.now c.in-Val.place c.in-Val.tyvars.place c.deref-tyvars.result.now (map bind_of c.deref-binds.result.now)
    (map bind_of c.deref-recs.result.now) c.requires
    (group_filled c.args.state.now c.begin.new.state c.reserve_recs.new.state c.bindings_from.new.state c.recs_from.new.state c.args.context.now c.begin.new.context
    c.bindings_from.new.context c.recs_from.new.context c.in_ok-begun.begun c.deref-scoped.result.now c.deref-tyvars.result.now (map bind_of c.deref-binds.result.now)
    (map bind_of c.deref-recs.result.now) c.deref-heads.result.now c.in_ok-inside.inside c.recs_from.new.inside c.in_ok-funs.funs.items c.in_ok-begun.ensures.first c.in_ok-begun.ensures.tyvars
    c.in_ok-begun.ensures.begun (sym (c.deref-scoped.ensures.value ∙ c.in_ok-scoped.ensures))
    (reserved_at c.begin.new.state c.reserve_recs.new.state c.begin.new.context _ c.in_ok-heads.heads.items c.deref-heads.result.now c.deref-heads.ensures.value c.in_ok-heads.ensures)
    c.in_ok-inside.ensures.context c.in_ok-inside.ensures.are c.in_ok-funs.ensures.context c.in_ok-funs.ensures.are))

pub fun_of-begin-requires-clause-context : goal.fun_of-begin-requires-clause-context
fun_of-begin-requires-clause-context t c = c.requires.context

pub fun_of-begin-requires-clause-level : goal.fun_of-begin-requires-clause-level
fun_of-begin-requires-clause-level t c = c.requires.level

pub fun_of-functions_from-requires : goal.fun_of-functions_from-requires
fun_of-functions_from-requires t c = (
  omega (arith, c.decreases, functions-size c.args.dec.now c.in-Fun.place c.in-Fun.tyvars c.in-Fun.functions c.deref-functions.result.now c.in-Fun.is c.deref-functions.ensures.value),
  (
    (reserved_stands c.args.state.now c.begin.new.state c.reserve_names.new.state c.args.context.now c.begin.new.context c.deref-scoped.result.now _ _ c.requires c.in_ok-begun.ensures.context
        c.in_ok-begun.ensures.begun c.in_ok-heads.ensures),
    (
      heads_have c.begin.new.state c.reserve_names.new.state c.reserve_names.new.state c.begin.new.context _ c.deref-heads.result.now (reserved_at c.begin.new.state c.reserve_names.new.state c.begin.new.context _ c.in_ok-heads.heads.items c.deref-heads.result.now c.deref-heads.ensures.value c.in_ok-heads.ensures) (grows_same c.reserve_names.new.state),
      heads_count function_bind c.begin.new.state c.reserve_names.new.state c.begin.new.context c.deref-functions.result.now c.deref-heads.result.now (reserved_at c.begin.new.state c.reserve_names.new.state c.begin.new.context _ c.in_ok-heads.heads.items c.deref-heads.result.now c.deref-heads.ensures.value c.in_ok-heads.ensures),
    ),
  ),
)

pub fun_of-finish_inside-requires-clause-stands : goal.fun_of-finish_inside-requires-clause-stands
fun_of-finish_inside-requires-clause-stands t c =
    stands_on c.reserve_names.new.state c.functions_from.new.state c.begin.new.context c.functions_from.new.context
    (reserved_stands c.args.state.now c.begin.new.state c.reserve_names.new.state c.args.context.now c.begin.new.context c.deref-scoped.result.now _ _ c.requires c.in_ok-begun.ensures.context
    c.in_ok-begun.ensures.begun c.in_ok-heads.ensures)
    c.in_ok-funs.ensures.are.functions.grows c.in_ok-funs.ensures.context

pub fun_of-finish_inside-requires-clause-ready : goal.fun_of-finish_inside-requires-clause-ready
fun_of-finish_inside-requires-clause-ready t c =
    group_ready c.args.state.now c.functions_from.new.state c.args.context.now c.functions_from.new.context c.in_ok-begun.begun c.deref-scoped.result.now c.deref-tyvars.result.now
    [] (map function_bind c.deref-functions.result.now) c.functions_from.new.inside c.in_ok-funs.funs.items c.requires
    (group_filled c.args.state.now c.begin.new.state c.reserve_names.new.state c.reserve_names.new.state c.functions_from.new.state c.args.context.now c.begin.new.context
    c.begin.new.context c.functions_from.new.context c.in_ok-begun.begun c.deref-scoped.result.now c.deref-tyvars.result.now []
    (map function_bind c.deref-functions.result.now) c.deref-heads.result.now c.none_inside-inside.result c.functions_from.new.inside c.in_ok-funs.funs.items c.in_ok-begun.ensures.first
    c.in_ok-begun.ensures.tyvars c.in_ok-begun.ensures.begun
    (scopes_functions c.args.context.now c.deref-tyvars.result.now c.deref-scoped.result.now c.deref-functions.result.now (c.deref-scoped.ensures.value ∙ c.in_ok-scoped.ensures))
    (reserved_at c.begin.new.state c.reserve_names.new.state c.begin.new.context _ c.in_ok-heads.heads.items c.deref-heads.result.now c.deref-heads.ensures.value c.in_ok-heads.ensures)
    refl (none_bound c.reserve_names.new.state c.begin.new.context c.in_ok-begun.begun c.none_inside-inside.result c.none_inside-inside.ensures.bound c.none_inside-inside.ensures.flags
    c.none_inside-inside.ensures.binds)
    c.in_ok-funs.ensures.context c.in_ok-funs.ensures.are)

pub fun_of-returns-clause-schemes : goal.fun_of-returns-clause-schemes
fun_of-returns-clause-schemes t c =
    c.in_ok-made.ensures.schemes ∙ ap (λ (k : Context). k.schemes) c.in_ok-funs.ensures.context
    ∙ ap (λ (k : Context). k.schemes) c.in_ok-begun.ensures.begun.deep

pub fun_of-returns-clause-stands : goal.fun_of-returns-clause-stands
fun_of-returns-clause-stands t c =
    c.in_ok-made.ensures.stands c.args.state.now c.args.context.now c.deref-tyvars.result.now [] (map function_bind c.deref-functions.result.now) c.requires
    (group_filled c.args.state.now c.begin.new.state c.reserve_names.new.state c.reserve_names.new.state c.functions_from.new.state c.args.context.now c.begin.new.context
    c.begin.new.context c.functions_from.new.context c.in_ok-begun.begun c.deref-scoped.result.now c.deref-tyvars.result.now []
    (map function_bind c.deref-functions.result.now) c.deref-heads.result.now c.none_inside-inside.result c.functions_from.new.inside c.in_ok-funs.funs.items c.in_ok-begun.ensures.first
    c.in_ok-begun.ensures.tyvars c.in_ok-begun.ensures.begun
    (scopes_functions c.args.context.now c.deref-tyvars.result.now c.deref-scoped.result.now c.deref-functions.result.now (c.deref-scoped.ensures.value ∙ c.in_ok-scoped.ensures))
    (reserved_at c.begin.new.state c.reserve_names.new.state c.begin.new.context _ c.in_ok-heads.heads.items c.deref-heads.result.now c.deref-heads.ensures.value c.in_ok-heads.ensures)
    refl (none_bound c.reserve_names.new.state c.begin.new.context c.in_ok-begun.begun c.none_inside-inside.result c.none_inside-inside.ensures.bound c.none_inside-inside.ensures.flags
    c.none_inside-inside.ensures.binds)
    c.in_ok-funs.ensures.context c.in_ok-funs.ensures.are)

pub fun_of-returns-clause-brings : goal.fun_of-returns-clause-brings
fun_of-returns-clause-brings t c =
    subst (λ z. IsBringing c.args.state.now c.args.context.now z c.finish_inside.new.state c.finish_inside.new.context (c.in_ok-made.made ∷ []) c.args.brought.now c.finish_inside.new.brought)
    (fun_source c.args.dec.now c.in-Fun.place c.in-Fun.tyvars c.in-Fun.functions c.deref-tyvars.result.now c.deref-functions.result.now c.in-Fun.is
    c.deref-tyvars.ensures.value c.deref-functions.ensures.value)
    (c.in_ok-made.ensures.brings c.args.state.now c.args.context.now c.in-Fun.place c.in-Fun.tyvars.place c.deref-tyvars.result.now []
    (map function_bind c.deref-functions.result.now) c.requires
    (group_filled c.args.state.now c.begin.new.state c.reserve_names.new.state c.reserve_names.new.state c.functions_from.new.state c.args.context.now c.begin.new.context
    c.begin.new.context c.functions_from.new.context c.in_ok-begun.begun c.deref-scoped.result.now c.deref-tyvars.result.now []
    (map function_bind c.deref-functions.result.now) c.deref-heads.result.now c.none_inside-inside.result c.functions_from.new.inside c.in_ok-funs.funs.items c.in_ok-begun.ensures.first
    c.in_ok-begun.ensures.tyvars c.in_ok-begun.ensures.begun
    (scopes_functions c.args.context.now c.deref-tyvars.result.now c.deref-scoped.result.now c.deref-functions.result.now (c.deref-scoped.ensures.value ∙ c.in_ok-scoped.ensures))
    (reserved_at c.begin.new.state c.reserve_names.new.state c.begin.new.context _ c.in_ok-heads.heads.items c.deref-heads.result.now c.deref-heads.ensures.value c.in_ok-heads.ensures)
    refl (none_bound c.reserve_names.new.state c.begin.new.context c.in_ok-begun.begun c.none_inside-inside.result c.none_inside-inside.ensures.bound c.none_inside-inside.ensures.flags
    c.none_inside-inside.ensures.binds)
    c.in_ok-funs.ensures.context c.in_ok-funs.ensures.are))

pub elab_dec-returns-in-Declarations : goal.elab_dec-returns-in-Declarations
elab_dec-returns-in-Declarations t c =
    if-ok c.decs_from.result
    (λ r e.
    sequence_declared c.args.state.now c.decs_from.new.state c.args.context.now c.decs_from.new.context c.args.dec.now c.in-Declarations.field-0 c.in-Declarations.decs
    c.deref.result.now c.args.made.now.items c.decs_from.new.made.items c.args.brought.now c.decs_from.new.brought c.in-Declarations.is
    c.deref.ensures.value e)
    c.decs_from.ensures
