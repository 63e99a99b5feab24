use Rattle.std.proofs.Common.{map, take, get_or, sym, subst, arith}
use Rattle.sml_tree.specs.TreeOf.{pat_of, pat_field_of, pat_part_of}
use Rattle.sml_tree.specs.declared.tree.Pat.TheVariants as node
use Rattle.elab_context.proofs.Reading.{context_later}
use Rattle.elab_context.specs.of_elab_steps.Growing.{HasType}
use Rattle.elab_context.proofs.of_elab_steps.Growing.{grows_on, type_later}
use Rattle.pat_elab.specs.Fields.{numbered}
use Rattle.pat_elab.proofs.ListsDo.{none_are}
use Rattle.pat_elab.proofs.Sources.{source-Vid}
use Rattle.pat_elab.proofs.Sizes.{field-size, part-size, pat-size, fields-size, parts-size, named-size}
use Rattle.pat_elab.proofs.Loops.{field_more, fields_end, part_more, parts_end, element_more, elements_end, left_goes, left_ends, right_begins, right_goes, right_ends, of_source, to_right, to_left}
use Rattle.pat_elab.proofs.elab.+pats.Goals as goal

pub elab_pat-record_of-requires : goal.elab_pat-record_of-requires
elab_pat-record_of-requires t c =
    (omega (arith, c.decreases, fields-size c.args.pat.now c.in-Record.place c.in-Record.fields c.in-Record.is_open c.deref.result.now c.in-Record.is c.deref.ensures.value), c.requires)

pub elab_pat-right_of-requires : goal.elab_pat-right_of-requires
elab_pat-right_of-requires t c = (
  omega (arith, c.decreases, parts-size c.args.pat.now c.in-Chain.place c.in-Chain.right c.in-Chain.first c.in-Chain.parts c.deref-then-right.result.now c.in-Chain.is c.deref-then-right.ensures.value),
  (context_later c.args.state.now c.elab_pat-in-Chain.new.state c.args.context.now c.in_ok-first-in-Chain.ensures.grows c.requires, c.in_ok-first-in-Chain.ensures.is),
)

pub elab_pat-left_of-requires : goal.elab_pat-left_of-requires
elab_pat-left_of-requires t c = (
  omega (arith, c.decreases, parts-size c.args.pat.now c.in-Chain.place c.in-Chain.right c.in-Chain.first c.in-Chain.parts c.deref-else-right.result.now c.in-Chain.is c.deref-else-right.ensures.value),
  (context_later c.args.state.now c.elab_pat-in-Chain.new.state c.args.context.now c.in_ok-first-in-Chain.ensures.grows c.requires, c.in_ok-first-in-Chain.ensures.is),
)

pub elab_pat-elab_pat-requires-in-As : goal.elab_pat-elab_pat-requires-in-As
elab_pat-elab_pat-requires-in-As t c = (
  omega (arith, c.decreases, named-size c.args.pat.now c.in-As.place c.in-As.vid c.in-As.ty c.in-As.inner c.deref-in-As.result.now c.in-As.is c.deref-in-As.ensures),
  context_later c.args.state.now c.bind_variable.new.state c.args.context.now c.in_ok-variable-in-As.ensures.is.grows c.requires,
)

pub left_of-elab_pat-requires : goal.left_of-elab_pat-requires
left_of-elab_pat-requires t c = (
  omega (arith, c.decreases, part-size c.args.parts.now c.loop-i.i c.index-parts-i-in-loop-i-2.result c.loop-i-test.true),
  context_later c.args.state.now c.loop-i.state c.args.context.now c.loop-i.invariant.grows c.requires.context,
)

pub list_of-elab_pat-requires : goal.list_of-elab_pat-requires
list_of-elab_pat-requires t c = (
  omega (arith, c.decreases, pat-size c.args.elements.now c.loop-i.i c.index-elements-i.result c.loop-i-test.true c.index-elements-i.is),
  context_later c.args.state.now c.loop-i.state c.args.context.now
      (grows_on c.args.state.now c.start_list.new.state c.loop-i.state c.in_ok-listed.ensures.grows c.loop-i.invariant.grows) c.requires,
)

pub record_of-elab_pat-requires : goal.record_of-elab_pat-requires
record_of-elab_pat-requires t c = (
  omega (arith, c.decreases, field-size c.args.fields.now c.loop-i.i c.index-fields-i.result c.loop-i-test.true),
  context_later c.args.state.now c.loop-i.state c.args.context.now c.loop-i.invariant.grows c.requires,
)

pub right_of-elab_pat-requires : goal.right_of-elab_pat-requires
right_of-elab_pat-requires t c = (
  omega (arith, c.decreases, part-size c.args.parts.now c.loop-i.i c.index-parts-i-in-loop-i-2.result c.loop-i-test.true),
  context_later c.args.state.now c.join_new.new.state c.args.context.now
      (grows_on c.args.state.now c.start_right.new.state c.join_new.new.state c.in_ok-made.ensures.grows
      (grows_on c.start_right.new.state c.loop-i.state c.join_new.new.state c.loop-i.invariant.grows c.in_ok-joined.ensures.grows)) c.requires.context,
)

pub tuple_of-elab_pat-requires : goal.tuple_of-elab_pat-requires
tuple_of-elab_pat-requires t c = (
  omega (arith, c.decreases, pat-size c.args.parts.now c.loop-i.i c.index-parts-i.result c.loop-i-test.true c.index-parts-i.is),
  context_later c.args.state.now c.loop-i.state c.args.context.now c.loop-i.invariant.grows c.requires,
)

pub elab_pat-constructed-requires-clause-context : goal.elab_pat-constructed-requires-clause-context
elab_pat-constructed-requires-clause-context t c = context_later c.args.state.now c.elab_pat.new.state c.args.context.now c.in_ok-inner-in-Con.ensures.grows c.requires

pub elab_pat-built_of-requires-clause-context : goal.elab_pat-built_of-requires-clause-context
elab_pat-built_of-requires-clause-context t c = context_later c.args.state.now c.elab_pat-in-BuiltCon.new.state c.args.context.now c.in_ok-inner-in-BuiltCon.ensures.grows c.requires

pub elab_pat-with_type-requires-clause-context : goal.elab_pat-with_type-requires-clause-context
elab_pat-with_type-requires-clause-context t c = context_later c.args.state.now c.elab_pat-in-Typed.new.state c.args.context.now c.in_ok-inner-in-Typed.ensures.grows c.requires

pub elab_pat-with_name-requires-clause-context : goal.elab_pat-with_name-requires-clause-context
elab_pat-with_name-requires-clause-context t c =
    context_later c.args.state.now c.elab_pat-in-As.new.state c.args.context.now
    (grows_on c.args.state.now c.bind_variable.new.state c.elab_pat-in-As.new.state c.in_ok-variable-in-As.ensures.is.grows c.in_ok-inner-in-As.ensures.grows) c.requires

pub elab_pat-with_name-requires-clause-variable : goal.elab_pat-with_name-requires-clause-variable
elab_pat-with_name-requires-clause-variable t c =
    type_later c.bind_variable.new.state c.elab_pat-in-As.new.state c.in_ok-variable-in-As.variable.ty c.in_ok-inner-in-As.ensures.grows c.in_ok-variable-in-As.ensures.is.is

pub elab_pat-returns-in_ok-identifier-in-Vid : goal.elab_pat-returns-in_ok-identifier-in-Vid
elab_pat-returns-in_ok-identifier-in-Vid t c =
    of_source c.args.state.now c.identifier.new.state c.args.context.now c.args.bound.now.items c.identifier.new.bound.items c.in_ok-identifier-in-Vid.field-0 c.args.pat.now
    (node.Vid c.in-Vid.place c.in-Vid.long) _ c.in-Vid.is (source-Vid c.in-Vid.place c.in-Vid.long) c.in_ok-identifier-in-Vid.ensures

pub elab_pat-returns-then-right : goal.elab_pat-returns-then-right
elab_pat-returns-then-right t c =
    to_right c.args.state.now c.elab_pat-in-Chain.new.state c.right_of.new.state c.args.context.now c.args.bound.now.items c.elab_pat-in-Chain.new.bound.items c.right_of.new.bound.items
    c.in_ok-first-in-Chain.first c.right_of.result c.args.pat.now c.in-Chain.place c.in-Chain.right c.in-Chain.first c.in-Chain.parts c.deref-in-Chain.result.now c.deref-then-right.result.now c.in-Chain.is c.if-right.true
    c.deref-in-Chain.ensures c.deref-then-right.ensures.value c.in_ok-first-in-Chain.ensures c.right_of.ensures

pub elab_pat-returns-else-right : goal.elab_pat-returns-else-right
elab_pat-returns-else-right t c =
    to_left c.args.state.now c.elab_pat-in-Chain.new.state c.left_of.new.state c.args.context.now c.args.bound.now.items c.elab_pat-in-Chain.new.bound.items c.left_of.new.bound.items
    c.in_ok-first-in-Chain.first c.left_of.result c.args.pat.now c.in-Chain.place c.in-Chain.right c.in-Chain.first c.in-Chain.parts c.deref-in-Chain.result.now c.deref-else-right.result.now c.in-Chain.is c.if-right.false
    c.deref-in-Chain.ensures c.deref-else-right.ensures.value c.in_ok-first-in-Chain.ensures c.left_of.ensures

pub left_of-add_left-requires-clause-context : goal.left_of-add_left-requires-clause-context
left_of-add_left-requires-clause-context t c = context_later c.args.state.now c.elab_pat.new.state c.args.context.now (grows_on c.args.state.now c.loop-i.state c.elab_pat.new.state c.loop-i.invariant.grows c.in_ok-one.ensures.grows) c.requires.context

pub left_of-add_left-requires-clause-chain : goal.left_of-add_left-requires-clause-chain
left_of-add_left-requires-clause-chain t c = type_later c.loop-i.state c.elab_pat.new.state c.loop-i.made.ty c.in_ok-one.ensures.grows c.loop-i.invariant.is

pub left_of-loop-i-preserved : goal.left_of-loop-i-preserved
left_of-loop-i-preserved t c =
    left_goes c.args.state.now c.loop-i.state c.elab_pat.new.state c.add_left.new.state c.args.context.now c.args.bound.now.items c.loop-i.bound.items c.elab_pat.new.bound.items c.start_left-made.result c.loop-i.made c.add_left.new.chain
    c.args.parts.now c.loop-i.i c.index-parts-i.result c.index-parts-i-in-loop-i.result c.index-parts-i-in-loop-i-2.result _ _ c.in_ok-one.one c.loop-i-test.true c.loop-i.invariant c.in_ok-one.ensures c.in_ok-add_left.ensures.grows
    c.in_ok-add_left.ensures.ty c.in_ok-add_left.ensures.is (let h = c.index-parts-i.is in cc) (let h = c.index-parts-i-in-loop-i.is in cc)

pub left_of-returns : goal.left_of-returns
left_of-returns t c S place a before h =
    c.in_ok-finish_left.ensures S c.loop-i.state c.args.context.now place a (map pat_part_of c.args.parts.now) before c.loop-i.bound.items
    ((left_ends c.args.state.now c.loop-i.state c.args.context.now c.args.bound.now.items c.loop-i.bound.items c.start_left-made.result c.loop-i.made c.args.parts.now c.loop-i.i (omega arith) c.loop-i.invariant).left S place a before
    (c.start_left-made.ensures.is S c.args.state.now c.args.context.now place a before c.args.bound.now.items h))

pub list_of-loop-i-init : goal.list_of-loop-i-init
list_of-loop-i-init t c = none_are c.start_list.new.state c.args.context.now c.in_ok-listed.listed c.args.bound.now.items _ c.new-made.ensures.items

pub list_of-add_element-requires-clause-element : goal.list_of-add_element-requires-clause-element
list_of-add_element-requires-clause-element t c = type_later c.start_list.new.state c.elab_pat.new.state c.in_ok-listed.listed.element (grows_on c.start_list.new.state c.loop-i.state c.elab_pat.new.state c.loop-i.invariant.grows c.in_ok-one.ensures.grows) c.in_ok-listed.ensures.element

pub list_of-loop-i-preserved : goal.list_of-loop-i-preserved
list_of-loop-i-preserved t c =
    element_more c.start_list.new.state c.add_element.new.state c.args.context.now c.in_ok-listed.listed c.args.elements.now c.loop-i.i c.index-elements-i.result c.args.bound.now.items c.elab_pat.new.bound.items _ c.loop-i-test.true c.index-elements-i.is
    (c.in_ok-add_element.ensures c.start_list.new.state c.loop-i.state c.args.bound.now.items c.loop-i.bound.items c.elab_pat.new.bound.items (map pat_of (take c.loop-i.i c.args.elements.now))
    (pat_of c.index-elements-i.result) c.loop-i.invariant c.in_ok-one.ensures)

pub list_of-returns : goal.list_of-returns
list_of-returns t c = record {
  is = c.in_ok-finish_list.ensures c.args.state.now c.start_list.new.state c.loop-i.state c.args.context.now c.args.place c.args.bound.now.items c.loop-i.bound.items (map pat_of c.args.elements.now) c.in_ok-listed.ensures
      (elements_end c.start_list.new.state c.loop-i.state c.args.context.now c.in_ok-listed.listed c.args.elements.now c.loop-i.i c.args.bound.now.items c.loop-i.bound.items _ (omega arith) c.loop-i.invariant);
}

pub record_of-add_field-requires-clause-context : goal.record_of-add_field-requires-clause-context
record_of-add_field-requires-clause-context t c = context_later c.args.state.now c.elab_pat.new.state c.args.context.now (grows_on c.args.state.now c.loop-i.state c.elab_pat.new.state c.loop-i.invariant.grows c.in_ok-one.ensures.grows) c.requires

pub record_of-loop-i-preserved : goal.record_of-loop-i-preserved
record_of-loop-i-preserved t c =
    field_more c.args.state.now c.add_field.new.state c.args.context.now c.args.fields.now c.loop-i.i c.index-fields-i.result c.index-fields-i-in-loop-i.result c.args.bound.now.items c.elab_pat.new.bound.items
    c.add_field.new.fields c.loop-i-test.true
    (c.in_ok-add_field.ensures c.args.state.now c.loop-i.state c.args.bound.now.items c.loop-i.bound.items c.elab_pat.new.bound.items (map pat_field_of (take c.loop-i.i c.args.fields.now))
    (pat_of (get_or c.args.fields.now c.loop-i.i c.index-fields-i.result).pat) c.loop-i.invariant c.in_ok-one.ensures)

pub record_of-record_by-requires-clause-context : goal.record_of-record_by-requires-clause-context
record_of-record_by-requires-clause-context t c = context_later c.args.state.now c.loop-i.state c.args.context.now c.loop-i.invariant.grows c.requires

pub record_of-returns : goal.record_of-returns
record_of-returns t c = record {
  is = fields_end c.args.state.now c.loop-i.state c.record_by.new.state c.args.context.now c.args.place c.args.fields.now c.loop-i.i c.args.is_open c.args.bound.now.items c.loop-i.bound.items c.loop-i.made _ (omega arith)
      c.in_ok-record_by.ensures c.loop-i.invariant;
}

pub right_of-loop-i-init : goal.right_of-loop-i-init
right_of-loop-i-init t c =
    right_begins c.start_right.new.state c.args.context.now c.args.bound.now.items c.in_ok-made.made
    (subst (HasType c.start_right.new.state) (sym c.in_ok-made.ensures.last) (type_later c.args.state.now c.start_right.new.state c.args.first.ty c.in_ok-made.ensures.grows c.requires.first)) c.in_ok-made.ensures.hole

pub right_of-join_new-requires-clause-context : goal.right_of-join_new-requires-clause-context
right_of-join_new-requires-clause-context t c = context_later c.args.state.now c.loop-i.state c.args.context.now (grows_on c.args.state.now c.start_right.new.state c.loop-i.state c.in_ok-made.ensures.grows c.loop-i.invariant.grows) c.requires.context

pub right_of-loop-i-preserved : goal.right_of-loop-i-preserved
right_of-loop-i-preserved t c =
    right_goes c.start_right.new.state c.loop-i.state c.join_new.new.state c.elab_pat.new.state c.args.context.now c.args.bound.now.items c.loop-i.bound.items c.elab_pat.new.bound.items c.in_ok-made.made c.loop-i.made c.add_right.new.chain
    c.args.parts.now c.loop-i.i c.index-parts-i.result c.index-parts-i-in-loop-i.result c.index-parts-i-in-loop-i-2.result _ _ c.in_ok-one.one c.in_ok-joined.joined c.in_ok-joined.hole c.loop-i-test.true c.loop-i.invariant
    c.in_ok-joined.ensures c.in_ok-one.ensures c.add_right.ensures.last c.add_right.ensures.hole c.in_ok-add_right.ensures.is (let h = c.index-parts-i.is in cc) (let h = c.index-parts-i-in-loop-i.is in cc)

pub right_of-returns : goal.right_of-returns
right_of-returns t c S place a before h =
    c.in_ok-finish_right.ensures S place a (map pat_part_of c.args.parts.now) before c.loop-i.bound.items
    ((right_ends c.start_right.new.state c.loop-i.state c.args.context.now c.args.bound.now.items c.loop-i.bound.items c.in_ok-made.made c.loop-i.made c.args.parts.now c.loop-i.i (omega arith) c.loop-i.invariant).right S a before
    (c.in_ok-made.ensures.is S a before c.args.bound.now.items h))

pub tuple_of-add_field-requires-clause-context : goal.tuple_of-add_field-requires-clause-context
tuple_of-add_field-requires-clause-context t c = context_later c.args.state.now c.elab_pat.new.state c.args.context.now (grows_on c.args.state.now c.loop-i.state c.elab_pat.new.state c.loop-i.invariant.grows c.in_ok-one.ensures.grows) c.requires

pub tuple_of-loop-i-preserved : goal.tuple_of-loop-i-preserved
tuple_of-loop-i-preserved t c =
    part_more c.args.state.now c.add_field.new.state c.args.context.now c.args.parts.now c.loop-i.i c.index-parts-i.result c.in_ok-label.label c.args.bound.now.items c.elab_pat.new.bound.items c.add_field.new.fields c.loop-i-test.true
    c.index-parts-i.is c.in_ok-label.ensures
    (c.in_ok-add_field.ensures c.args.state.now c.loop-i.state c.args.bound.now.items c.loop-i.bound.items c.elab_pat.new.bound.items (numbered 1 (map pat_of (take c.loop-i.i c.args.parts.now)))
    (pat_of c.index-parts-i.result) c.loop-i.invariant c.in_ok-one.ensures)

pub tuple_of-record-requires-clause-context : goal.tuple_of-record-requires-clause-context
tuple_of-record-requires-clause-context t c = context_later c.args.state.now c.loop-i.state c.args.context.now c.loop-i.invariant.grows c.requires

pub tuple_of-returns : goal.tuple_of-returns
tuple_of-returns t c = record {
  is = parts_end c.args.state.now c.loop-i.state c.record.new.state c.args.context.now c.args.place c.args.parts.now c.loop-i.i c.args.bound.now.items c.loop-i.bound.items c.loop-i.made _ (omega arith)
      c.in_ok-record.ensures c.loop-i.invariant;
}
