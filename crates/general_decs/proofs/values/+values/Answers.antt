use Rattle.std.proofs.Common.{◌&&◌, ◌+◌, drop, refl, sym, ap, ◌∙◌}
use Rattle.sml_tree.specs.TreeOf.{exp_of}
use Rattle.core_rules.specs.Typing.{is_non_expansive}
use Rattle.prog_known.specs.Lists.{all_hold}
use Rattle.prog_known.proofs.ListLemmas.{drop-next-is, all-next, all-ends}
use Rattle.elab_typed.specs.Contexts.{generic}
use Rattle.rec_groups.proofs.of_exp_forms.Nodes.{source-Apply, source-Chain, source-List, source-Record, source-Sequence, source-Tuple}
use Rattle.general_decs.specs.Values.{applied_is, exp_is, field_is, is_nil, part_is}
use Rattle.general_decs.proofs.Valued.{applied-are, chain-are, elements-are, fields-are, numbered-are, one-applied, sequence-is, two}
use Rattle.general_decs.proofs.values.+values.Goals as goal

pub are_all-loop-i-init : goal.are_all-loop-i-init
are_all-loop-i-init t c W k A u = refl

pub are_fields-loop-i-init : goal.are_fields-loop-i-init
are_fields-loop-i-init t c W k A u = refl

pub are_parts-loop-i-init : goal.are_parts-loop-i-init
are_parts-loop-i-init t c W k A u = refl

pub are_all-loop-i-preserved : goal.are_all-loop-i-preserved
are_all-loop-i-preserved t c W k A u =
    let E = (generic A).env in
    ap (λ b. b && all_hold (exp_is E) (drop (c.loop-i.i + 1) c.args.exps.now)) c.both-so_far.ensures
    ∙ all-next (exp_is E) c.args.exps.now c.loop-i.i c.index-exps-i.result c.loop-i.so_far c.is_non_expansive-one.result _
    (drop-next-is c.args.exps.now c.loop-i.i c.index-exps-i.result c.loop-i-test.true c.index-exps-i.is) (c.is_non_expansive-one.ensures W k A u) (c.loop-i.invariant W k A u)

pub are_fields-loop-i-preserved : goal.are_fields-loop-i-preserved
are_fields-loop-i-preserved t c W k A u =
    let E = (generic A).env in
    ap (λ b. b && all_hold (field_is E) (drop (c.loop-i.i + 1) c.args.fields.now)) c.both-so_far.ensures
    ∙ all-next (field_is E) c.args.fields.now c.loop-i.i c.index-fields-i.result c.loop-i.so_far c.is_non_expansive-one.result _
    (drop-next-is c.args.fields.now c.loop-i.i c.index-fields-i.result c.loop-i-test.true c.index-fields-i.is) (c.is_non_expansive-one.ensures W k A u) (c.loop-i.invariant W k A u)

pub are_parts-loop-i-preserved : goal.are_parts-loop-i-preserved
are_parts-loop-i-preserved t c W k A u =
    let E = (generic A).env in
    ap (λ b. b && all_hold (part_is E) (drop (c.loop-i.i + 1) c.args.parts.now)) c.both-so_far.ensures
    ∙ all-next (part_is E) c.args.parts.now c.loop-i.i c.index-parts-i.result c.loop-i.so_far c.both.result _
    (drop-next-is c.args.parts.now c.loop-i.i c.index-parts-i.result c.loop-i-test.true c.index-parts-i.is)
    (two c.both.ensures (c.joins-joined.ensures W k A u) (c.is_non_expansive-one.ensures W k A u)) (c.loop-i.invariant W k A u)

pub are_all-returns : goal.are_all-returns
are_all-returns t c W k A u = all-ends (exp_is (generic A).env) c.args.exps.now c.loop-i.i c.loop-i.so_far _ c.loop-i-test.false (c.loop-i.invariant W k A u)

pub are_fields-returns : goal.are_fields-returns
are_fields-returns t c W k A u = all-ends (field_is (generic A).env) c.args.fields.now c.loop-i.i c.loop-i.so_far _ c.loop-i-test.false (c.loop-i.invariant W k A u)

pub are_parts-returns : goal.are_parts-returns
are_parts-returns t c W k A u = all-ends (part_is (generic A).env) c.args.parts.now c.loop-i.i c.loop-i.so_far _ c.loop-i-test.false (c.loop-i.invariant W k A u)

pub is_applied-returns : goal.is_applied-returns
is_applied-returns t c W k A u =
    let E = (generic A).env in
    two c.both.ensures refl (c.is_non_expansive.ensures W k A u)
    ∙ one-applied E c.args.alone c.args.made c.args.arguments.now c.index-arguments-0.result c.if-arguments-gt1.false (sym c.if-is_empty.false ∙ c.is_empty.ensures) c.index-arguments-0.is

pub is_non_expansive-returns-in-Record : goal.is_non_expansive-returns-in-Record
is_non_expansive-returns-in-Record t c W k A u =
    let E = (generic A).env in
    c.are_fields.ensures W k A u ∙ ap (all_hold (field_is E)) c.deref.ensures.value ∙ fields-are E c.in-Record.fields.items
    ∙ ap (is_non_expansive E) (sym (source-Record c.in-Record.field-0 c.in-Record.fields)) ∙ ap (exp_is E) (sym c.in-Record.is)

pub is_non_expansive-returns-in-Tuple : goal.is_non_expansive-returns-in-Tuple
is_non_expansive-returns-in-Tuple t c W k A u =
    let E = (generic A).env in
    c.are_all.ensures W k A u ∙ ap (all_hold (exp_is E)) c.deref-in-Tuple.ensures.value ∙ numbered-are E 1 c.in-Tuple.parts.items
    ∙ ap (is_non_expansive E) (sym (source-Tuple c.in-Tuple.field-0 c.in-Tuple.parts)) ∙ ap (exp_is E) (sym c.in-Tuple.is)

pub is_non_expansive-returns-in-List : goal.is_non_expansive-returns-in-List
is_non_expansive-returns-in-List t c W k A u =
    let E = (generic A).env in
    c.are_all-in-List.ensures W k A u ∙ ap (all_hold (exp_is E)) c.deref-in-List.ensures.value ∙ elements-are E c.in-List.field-0 c.in-List.elements.items
    ∙ ap (is_non_expansive E) (sym (source-List c.in-List.field-0 c.in-List.elements)) ∙ ap (exp_is E) (sym c.in-List.is)

pub is_non_expansive-returns-in-Sequence : goal.is_non_expansive-returns-in-Sequence
is_non_expansive-returns-in-Sequence t c W k A u =
    let E = (generic A).env in
    two c.both.ensures (c.is_nothing.ensures ∙ ap is_nil c.deref-in-Sequence.ensures.value) (c.is_non_expansive.ensures W k A u ∙ ap (exp_is E) c.deref-in-Sequence-2.ensures)
    ∙ sequence-is E c.in-Sequence.field-0 (exp_of c.in-Sequence.first.value) c.in-Sequence.rest.items
    ∙ ap (is_non_expansive E) (sym (source-Sequence c.in-Sequence.field-0 c.in-Sequence.first c.in-Sequence.rest)) ∙ ap (exp_is E) (sym c.in-Sequence.is)

pub is_non_expansive-returns-in-Apply : goal.is_non_expansive-returns-in-Apply
is_non_expansive-returns-in-Apply t c W k A u =
    let E = (generic A).env in
    c.is_applied.ensures W k A u ∙ ap (applied_is E c.is_non_expansive-in-Apply.result c.constructs.result) c.deref-in-Apply.ensures.value
    ∙ ap (λ b. applied_is E b c.constructs.result c.in-Apply.arguments.items) (c.is_non_expansive-in-Apply.ensures W k A u ∙ ap (exp_is E) c.deref-in-Apply-2.ensures)
    ∙ ap (λ b. applied_is E (exp_is E c.in-Apply.function.value) b c.in-Apply.arguments.items)
    (c.constructs.ensures W k A u ∙ ap (λ e. Rattle.core_rules.specs.Typing.is_conexp E (exp_of e)) c.deref-in-Apply-3.ensures)
    ∙ applied-are E c.in-Apply.field-0 (exp_of c.in-Apply.function.value) c.in-Apply.arguments.items
    ∙ ap (is_non_expansive E) (sym (source-Apply c.in-Apply.field-0 c.in-Apply.function c.in-Apply.arguments)) ∙ ap (exp_is E) (sym c.in-Apply.is)

pub is_non_expansive-returns-in-Chain : goal.is_non_expansive-returns-in-Chain
is_non_expansive-returns-in-Chain t c W k A u =
    let E = (generic A).env in
    two c.both-in-Chain.ensures (c.is_non_expansive-in-Chain.ensures W k A u ∙ ap (exp_is E) c.deref-in-Chain.ensures)
    (c.are_parts.ensures W k A u ∙ ap (all_hold (part_is E)) c.deref-in-Chain-2.ensures.value)
    ∙ chain-are E c.in-Chain.field-1 c.in-Chain.field-0 (exp_of c.in-Chain.first.value) c.in-Chain.parts.items
    ∙ ap (is_non_expansive E) (sym (source-Chain c.in-Chain.field-0 c.in-Chain.field-1 c.in-Chain.first c.in-Chain.parts)) ∙ ap (exp_is E) (sym c.in-Chain.is)
