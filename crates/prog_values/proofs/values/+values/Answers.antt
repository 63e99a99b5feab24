use Rattle.std.proofs.Common.{◌&&◌, ◌+◌, drop, refl, sym, ap, ◌∙◌, arith}
use Rattle.ir_poly.specs.Prog.{is_value, is_construction}
use Rattle.prog_known.specs.Lists.{all_hold}
use Rattle.prog_known.proofs.ListLemmas.{drop-next-is, all-next, all-ends}
use Rattle.prog_tree.specs.TreeOf.{tree_of}
use Rattle.prog_values.specs.Parts.{field_is_value, join_is_value, are_values, is_nil}
use Rattle.prog_values.proofs.Valued.{two, record-values, apply-values, infix-values, value-sequence, counted-value, one-applied}
use Rattle.prog_values.proofs.values.+values.Goals as goal

pub fields_are_values-loop-i-init : goal.fields_are_values-loop-i-init
fields_are_values-loop-i-init t c = λ R. refl

pub joins_are_values-loop-i-init : goal.joins_are_values-loop-i-init
joins_are_values-loop-i-init t c = λ R. refl

pub fields_are_values-loop-i-preserved : goal.fields_are_values-loop-i-preserved
fields_are_values-loop-i-preserved t c = λ R. ap (λ b. b && all_hold (field_is_value R) (drop (c.loop-i.i + 1) c.args.fields.now)) c.both-so_far.ensures
    ∙ all-next (field_is_value R) c.args.fields.now c.loop-i.i c.index-fields-i.result c.loop-i.so_far c.is_value-one.result _
    (drop-next-is c.args.fields.now c.loop-i.i c.index-fields-i.result c.loop-i-test.true c.index-fields-i.is) (c.is_value-one.ensures R) (c.loop-i.invariant R)

pub joins_are_values-loop-i-preserved : goal.joins_are_values-loop-i-preserved
joins_are_values-loop-i-preserved t c = λ R. ap (λ b. b && all_hold (join_is_value R) (drop (c.loop-i.i + 1) c.args.joins.now)) c.both-so_far.ensures
    ∙ all-next (join_is_value R) c.args.joins.now c.loop-i.i c.index-joins-i.result c.loop-i.so_far c.both.result _
    (drop-next-is c.args.joins.now c.loop-i.i c.index-joins-i.result c.loop-i-test.true c.index-joins-i.is)
    (two c.both.ensures (c.is_construction-made.ensures R) (c.is_value-value.ensures R)) (c.loop-i.invariant R)

pub fields_are_values-returns : goal.fields_are_values-returns
fields_are_values-returns t c = λ R. all-ends (field_is_value R) c.args.fields.now c.loop-i.i c.loop-i.so_far _ c.loop-i-test.false (c.loop-i.invariant R)

pub joins_are_values-returns : goal.joins_are_values-returns
joins_are_values-returns t c = λ R. all-ends (join_is_value R) c.args.joins.now c.loop-i.i c.loop-i.so_far _ c.loop-i-test.false (c.loop-i.invariant R)

pub is_applied-returns : goal.is_applied-returns
is_applied-returns t c = λ R. two c.both.ensures refl (c.is_value.ensures R) ∙ ap (λ a. c.args.makes && is_value (tree_of R a.1)) c.index-arguments-0.is
    ∙ one-applied R c.args.alone c.args.makes c.args.arguments.now c.index-arguments-0.result c.if-arguments-gt1.false (sym c.if-is_empty.false ∙ c.is_empty.ensures)

pub is_value-returns-in-Record : goal.is_value-returns-in-Record
is_value-returns-in-Record t c = λ R. c.fields_are_values.ensures R ∙ ap (all_hold (field_is_value R)) c.deref.ensures.value ∙ record-values R c.in-Record.field-0 c.in-Record.fields
    ∙ ap (λ e. is_value (tree_of R e)) (sym c.in-Record.is)

pub is_value-returns-in-Apply : goal.is_value-returns-in-Apply
is_value-returns-in-Apply t c = λ R. c.is_applied.ensures R ∙ ap (are_values R c.is_value.result c.is_construction.result) c.deref-in-Apply.ensures.value
    ∙ ap (λ b. are_values R b c.is_construction.result c.in-Apply.arguments.items) (c.is_value.ensures R ∙ ap (λ e. is_value (tree_of R e)) c.deref-in-Apply-2.ensures)
    ∙ ap (λ b. are_values R (is_value (tree_of R c.in-Apply.function.value)) b c.in-Apply.arguments.items) (c.is_construction.ensures R ∙ ap (λ e. is_construction (tree_of R e)) c.deref-in-Apply-3.ensures)
    ∙ apply-values R c.in-Apply.field-0 c.in-Apply.function c.in-Apply.arguments ∙ ap (λ e. is_value (tree_of R e)) (sym c.in-Apply.is)

pub is_value-returns-in-Infix : goal.is_value-returns-in-Infix
is_value-returns-in-Infix t c = λ R. two c.both.ensures (c.is_value-in-Infix.ensures R ∙ ap (λ e. is_value (tree_of R e)) c.deref-in-Infix.ensures)
    (c.joins_are_values.ensures R ∙ ap (all_hold (join_is_value R)) c.deref-in-Infix-2.ensures.value)
    ∙ infix-values R c.in-Infix.field-0 c.in-Infix.first c.in-Infix.joins ∙ ap (λ e. is_value (tree_of R e)) (sym c.in-Infix.is)

pub is_value-returns-in-Sequence : goal.is_value-returns-in-Sequence
is_value-returns-in-Sequence t c = λ R. two c.both-in-Sequence.ensures (c.is_nothing.ensures ∙ ap is_nil c.deref-in-Sequence.ensures.value)
    (c.is_value-in-Sequence.ensures R ∙ ap (λ e. is_value (tree_of R e)) c.deref-in-Sequence-2.ensures)
    ∙ value-sequence R c.in-Sequence.field-0 c.in-Sequence.field-1 c.in-Sequence.before c.in-Sequence.last ∙ ap (λ e. is_value (tree_of R e)) (sym c.in-Sequence.is)

pub is_value-returns-in-Counted : goal.is_value-returns-in-Counted
is_value-returns-in-Counted t c = λ R. c.is_value-in-Counted.ensures R ∙ ap (λ e. is_value (tree_of R e)) c.deref-in-Counted.ensures
    ∙ counted-value R c.in-Counted.field-0 c.in-Counted.field-1 c.in-Counted.body ∙ ap (λ e. is_value (tree_of R e)) (sym c.in-Counted.is)
