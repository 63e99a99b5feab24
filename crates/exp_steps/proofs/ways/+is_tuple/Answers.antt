use Rattle.std.proofs.Common.{sym, ap, ◌∙◌, arith}
use Rattle.match_compile.specs.Compile.{is_tuple}
use Rattle.prog_tree.specs.TreeOf.{tree_of}
use Rattle.exp_steps.specs.Ways.{labels_from}
use Rattle.exp_steps.proofs.Heads.{apply-many, apply-alone, infix-many, infix-alone, sequence-many, sequence-alone, counted-node, record-miscounted, record-numbered}
use Rattle.exp_steps.proofs.ways.+is_tuple.Goals as goal

pub returns-then-len-count : goal.returns-then-len-count
returns-then-len-count t c = λ R.
    sym (ap (λ e. is_tuple c.args.count (tree_of R e)) c.in-Record.is ∙ record-miscounted R c.args.count c.in-Record.field-0 c.in-Record.fields (λ e. c.if-len-count.true (omega (arith, c.len.ensures, c.in-Record.fields.ok.0, e))))

pub returns-else-len-count : goal.returns-else-len-count
returns-else-len-count t c = λ R.
    c.are_numbered.ensures ∙ ap (labels_from 1) c.deref.ensures.value
    ∙ sym (ap (λ e. is_tuple c.args.count (tree_of R e)) c.in-Record.is ∙ record-numbered R c.args.count c.in-Record.field-0 c.in-Record.fields (omega (arith, c.in-Record.fields.ok.0, c.if-len-count.false)))

pub returns-in-Counted : goal.returns-in-Counted
returns-in-Counted t c = λ R.
    c.is_tuple.ensures R ∙ ap (λ e. is_tuple c.args.count (tree_of R e)) c.deref-in-Counted.ensures
    ∙ sym (ap (λ e. is_tuple c.args.count (tree_of R e)) c.in-Counted.is ∙ ap (is_tuple c.args.count) (counted-node R c.in-Counted.field-0 c.in-Counted.field-1 c.in-Counted.inner))

pub returns-then-is_empty : goal.returns-then-is_empty
returns-then-is_empty t c = λ R.
    c.is_tuple-then-is_empty.ensures R ∙ ap (λ e. is_tuple c.args.count (tree_of R e)) c.deref-then-is_empty.ensures
    ∙ sym (ap (λ e. is_tuple c.args.count (tree_of R e)) c.in-Apply.is ∙ ap (is_tuple c.args.count) (apply-alone R c.in-Apply.field-0 c.in-Apply.inner c.in-Apply.rest (sym c.is_empty.ensures ∙ c.if-is_empty.true)))

pub returns-else-is_empty : goal.returns-else-is_empty
returns-else-is_empty t c = λ R.
    sym (ap (λ e. is_tuple c.args.count (tree_of R e)) c.in-Apply.is ∙ (apply-many R c.in-Apply.field-0 c.in-Apply.inner c.in-Apply.rest (sym c.is_empty.ensures ∙ c.if-is_empty.false)).alone.tuple c.args.count)

pub returns-then-is_empty-2 : goal.returns-then-is_empty-2
returns-then-is_empty-2 t c = λ R.
    c.is_tuple-then-is_empty-2.ensures R ∙ ap (λ e. is_tuple c.args.count (tree_of R e)) c.deref-then-is_empty-2.ensures
    ∙ sym (ap (λ e. is_tuple c.args.count (tree_of R e)) c.in-Infix.is ∙ ap (is_tuple c.args.count) (infix-alone R c.in-Infix.field-0 c.in-Infix.inner c.in-Infix.rest (sym c.is_empty-in-Infix.ensures ∙ c.if-is_empty-2.true)))

pub returns-else-is_empty-2 : goal.returns-else-is_empty-2
returns-else-is_empty-2 t c = λ R.
    sym (ap (λ e. is_tuple c.args.count (tree_of R e)) c.in-Infix.is ∙ (infix-many R c.in-Infix.field-0 c.in-Infix.inner c.in-Infix.rest (sym c.is_empty-in-Infix.ensures ∙ c.if-is_empty-2.false)).alone.tuple c.args.count)

pub returns-then-is_empty-3 : goal.returns-then-is_empty-3
returns-then-is_empty-3 t c = λ R.
    c.is_tuple-then-is_empty-3.ensures R ∙ ap (λ e. is_tuple c.args.count (tree_of R e)) c.deref-then-is_empty-3.ensures
    ∙ sym (ap (λ e. is_tuple c.args.count (tree_of R e)) c.in-Sequence.is
    ∙ ap (is_tuple c.args.count) (sequence-alone R c.in-Sequence.field-0 c.in-Sequence.field-1 c.in-Sequence.dropped c.in-Sequence.inner (sym c.is_empty-in-Sequence.ensures ∙ c.if-is_empty-3.true)))

pub returns-else-is_empty-3 : goal.returns-else-is_empty-3
returns-else-is_empty-3 t c = λ R.
    sym (ap (λ e. is_tuple c.args.count (tree_of R e)) c.in-Sequence.is
    ∙ (sequence-many R c.in-Sequence.field-0 c.in-Sequence.field-1 c.in-Sequence.dropped c.in-Sequence.inner (sym c.is_empty-in-Sequence.ensures ∙ c.if-is_empty-3.false)).alone.tuple c.args.count)
