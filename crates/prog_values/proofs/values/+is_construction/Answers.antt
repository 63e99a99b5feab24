use Rattle.std.proofs.Common.{sym, ap, ◌∙◌}
use Rattle.ir_poly.specs.Prog.{is_construction}
use Rattle.prog_tree.specs.TreeOf.{tree_of}
use Rattle.prog_values.specs.Parts.{is_nil}
use Rattle.prog_values.proofs.Valued.{two, made-apply, made-infix, made-sequence, counted-made}
use Rattle.prog_values.proofs.values.+is_construction.Goals as goal

pub returns-in-Apply : goal.returns-in-Apply
returns-in-Apply t c = λ R. two c.both.ensures (c.is_nothing.ensures ∙ ap is_nil c.deref.ensures.value) (c.is_construction.ensures R ∙ ap (λ e. is_construction (tree_of R e)) c.deref-in-Apply.ensures)
    ∙ made-apply R c.in-Apply.field-0 c.in-Apply.function c.in-Apply.arguments ∙ ap (λ e. is_construction (tree_of R e)) (sym c.in-Apply.is)

pub returns-in-Infix : goal.returns-in-Infix
returns-in-Infix t c = λ R. two c.both-in-Infix.ensures (c.is_nothing-in-Infix.ensures ∙ ap is_nil c.deref-in-Infix.ensures.value)
    (c.is_construction-in-Infix.ensures R ∙ ap (λ e. is_construction (tree_of R e)) c.deref-in-Infix-2.ensures)
    ∙ made-infix R c.in-Infix.field-0 c.in-Infix.first c.in-Infix.joins ∙ ap (λ e. is_construction (tree_of R e)) (sym c.in-Infix.is)

pub returns-in-Sequence : goal.returns-in-Sequence
returns-in-Sequence t c = λ R. two c.both-in-Sequence.ensures (c.is_nothing-in-Sequence.ensures ∙ ap is_nil c.deref-in-Sequence.ensures.value)
    (c.is_construction-in-Sequence.ensures R ∙ ap (λ e. is_construction (tree_of R e)) c.deref-in-Sequence-2.ensures)
    ∙ made-sequence R c.in-Sequence.field-0 c.in-Sequence.field-1 c.in-Sequence.before c.in-Sequence.last ∙ ap (λ e. is_construction (tree_of R e)) (sym c.in-Sequence.is)

pub returns-in-Counted : goal.returns-in-Counted
returns-in-Counted t c = λ R. c.is_construction-in-Counted.ensures R ∙ ap (λ e. is_construction (tree_of R e)) c.deref-in-Counted.ensures
    ∙ counted-made R c.in-Counted.field-0 c.in-Counted.field-1 c.in-Counted.body ∙ ap (λ e. is_construction (tree_of R e)) (sym c.in-Counted.is)
