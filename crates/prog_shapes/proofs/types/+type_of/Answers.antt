use Rattle.std.proofs.Common.{ap, sym, ◌∙◌}
use Rattle.ir_poly.specs.Prog.{type_of}
use Rattle.prog_tree.specs.TreeOf.{tree_of}
use Rattle.prog_shapes.specs.Shapes.{last_type, joined_type, given_type}
use Rattle.prog_shapes.proofs.Nested.{apply-type, infix-type, sequence-type}
use Rattle.prog_shapes.proofs.types.+type_of.Goals as goal

pub returns-in-Apply : goal.returns-in-Apply
returns-in-Apply t c = λ R. ap R.type (c.applied_type.ensures ∙ ap (last_type c.type_of.result) c.deref-in-Apply.ensures.value)
    ∙ apply-type R c.in-Apply.field-0 c.in-Apply.function c.in-Apply.arguments c.type_of.result (c.type_of.ensures R ∙ ap (λ e. type_of (tree_of R e)) c.deref.ensures)
    ∙ ap (λ e. type_of (tree_of R e)) (sym c.in-Apply.is)

pub returns-in-Infix : goal.returns-in-Infix
returns-in-Infix t c = λ R. ap R.type (c.chain_type.ensures ∙ ap (joined_type c.in-Infix.side c.type_of-in-Infix.result) c.deref-in-Infix-2.ensures.value)
    ∙ infix-type R c.in-Infix.side c.in-Infix.first c.in-Infix.joins c.type_of-in-Infix.result (c.type_of-in-Infix.ensures R ∙ ap (λ e. type_of (tree_of R e)) c.deref-in-Infix.ensures)
    ∙ ap (λ e. type_of (tree_of R e)) (sym c.in-Infix.is)

pub returns-in-Sequence : goal.returns-in-Sequence
returns-in-Sequence t c = λ R. ap R.type (c.sequence_type.ensures ∙ ap (λ es. given_type es c.type_of-in-Sequence.result c.in-Sequence.ty) c.deref-in-Sequence.ensures.value)
    ∙ sequence-type R c.in-Sequence.field-0 c.in-Sequence.ty c.in-Sequence.before c.in-Sequence.last c.type_of-in-Sequence.result (c.type_of-in-Sequence.ensures R ∙ ap (λ e. type_of (tree_of R e)) c.deref-in-Sequence-2.ensures)
    ∙ ap (λ e. type_of (tree_of R e)) (sym c.in-Sequence.is)
