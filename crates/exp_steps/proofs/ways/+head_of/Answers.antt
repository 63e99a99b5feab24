use Rattle.std.proofs.Common.{sym, ap, ◌∙◌}
use Rattle.match_compile.specs.Compile.{way}
use Rattle.prog_tree.specs.TreeOf.{tree_of}
use Rattle.exp_steps.proofs.Heads.{apply-many, infix-many, sequence-many}
use Rattle.exp_steps.proofs.ways.+head_of.Goals as goal

pub returns-else-is_empty : goal.returns-else-is_empty
returns-else-is_empty t c = λ R a.
    ap (λ e. way (tree_of R e) a) c.in-Apply.is ∙ (apply-many R c.in-Apply.field-0 c.in-Apply.inner c.in-Apply.rest (sym c.is_empty.ensures ∙ c.if-is_empty.false)).heads a

pub returns-else-is_empty-2 : goal.returns-else-is_empty-2
returns-else-is_empty-2 t c = λ R a.
    ap (λ e. way (tree_of R e) a) c.in-Infix.is ∙ (infix-many R c.in-Infix.field-0 c.in-Infix.inner c.in-Infix.rest (sym c.is_empty-in-Infix.ensures ∙ c.if-is_empty-2.false)).heads a

pub returns-else-is_empty-3 : goal.returns-else-is_empty-3
returns-else-is_empty-3 t c = λ R a.
    ap (λ e. way (tree_of R e) a) c.in-Sequence.is
    ∙ (sequence-many R c.in-Sequence.field-0 c.in-Sequence.field-1 c.in-Sequence.dropped c.in-Sequence.inner (sym c.is_empty-in-Sequence.ensures ∙ c.if-is_empty-3.false)).heads a
