use Rattle.std.proofs.Common.{sym, ap, ◌∙◌}
use Rattle.match_compile.specs.Compile.{general_shape}
use Rattle.prog_tree.specs.TreeOf.{pat_of}
use Rattle.exp_blocks.proofs.of_exp_steps.Heads.{chain-alone}
use Rattle.general_bindings.proofs.Rows.{chain-recorded}
use Rattle.general_bindings.proofs.bindings.+sole_variable.Goals as goal

pub returns-then-is_empty : goal.returns-then-is_empty
returns-then-is_empty t c = λ R.
    ap (λ p. general_shape (pat_of R p)) c.in-Chain.is ∙ ap general_shape (chain-alone R c.in-Chain.field-0 c.in-Chain.first c.in-Chain.parts (sym c.is_empty.ensures ∙ c.if-is_empty.true))
    ∙ ap (λ p. general_shape (pat_of R p)) (sym c.deref.ensures) ∙ c.sole_variable.ensures R

pub returns-else-is_empty : goal.returns-else-is_empty
returns-else-is_empty t c = λ R.
    ap (λ p. general_shape (pat_of R p)) c.in-Chain.is ∙ chain-recorded R c.in-Chain.field-0 c.in-Chain.first c.in-Chain.parts (sym c.is_empty.ensures ∙ c.if-is_empty.false)
