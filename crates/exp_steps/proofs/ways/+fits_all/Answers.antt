use Rattle.std.proofs.Common.{sym, ap, ◌∙◌}
use Rattle.match_compile.specs.Compile.{fits_all}
use Rattle.prog_tree.specs.TreeOf.{pat_of}
use Rattle.exp_steps.proofs.Heads.{as-node, chain-many, chain-alone}
use Rattle.exp_steps.proofs.ways.+fits_all.Goals as goal

pub returns-in-As : goal.returns-in-As
returns-in-As t c = λ R.
    c.fits_all.ensures R ∙ ap (λ p. fits_all (pat_of R p)) c.deref.ensures ∙ sym (ap (λ p. fits_all (pat_of R p)) c.in-As.is ∙ ap fits_all (as-node R c.in-As.field-0 c.in-As.inner))

pub returns-then-is_empty : goal.returns-then-is_empty
returns-then-is_empty t c = λ R.
    c.fits_all-then-is_empty.ensures R ∙ ap (λ p. fits_all (pat_of R p)) c.deref-then-is_empty.ensures
    ∙ sym (ap (λ p. fits_all (pat_of R p)) c.in-Chain.is ∙ ap fits_all (chain-alone R c.in-Chain.field-0 c.in-Chain.first c.in-Chain.parts (sym c.is_empty.ensures ∙ c.if-is_empty.true)))

pub returns-else-is_empty : goal.returns-else-is_empty
returns-else-is_empty t c = λ R. sym (ap (λ p. fits_all (pat_of R p)) c.in-Chain.is ∙ chain-many R c.in-Chain.field-0 c.in-Chain.first c.in-Chain.parts (sym c.is_empty.ensures ∙ c.if-is_empty.false))
