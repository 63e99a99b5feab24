use Rattle.std.proofs.Common.{sym, ap, ◌∙◌}
use Rattle.ir_poly.specs.Prog.{as_pat}
use Rattle.match_compile.specs.Compile.{fits_all}
use Rattle.prog_tree.specs.TreeOf.{pat_of}
use Rattle.exp_steps.proofs.Heads.{as-node, chain-many, chain-alone}
use Rattle.exp_blocks.proofs.Binding.{fits-as, fits-same, fits-none}
use Rattle.exp_blocks.proofs.scopes.+bind_all.Goals as goal

pub returns-in_ok-bind_all-in-As : goal.returns-in_ok-bind_all-in-As
returns-in_ok-bind_all-in-As t c =
    fits-as c.args.names.now c.bind-in-As.new.self c.bind_all.new.names c.args.pat.now c.deref.result.now c.in-As.x c.args.value
    (λ R. ap (pat_of R) c.in-As.is ∙ as-node R c.in-As.x c.in-As.inner ∙ ap (λ p. as_pat c.in-As.x (pat_of R p)) (sym c.deref.ensures)) c.in_ok-bind-in-As.ensures c.in_ok-bind_all-in-As.ensures

pub returns-in_ok-bind_all-in-Chain : goal.returns-in_ok-bind_all-in-Chain
returns-in_ok-bind_all-in-Chain t c =
    fits-same c.args.names.now c.bind_all-then-is_empty.new.names c.args.pat.now c.deref-then-is_empty.result.now c.args.value
    (λ R. ap (pat_of R) c.in-Chain.is ∙ chain-alone R c.in-Chain.field-0 c.in-Chain.first c.in-Chain.parts (sym c.is_empty.ensures ∙ c.if-is_empty.true) ∙ ap (pat_of R) (sym c.deref-then-is_empty.ensures)) c.in_ok-bind_all-in-Chain.ensures

pub returns-else-is_empty : goal.returns-else-is_empty
returns-else-is_empty t c =
    fits-none c.args.names.now c.args.pat.now c.args.value
    (λ R. ap (λ p. fits_all (pat_of R p)) c.in-Chain.is ∙ chain-many R c.in-Chain.field-0 c.in-Chain.first c.in-Chain.parts (sym c.is_empty.ensures ∙ c.if-is_empty.false))
