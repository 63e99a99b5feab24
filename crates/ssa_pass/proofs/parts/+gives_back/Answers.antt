use Rattle.std.proofs.Common.{◌≡◌, length, sym, ap, ◌∙◌, arith}
use Rattle.std.proofs.lemmas.Bool.{eqb-false}
use Rattle.ssa_pass.proofs.Arms.{not-empty}
use Rattle.ssa_pass.proofs.parts.+gives_back.Goals as goal

pub returns-else-is_empty : goal.returns-else-is_empty
returns-else-is_empty t c =
    not-empty c.args.variable c.args.rest.now c.in-Steps.steps c.in-Steps.rest c.in-Steps.is
    (λ e. let n : c.in-Steps.steps.len ≡ 0 = omega (arith, ap length e, c.in-Steps.steps.ok.0) in eqb-false _ _ (sym c.is_empty.ensures ∙ c.if-is_empty.false) n)
