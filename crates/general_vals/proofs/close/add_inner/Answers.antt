use Rattle.std.proofs.Common.{◌∙◌, arith}
use Rattle.elab_steps.proofs.Changing.{if-ok}
use Rattle.general_vals.proofs.Ending.{inner-added, inner-skipped}
use Rattle.general_vals.proofs.close.add_inner.Goals as goal
use Rattle.general_vals.proofs.close.add_inner.Goals.{else-level-reach-via-then-level-reach+else-reach-lt18446744073709551615, else-level-reach-via-else-level-reach}

pub returns-then-reach-lt18446744073709551615 : goal.returns-then-reach-lt18446744073709551615
returns-then-reach-lt18446744073709551615 c =
    if-ok c.add_open.result (λ may h.
    inner-added c.args.state.now c.args.level c.args.variable c.index.result.now _ c.args.parameters.now.items c.requires c.index.ensures
    c.index-then-reach-lt18446744073709551615.ensures c.if-level-reach.true c.if-reach-lt18446744073709551615.true
    ∙ h c.args.state.now.solver.subst.types) c.add_open.ensures

pub returns-else-level-reach : goal.returns-else-level-reach
returns-else-level-reach c =
    inner-skipped c.args.state.now c.args.level c.args.variable c.index.result.now c.args.parameters.now.items c.requires c.index.ensures (λ a b.
    elim c.else-level-reach.branch [
      | else-level-reach-via-then-level-reach+else-reach-lt18446744073709551615 w ↦ omega (arith, b, w.if-reach-lt18446744073709551615.false)
      | else-level-reach-via-else-level-reach w ↦ omega (arith, a, w.if-level-reach.false)
    ])
