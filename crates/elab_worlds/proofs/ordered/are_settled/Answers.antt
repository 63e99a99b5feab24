use Rattle.std.proofs.Common.{◌≡◌, ◌≤◌, length, true, false, sym, subst, ◌∙◌}
use Rattle.elab_state.specs.States.{said_in}
use Rattle.elab_worlds.specs.Final.{is_row}
use Rattle.elab_worlds.proofs.Ordering.{one-more, row-at, seen-settled}
use Rattle.elab_worlds.proofs.ordered.are_settled.Goals as goal

pub returns-then-is_partial-clause-open : goal.returns-then-is_partial-clause-open
returns-then-is_partial-clause-open c = λ e.
    let s = c.args.state.now.solver.subst in (
      c.loop-v.v,
      row-at s.types s.slots.items c.deref-slots.result.now c.loop-v.v c.index-slots-v.result true c.deref-slots.ensures.value c.loop-v-test.true c.index-slots-v.is
          (sym c.if-is_partial.true ∙ c.is_partial.ensures s.types),
    )

pub loop-v-preserved : goal.loop-v-preserved
loop-v-preserved c =
    let s = c.args.state.now.solver.subst in
    one-more (λ v. is_row (said_in c.args.state.now v) ≡ false) c.loop-v.v c.loop-v.invariant
    (row-at s.types s.slots.items c.deref-slots.result.now c.loop-v.v c.index-slots-v.result false c.deref-slots.ensures.value c.loop-v-test.true c.index-slots-v.is
    (sym c.if-is_partial.false ∙ c.is_partial.ensures s.types))

pub returns-clause-settled : goal.returns-clause-settled
returns-clause-settled c = λ e.
    let s = c.args.state.now.solver.subst in
    seen-settled s.types s.slots.items c.loop-v.v (subst (λ l. length l ≤ c.loop-v.v) c.deref-slots.ensures.value c.loop-v-test.false) c.loop-v.invariant
