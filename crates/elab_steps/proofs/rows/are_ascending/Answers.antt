use Rattle.std.proofs.Common.{sym, ◌∙◌, arith}
use Rattle.elab_steps.proofs.Sorting.{ascends-whole, not-ascending}
use Rattle.elab_steps.proofs.rows.are_ascending.Goals as goal

pub returns-then-not-stands_before : goal.returns-then-not-stands_before
returns-then-not-stands_before c =
    not-ascending c.args.fields.now c.loop-i.i c.index-fields-i.result c.index-fields-i-in-loop-i.result c.loop-i.invariant.0 (omega arith)
    (sym c.stands_before.ensures ∙ c.if-not-stands_before.true)

pub returns : goal.returns
returns c = ascends-whole c.args.fields.now (λ k d lt. c.loop-i.invariant.1 k d (omega arith))
