use Rattle.std.proofs.Common.{ap, ◌∙◌}
use Rattle.std.proofs.lemmas.Result.{IfOk-weaker}
use Rattle.label_rows.specs.Sorting.{sorted}
use Rattle.prog_leaves.proofs.Typing.{pairs-in-order}
use Rattle.prog_leaves.proofs.rows.in_order.Goals as goal

pub returns : goal.returns
returns c =
    IfOk-weaker c.as_pairs.result _ _
    (λ made e. pairs-in-order c.args.row.now c.in_ok-fields.fields.items c.deref-2.result.now made.items e
    (c.deref-2.ensures.value ∙ c.in_ok-sorted.ensures ∙ ap sorted c.deref.ensures.value) c.in_ok-fields.ensures) c.as_pairs.ensures
