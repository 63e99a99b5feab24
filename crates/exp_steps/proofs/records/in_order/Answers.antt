use Rattle.std.proofs.Common.{ap, ◌∙◌}
use Rattle.std.proofs.lemmas.Result.{IfOk-weaker}
use Rattle.label_rows.specs.Sorting.{sorted}
use Rattle.exp_steps.proofs.Ordered.{plain-in-order}
use Rattle.exp_steps.proofs.records.in_order.Goals as goal

pub returns : goal.returns
returns c =
    IfOk-weaker c.as_plain.result _ _
    (λ made e. plain-in-order c.args.fields.now c.in_ok-labelled.labelled.items c.deref-2.result.now made.items e
    (c.deref-2.ensures.value ∙ c.in_ok-sorted.ensures ∙ ap sorted c.deref.ensures.value) c.in_ok-labelled.ensures) c.as_plain.ensures
