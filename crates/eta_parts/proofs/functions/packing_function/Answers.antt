use Rattle.std.proofs.Common.{ap, ◌∙◌}
use Rattle.eta_parts.specs.Reads.{a_let}
use Rattle.eta_parts.proofs.Alone.{if-ok, fn-packing}
use Rattle.eta_parts.proofs.functions.packing_function.Goals as goal

pub returns-clause-made : goal.returns-clause-made
returns-clause-made c =
    if-ok _ _ c.function.result
    (λ made h types strings. h types strings
    ∙ ap (a_let types strings c.args.binding)
    (fn-packing types strings c.in_ok-steps.steps.items c.value.result.variable c.in_ok-given.given c.take_numbers-2.new.next c.in_ok-name.name c.take_numbers.new.next c.in_ok-parameter.parameter c.args.next.now c.args.packet c.value.result.ty
    c.args.argument c.args.exception _ c.value.ensures.variable c.in_ok-given.ensures.first c.in_ok-name.ensures.next c.in_ok-name.ensures.first c.in_ok-parameter.ensures.next c.in_ok-parameter.ensures.first c.value.ensures.ty
    c.in_ok-steps.ensures (c.in_ok-body.ensures types strings)))
    c.function.ensures
