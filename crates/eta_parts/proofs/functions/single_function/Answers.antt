use Rattle.std.proofs.Common.{ap, ◌∙◌}
use Rattle.eta_parts.specs.Reads.{a_let}
use Rattle.eta_parts.proofs.Alone.{if-ok, fn-single}
use Rattle.eta_parts.proofs.functions.single_function.Goals as goal

pub returns-clause-made : goal.returns-clause-made
returns-clause-made c =
    if-ok _ _ c.function.result
    (λ made h types strings parts. h types strings
    ∙ ap (a_let types strings c.args.binding)
    (fn-single types strings c.new.result.items c.in_ok-arguments.arguments.items c.value.result.variable c.in_ok-given.given c.take_numbers.new.next c.in_ok-parameter.parameter c.args.next.now c.args.given_type c.value.result.ty c.args.argument c.args.ty
    c.args.primitive _ parts c.value.ensures.variable c.in_ok-given.ensures.first c.in_ok-parameter.ensures.next c.in_ok-parameter.ensures.first c.value.ensures.ty c.new.ensures.items c.in_ok-arguments.ensures (c.in_ok-body.ensures types strings)))
    c.function.ensures
