use Rattle.std.proofs.Common.{ap, ◌∙◌}
use Rattle.eta_parts.specs.Reads.{a_let}
use Rattle.eta_parts.proofs.Alone.{if-ok, fn-tuple}
use Rattle.eta_parts.proofs.functions.tuple_function.Goals as goal

pub returns-clause-made : goal.returns-clause-made
returns-clause-made c =
    if-ok _ _ c.function.result
    (λ made h types strings. h types strings
    ∙ ap (a_let types strings c.args.binding)
    (fn-tuple types strings c.new-steps.result.items c.push_parts.new.steps.items c.in_ok-arguments.arguments.items c.value.result.variable c.in_ok-given.given c.push_parts.new.next c.take_numbers.new.next
    c.in_ok-variable.variable c.args.next.now c.args.given_type c.value.result.ty c.args.argument c.args.ty c.args.primitive _ c.args.parts.now c.value.ensures.variable c.in_ok-given.ensures.first c.in_ok-arguments.ensures.news
    c.in_ok-variable.ensures.next c.in_ok-variable.ensures.first c.value.ensures.ty c.new-steps.ensures.items (c.in_ok-arguments.ensures.steps types strings) c.in_ok-arguments.ensures.variables (c.in_ok-body.ensures types strings)))
    c.function.ensures
