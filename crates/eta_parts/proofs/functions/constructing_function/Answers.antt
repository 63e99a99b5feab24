use Rattle.std.proofs.Common.{None, ap, ◌∙◌}
use Rattle.ir_plain.specs.Tree.{construct}
use Rattle.eta_parts.specs.Reads.{a_let}
use Rattle.eta_parts.proofs.Alone.{if-ok, fn-alone}
use Rattle.eta_parts.proofs.functions.constructing_function.Goals as goal

pub returns-clause-made : goal.returns-clause-made
returns-clause-made c =
    if-ok _ _ c.function.result
    (λ made h types strings. h types strings
    ∙ ap (a_let types strings c.args.binding)
    (fn-alone types strings c.new.result.items c.value.result.variable c.in_ok-given.given c.take_numbers.new.next c.in_ok-parameter.parameter c.args.next.now c.args.ty c.value.result.ty (λ p. construct None c.args.constructor c.args.ty p) _
    c.value.ensures.variable c.in_ok-given.ensures.first c.in_ok-parameter.ensures.next c.in_ok-parameter.ensures.first c.value.ensures.ty c.args.argument c.new.ensures.items (c.in_ok-body.ensures types strings)))
    c.function.ensures
