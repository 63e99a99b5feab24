use Rattle.std.proofs.Common.{ap, ap₂, ◌∙◌}
use Rattle.ir_plain.specs.Tree.{fn}
use Rattle.eta_expand.specs.Expand.{packing}
use Rattle.eta_parts.specs.Reads.{a_let}
use Rattle.eta_parts.proofs.Alone.{if-ok, block-used}
use Rattle.eta_parts.proofs.functions.exception_function.Goals as goal

pub returns-clause-made : goal.returns-clause-made
returns-clause-made c =
    if-ok _ _ c.block_of.result
    (λ made h strings. h c.args.types.now strings
    ∙ ap (a_let c.args.types.now strings c.args.binding)
    (block-used c.args.types.now strings c.in_ok-steps.steps.items c.in_ok-made.made c.in_ok-name.name c.take_numbers.new.next c.in_ok-given.given c.take_numbers-2.new.next c.args.next.now c.args.binding.ty c.args.exception c.value.result _
    c.in_ok-name.ensures.first c.in_ok-name.ensures.next c.in_ok-given.ensures.first c.in_ok-given.ensures.next c.value.ensures.variable c.value.ensures.ty c.in_ok-steps.ensures
    (c.in_ok-made.ensures.made c.args.types.now strings
    ∙ ap₂ (λ i j. a_let c.args.types.now strings c.value.result (fn (packing c.args.types.now c.take_numbers-2.new.next i j c.in_ok-name.name))) c.taken_at.ensures c.given_at.ensures)
    (c.in_ok-body.ensures c.args.types.now strings)))
    c.block_of.ensures
