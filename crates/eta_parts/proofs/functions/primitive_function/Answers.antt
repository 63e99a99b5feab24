use Rattle.std.proofs.Common.{refl, sym, ap, ◌∙◌}
use Rattle.ir_mono.specs.Types.{node_at}
use Rattle.eta_expand.specs.Expand.{takes_at, parts_at}
use Rattle.eta_parts.specs.Reads.{a_let}
use Rattle.eta_parts.proofs.Alone.{if-ok, performing-as}
use Rattle.eta_parts.proofs.functions.primitive_function.Goals as goal

pub returns-then-takes_one-clause-made : goal.returns-then-takes_one-clause-made
returns-then-takes_one-clause-made c =
    if-ok _ _ c.single_function.result
    (λ made h strings names. h c.args.types.now strings (parts_at (node_at c.args.types.now (takes_at (node_at c.args.types.now c.args.binding.ty))))
    ∙ ap (a_let c.args.types.now strings c.args.binding)
    (performing-as c.args.types.now strings c.args.next.now c.args.ty _ _ _ _ c.args.primitive _ _ _ _ (sym c.if-takes_one.true ∙ c.takes_one.ensures) c.taken_at-taken.ensures c.given_at-given.ensures refl))
    c.single_function.ensures.made

pub returns-else-takes_one-clause-made : goal.returns-else-takes_one-clause-made
returns-else-takes_one-clause-made c =
    if-ok _ _ c.tuple_function.result
    (λ made h strings names. h c.args.types.now strings
    ∙ ap (a_let c.args.types.now strings c.args.binding)
    (performing-as c.args.types.now strings c.args.next.now c.args.ty _ _ _ _ c.args.primitive _ _ _ _ (sym c.if-takes_one.false ∙ c.takes_one.ensures) c.taken_at-taken.ensures c.given_at-given.ensures
    (c.fields_at.ensures ∙ ap (λ t. parts_at (node_at c.args.types.now t)) c.taken_at-taken.ensures)))
    c.tuple_function.ensures.made
