use Rattle.std.proofs.Common.{◌≤◌, sym, subst}
use Rattle.elab_steps.proofs.Bounding.{next-bounded, none-bounded, part-held}
use Rattle.elab_steps.proofs.Growing.{type_later}
use Rattle.elab_steps.proofs.rows.bounded_parts.Goals as goal

pub loop-i-init : goal.loop-i-init
loop-i-init c = none-bounded c.args.state.now c.args.limit _ c.new-parts.ensures.items

pub bounded-requires-clause-part : goal.bounded-requires-clause-part
bounded-requires-clause-part c =
    type_later c.args.state.now c.loop-i.state _ c.loop-i.invariant.grows (part-held c.args.state.now c.args.fields.now c.loop-i.i c.index-fields-i.result c.loop-i-test.true c.requires.parts)

pub bounded-requires-clause-inside : goal.bounded-requires-clause-inside
bounded-requires-clause-inside c = subst (λ n. c.args.limit.level ≤ n) (sym c.loop-i.invariant.grows.level) c.requires.inside

pub loop-i-preserved : goal.loop-i-preserved
loop-i-preserved c =
    next-bounded c.args.state.now c.loop-i.state c.bounded.new.state c.args.limit c.args.fields.now c.loop-i.i c.index-fields-i.result c.loop-i.parts.items _ c.in_ok-part.part c.loop-i-test.true
    c.index-fields-i.is c.loop-i.invariant c.in_ok-part.ensures.grows c.in_ok-part.ensures.next c.in_ok-part.ensures.is c.in_ok-part.ensures.limited c.in_ok-part.ensures.same c.in_ok-push.ensures.items
