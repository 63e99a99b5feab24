use Rattle.std.proofs.Common.{arith}
use Rattle.ir_tables.specs.of_ty_core.Types.{nodes}
use Rattle.ir_tables.specs.of_ty_table.TypeAt.{type_at}
use Rattle.ir_known.specs.Images.{IsImage, image_of}
use Rattle.ir_known.proofs.Walks.{walk-starts, walk-enters, opens-lighter, pop-lighter}
use Rattle.ir_known.proofs.Opening.{nodes-positive}
use Rattle.ir_known.proofs.Pairs.{pair-new, pair-old, pairs-fail, pairs-end}
use Rattle.ir_known.proofs.image.is_image.Goals as goal

pub loop-next-init : goal.loop-next-init
loop-next-init c = walk-starts (IsImage c.args.types.now (image_of c.args.types.now c.args.images.now c.args.rest)) (λ p. nodes (type_at c.args.types.now p.0)) (c.args.body, c.args.t) _ _ _ c.new-seen.ensures.empty c.new-pending.ensures.items c.in_ok-push.ensures.items

pub returns-then-not-yes : goal.returns-then-not-yes
returns-then-not-yes c = pairs-fail c.args.types.now (image_of c.args.types.now c.args.images.now c.args.rest) c.args.body c.args.t c.loop-next.seen.keys c.loop-next.pending.items c.pop.new.self.items c.in-Some.next c.in-Some.ensures.items c.loop-next.invariant (c.in_ok-yes.ensures.no c.if-not-yes.true)

pub loop-next-smaller-else-not-yes : goal.loop-next-smaller-else-not-yes
loop-next-smaller-else-not-yes c = opens-lighter (IsImage c.args.types.now (image_of c.args.types.now c.args.images.now c.args.rest)) (λ p. nodes (type_at c.args.types.now p.0)) c.loop-next.pending.items c.pop.new.self.items c.open_pair.new.pending.items c.in-Some.next c.in-Some.ensures.items (c.in_ok-yes.ensures.opens c.if-not-yes.false)

pub loop-next-preserved-else-not-yes : goal.loop-next-preserved-else-not-yes
loop-next-preserved-else-not-yes c = walk-enters (IsImage c.args.types.now (image_of c.args.types.now c.args.images.now c.args.rest)) (λ p. nodes (type_at c.args.types.now p.0)) (c.args.body, c.args.t) c.loop-next.seen.keys c.loop-next.pending.items c.pop.new.self.items c.insert.new.self.keys c.open_pair.new.pending.items c.in-Some.next c.in-Some.ensures.items c.loop-next.invariant
    (pair-new c.loop-next.seen.keys c.insert.new.self.keys c.in-Some.next c.in_ok-new.new c.in_ok-new.ensures.added c.in_ok-new.ensures.keys c.if-new.true) (c.in_ok-yes.ensures.opens c.if-not-yes.false)

pub loop-next-smaller : goal.loop-next-smaller
loop-next-smaller c = pop-lighter (IsImage c.args.types.now (image_of c.args.types.now c.args.images.now c.args.rest)) (λ p. nodes (type_at c.args.types.now p.0)) c.loop-next.pending.items c.pop.new.self.items c.in-Some.next c.in-Some.ensures.items (nodes-positive (type_at c.args.types.now c.in-Some.next.0))

pub loop-next-preserved : goal.loop-next-preserved
loop-next-preserved c = pair-old (IsImage c.args.types.now (image_of c.args.types.now c.args.images.now c.args.rest)) (λ p. nodes (type_at c.args.types.now p.0)) (c.args.body, c.args.t) c.loop-next.seen.keys c.insert.new.self.keys c.loop-next.pending.items c.pop.new.self.items c.in-Some.next c.in_ok-new.new c.in-Some.ensures.items c.loop-next.invariant
    c.in_ok-new.ensures.added c.in_ok-new.ensures.keys c.if-new.false

pub returns : goal.returns
returns c = pairs-end c.args.types.now (image_of c.args.types.now c.args.images.now c.args.rest) c.args.body c.args.t c.loop-next.seen.keys c.loop-next.pending.items (omega (arith, c.loop-next.pending.ok.0, c.in_default.ensures.cases.0)) c.loop-next.invariant
