use Rattle.std.proofs.Common.{arith}
use Rattle.ir_tables.specs.of_ty_core.Types.{nodes}
use Rattle.ir_tables.specs.of_ty_table.TypeAt.{type_at}
use Rattle.ir_known.specs.Knows.{marks_of}
use Rattle.ir_known.specs.Asked.{Asked}
use Rattle.ir_known.proofs.Walks.{walk-starts, walk-enters, opens-lighter, pop-lighter}
use Rattle.ir_known.proofs.Opening.{noted-new, passes-old, nodes-positive, ask-fails, ask-ends}
use Rattle.ir_known.proofs.walk.ask.Goals as goal

pub loop-next-init : goal.loop-next-init
loop-next-init c = walk-starts (λ k. Asked c.args.question (marks_of c.args.scope.now) (type_at c.args.types.now k)) (λ k. nodes (type_at c.args.types.now k)) c.args.t _ _ _ c.new-seen.ensures.empty c.new-pending.ensures.items c.in_ok-push.ensures.items

pub returns-then-not-yes : goal.returns-then-not-yes
returns-then-not-yes c = ask-fails c.args.types.now c.args.question (marks_of c.args.scope.now) c.args.t c.loop-next.seen.keys c.loop-next.pending.items c.pop.new.self.items c.in-Some.next c.in-Some.ensures.items c.loop-next.invariant (c.in_ok-yes.ensures.no c.if-not-yes.true)

pub loop-next-smaller-else-not-yes : goal.loop-next-smaller-else-not-yes
loop-next-smaller-else-not-yes c = opens-lighter (λ k. Asked c.args.question (marks_of c.args.scope.now) (type_at c.args.types.now k)) (λ k. nodes (type_at c.args.types.now k)) c.loop-next.pending.items c.pop.new.self.items c.open.new.pending.items c.in-Some.next
    c.in-Some.ensures.items (c.in_ok-yes.ensures.opens c.if-not-yes.false)

pub loop-next-preserved-else-not-yes : goal.loop-next-preserved-else-not-yes
loop-next-preserved-else-not-yes c = walk-enters (λ k. Asked c.args.question (marks_of c.args.scope.now) (type_at c.args.types.now k)) (λ k. nodes (type_at c.args.types.now k)) c.args.t c.loop-next.seen.keys c.loop-next.pending.items c.pop.new.self.items
    c.insert.new.self.keys c.open.new.pending.items c.in-Some.next c.in-Some.ensures.items c.loop-next.invariant
    (noted-new c.loop-next.seen.keys c.insert.new.self.keys c.in-Some.next c.in_ok-new.new c.in_ok-new.ensures.added c.in_ok-new.ensures.keys c.if-new.true) (c.in_ok-yes.ensures.opens c.if-not-yes.false)

pub loop-next-smaller : goal.loop-next-smaller
loop-next-smaller c = pop-lighter (λ k. Asked c.args.question (marks_of c.args.scope.now) (type_at c.args.types.now k)) (λ k. nodes (type_at c.args.types.now k)) c.loop-next.pending.items c.pop.new.self.items c.in-Some.next
    c.in-Some.ensures.items (nodes-positive (type_at c.args.types.now c.in-Some.next))

pub loop-next-preserved : goal.loop-next-preserved
loop-next-preserved c = passes-old (λ k. Asked c.args.question (marks_of c.args.scope.now) (type_at c.args.types.now k)) (λ k. nodes (type_at c.args.types.now k)) c.args.t c.loop-next.seen.keys c.insert.new.self.keys c.loop-next.pending.items c.pop.new.self.items
    c.in-Some.next c.in_ok-new.new c.in-Some.ensures.items c.loop-next.invariant c.in_ok-new.ensures.added c.in_ok-new.ensures.keys c.if-new.false

pub returns : goal.returns
returns c = ask-ends c.args.types.now c.args.question (marks_of c.args.scope.now) c.args.t c.loop-next.seen.keys c.loop-next.pending.items (omega (arith, c.loop-next.pending.ok.0, c.in_default.ensures.cases.0)) c.loop-next.invariant
