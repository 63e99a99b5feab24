use Rattle.std.proofs.Common.{◌≡◌, length, subst, sym, rules, arith}
use Rattle.ty_table.specs.of_ty_core.Types.{var}
use Rattle.ty_table.specs.TypeAt.{type_at}
use Rattle.ty_solve.specs.SlotsOf.{seen}
use Rattle.ty_table.specs.TypeAt.{top}
use Rattle.ty_solve.proofs.Walking.{pop-lighter, look-lighter}
use Rattle.ty_solve.proofs.Reaching.{Reaching, Covered, reaching-first, hits, passes, enters, reaching-ends, noted-new, noted-old}
use Rattle.ty_solve.proofs.walk.reaches.Goals as goal

pub loop-next-init : goal.loop-next-init
loop-next-init c = reaching-first c.args.s.now.types (seen c.args.s.now.types c.args.s.now.slots.items) c.args.v c.args.types.items _ c.new-seen.ensures.empty

pub returns-then-is_variable : goal.returns-then-is_variable
returns-then-is_variable c = hits c.args.s.now.types (seen c.args.s.now.types c.args.s.now.slots.items) c.args.v c.args.types.items _ _ _ c.in-Some.next c.in-Some.ensures.items c.loop-next.invariant (c.is_variable.ensures.0 c.if-is_variable.true)

pub loop-next-smaller-in-Continue-branch-2 : goal.loop-next-smaller-in-Continue-branch-2
loop-next-smaller-in-Continue-branch-2 c = look-lighter c.args.s.now.types (seen c.args.s.now.types c.args.s.now.slots.items) c.args.s.now.acyclic _ _ _ c.in-Some.next c.in-Some.ensures.items c.in_ok-look_in.ensures

pub loop-next-preserved-in-Continue-branch-2 : goal.loop-next-preserved-in-Continue-branch-2
loop-next-preserved-in-Continue-branch-2 c =
    let ne : (type_at c.args.s.now.types c.in-Some.next ≡ var c.args.v → ⊥) = search rules in
    enters c.args.s.now.types (seen c.args.s.now.types c.args.s.now.slots.items) c.args.v c.args.types.items _ _ _ c.in-Some.next c.in-Some.ensures.items c.loop-next.invariant _ _ (noted-new c.loop-next.seen.keys c.insert.new.self.keys c.in-Some.next c.in_ok-new.new c.in_ok-new.ensures.added c.in_ok-new.ensures.keys c.if-new.true) c.in_ok-look_in.ensures ne

pub loop-next-smaller-else-new : goal.loop-next-smaller-else-new
loop-next-smaller-else-new c = pop-lighter c.args.s.now.acyclic.0 c.args.s.now.types _ _ c.in-Some.next c.in-Some.ensures.items

pub loop-next-preserved-else-new : goal.loop-next-preserved-else-new
loop-next-preserved-else-new c =
    let h = noted-old c.loop-next.seen.keys c.insert.new.self.keys c.in-Some.next c.in_ok-new.new c.in_ok-new.ensures.added c.in_ok-new.ensures.keys c.if-new.false in
    subst (λ d. Reaching c.args.s.now.types (seen c.args.s.now.types c.args.s.now.slots.items) c.args.v c.args.types.items d c.pop.new.self.items) (sym h.same) (passes c.args.s.now.types (seen c.args.s.now.types c.args.s.now.slots.items) c.args.v c.args.types.items _ _ _ c.in-Some.next c.in-Some.ensures.items c.loop-next.invariant (Covered.looked h.has))

pub loop-next-smaller : goal.loop-next-smaller
loop-next-smaller c = pop-lighter c.args.s.now.acyclic.0 c.args.s.now.types _ _ c.in-Some.next c.in-Some.ensures.items

pub loop-next-preserved : goal.loop-next-preserved
loop-next-preserved c =
    let z : top (type_at c.args.s.now.types c.in-Some.next) ≡ 0 = search rules in
    passes c.args.s.now.types (seen c.args.s.now.types c.args.s.now.slots.items) c.args.v c.args.types.items _ _ _ c.in-Some.next c.in-Some.ensures.items c.loop-next.invariant (Covered.ground z)

pub returns : goal.returns
returns c = let e : length c.loop-next.pending.items ≡ 0 = omega (arith, c.loop-next.pending.ok.0, c.in_default.ensures.cases.0) in reaching-ends c.args.s.now.types (seen c.args.s.now.types c.args.s.now.slots.items) c.args.s.now.acyclic c.args.v c.args.types.items _ _ e c.loop-next.invariant
