use Rattle.std.proofs.Common.{◌≡◌, true, false, length, subst, sym, rules, tests, arith}
use Rattle.ty_table.specs.TypeAt.{top, type_at}
use Rattle.ty_solve.specs.Said.{said}
use Rattle.ty_solve.proofs.Reaching.{Covered, noted-new, noted-old}
use Rattle.ty_solve.proofs.Walking.{look-lighter, pop-lighter}
use Rattle.open_variables.specs.Looking.{Sees}
use Rattle.open_variables.specs.Open.{is_done_in}
use Rattle.open_variables.proofs.Searching.{Searching, enters, hits, passes, searching-ends, searching-first}
use Rattle.open_variables.proofs.done.are_done.Goals as goal

pub loop-next-init : goal.loop-next-init
loop-next-init c =
    let M = c.args.solver.now in searching-first M.subst.types (said M.subst) (is_done_in M) c.args.types.items _ c.new-seen.ensures.empty

pub returns-then-not-done : goal.returns-then-not-done
returns-then-not-done c =
    let M = c.args.solver.now in
    let e : c.in_ok-done.done ≡ false = search (rules, tests) in
    let l = subst (Sees M c.in-Some.next c.pop.new.self.items c.look_in.new.pending.items) e c.in_ok-done.ensures in (
      λ t. absurd (search (rules, tests)),
      λ a. absurd (hits M.subst.types (said M.subst) (is_done_in M) c.args.types.items c.loop-next.seen.keys c.loop-next.pending.items c.pop.new.self.items
          c.in-Some.next c.in-Some.ensures.items c.loop-next.invariant l.variable l.is l.open_still l.left a),
    )

pub loop-next-smaller-else-not-done : goal.loop-next-smaller-else-not-done
loop-next-smaller-else-not-done c =
    let M = c.args.solver.now in
    let e : c.in_ok-done.done ≡ true = search (rules, tests) in
    let l = subst (Sees M c.in-Some.next c.pop.new.self.items c.look_in.new.pending.items) e c.in_ok-done.ensures in
    look-lighter M.subst.types (said M.subst) M.subst.acyclic _ _ _ c.in-Some.next c.in-Some.ensures.items l.looks

pub loop-next-preserved-else-not-done : goal.loop-next-preserved-else-not-done
loop-next-preserved-else-not-done c =
    let M = c.args.solver.now in
    let e : c.in_ok-done.done ≡ true = search (rules, tests) in
    let l = subst (Sees M c.in-Some.next c.pop.new.self.items c.look_in.new.pending.items) e c.in_ok-done.ensures in
    let new = noted-new c.loop-next.seen.keys c.insert.new.self.keys c.in-Some.next c.in_ok-new.new c.in_ok-new.ensures.added c.in_ok-new.ensures.keys c.if-new.true in
    enters M.subst.types (said M.subst) (is_done_in M) c.args.types.items c.loop-next.seen.keys c.loop-next.pending.items c.pop.new.self.items c.in-Some.next
    c.in-Some.ensures.items c.loop-next.invariant c.insert.new.self.keys c.look_in.new.pending.items new l.looks l.done

pub loop-next-smaller-else-new : goal.loop-next-smaller-else-new
loop-next-smaller-else-new c =
    let M = c.args.solver.now in pop-lighter M.subst.acyclic.0 M.subst.types _ _ c.in-Some.next c.in-Some.ensures.items

pub loop-next-preserved-else-new : goal.loop-next-preserved-else-new
loop-next-preserved-else-new c =
    let M = c.args.solver.now in
    let h = noted-old c.loop-next.seen.keys c.insert.new.self.keys c.in-Some.next c.in_ok-new.new c.in_ok-new.ensures.added c.in_ok-new.ensures.keys c.if-new.false in
    subst (λ l. Searching M.subst.types (said M.subst) (is_done_in M) c.args.types.items l c.pop.new.self.items) (sym h.same)
    (passes M.subst.types (said M.subst) (is_done_in M) c.args.types.items c.loop-next.seen.keys c.loop-next.pending.items c.pop.new.self.items c.in-Some.next
    c.in-Some.ensures.items c.loop-next.invariant (Covered.looked h.has))

pub loop-next-smaller : goal.loop-next-smaller
loop-next-smaller c =
    let M = c.args.solver.now in pop-lighter M.subst.acyclic.0 M.subst.types _ _ c.in-Some.next c.in-Some.ensures.items

pub loop-next-preserved : goal.loop-next-preserved
loop-next-preserved c =
    let M = c.args.solver.now in
    let z : top (type_at M.subst.types c.in-Some.next) ≡ 0 = search (rules, tests) in
    passes M.subst.types (said M.subst) (is_done_in M) c.args.types.items c.loop-next.seen.keys c.loop-next.pending.items c.pop.new.self.items c.in-Some.next
    c.in-Some.ensures.items c.loop-next.invariant (Covered.ground z)

pub returns : goal.returns
returns c =
    let M = c.args.solver.now in
    let e : length c.loop-next.pending.items ≡ 0 = omega (arith, c.loop-next.pending.ok.0, c.in_default.ensures.cases.0) in
    let a = searching-ends M.subst.types (said M.subst) (is_done_in M) c.args.types.items c.loop-next.seen.keys c.loop-next.pending.items e c.loop-next.invariant in
    (λ t. a, λ b. search (rules, tests))
