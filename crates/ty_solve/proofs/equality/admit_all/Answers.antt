use Rattle.std.proofs.Common.{◌≡◌, ◌++◌, length, ap, sym, subst, ◌∙◌, arith}
use Rattle.ty_table.specs.TypeAt.{AllBelow}
use Rattle.ty_solve.specs.SlotsOf.{tasks_of}
use Rattle.ty_solve.specs.Said.{said}
use Rattle.ty_solve.proofs.Walking.{pop-lighter}
use Rattle.ty_solve.proofs.Reaching.{noted-new, noted-old}
use Rattle.ty_solve.proofs.Holding.{below-pop}
use Rattle.ty_solve.proofs.Admitting.{Admitting, admitting-first, admitting-skips, admitting-looks, admitting-ends, refuses-parts, looked-lighter}
use Rattle.ty_solve.proofs.equality.admit_all.Goals as goal

pub loop-next-init : goal.loop-next-init
loop-next-init c = record {
  admitting = admitting-first c.args.s.now.types (length c.args.s.now.slots.items) (said c.args.s.now) c.args.s.now.acyclic.0 c.args.ts.now (tasks_of c.args.s.now.types c.args.tasks.now.items) _ _ _ c.new-seen.ensures.empty c.new-pending.ensures.items c.in_ok-add_all.ensures;
  held = λ a h. (subst (AllBelow (length c.args.s.now.types)) (sym (c.in_ok-add_all.ensures ∙ ap (λ m. m ++ c.args.ts.now) c.new-pending.ensures.items)) a, h);
}

pub returns-in-Err-clause-cause : goal.returns-in-Err-clause-cause
returns-in-Err-clause-cause c = refuses-parts c.args.s.now.types (length c.args.s.now.slots.items) (said c.args.s.now) c.args.s.now.acyclic c.args.ts.now _ _ _ _ _ c.in-Some.next c.in-Some.ensures.items c.loop-next.invariant.admitting c.in-Err.refused c.in-Err.ensures.cause

pub loop-next-smaller-in-Ok : goal.loop-next-smaller-in-Ok
loop-next-smaller-in-Ok c = looked-lighter c.args.s.now.types (said c.args.s.now) c.args.s.now.acyclic _ _ _ _ _ c.in-Some.next c.in-Some.ensures.items c.in-Ok.ensures.looked

pub loop-next-preserved-in-Ok : goal.loop-next-preserved-in-Ok
loop-next-preserved-in-Ok c = record {
  admitting = admitting-looks c.args.s.now.types (length c.args.s.now.slots.items) (said c.args.s.now) c.args.s.now.acyclic c.args.ts.now _ _ _ _ _ c.in-Some.next c.in-Some.ensures.items c.loop-next.invariant.admitting _ (noted-new c.loop-next.seen.keys c.insert.new.self.keys c.in-Some.next c.in_ok-new.new c.in_ok-new.ensures.added c.in_ok-new.ensures.keys c.if-new.true) c.args.s.now.below _ _ c.in-Ok.ensures.looked;
  held = λ a h. let x = c.loop-next.invariant.held a h in let y = below-pop (length c.args.s.now.types) _ _ _ c.in-Some.ensures.items x.0 in c.in-Ok.ensures.held y.1 y.0 x.1;
}

pub loop-next-smaller : goal.loop-next-smaller
loop-next-smaller c = pop-lighter c.args.s.now.acyclic.0 c.args.s.now.types _ _ c.in-Some.next c.in-Some.ensures.items

pub loop-next-preserved : goal.loop-next-preserved
loop-next-preserved c =
    let h = noted-old c.loop-next.seen.keys c.insert.new.self.keys c.in-Some.next c.in_ok-new.new c.in_ok-new.ensures.added c.in_ok-new.ensures.keys c.if-new.false in
    record {
      admitting = subst (λ d. Admitting c.args.s.now.types (length c.args.s.now.slots.items) (said c.args.s.now) c.args.s.now.acyclic.0 c.args.ts.now (tasks_of c.args.s.now.types c.args.tasks.now.items) (tasks_of c.args.s.now.types c.loop-next.tasks.items) d c.pop.new.self.items) (sym h.same) (admitting-skips c.args.s.now.types (length c.args.s.now.slots.items) (said c.args.s.now) c.args.s.now.acyclic c.args.ts.now _ _ _ _ _ c.in-Some.next c.in-Some.ensures.items c.loop-next.invariant.admitting h.has);
      held = λ a h. let x = c.loop-next.invariant.held a h in let y = below-pop (length c.args.s.now.types) _ _ _ c.in-Some.ensures.items x.0 in (y.0, x.1);
    }

pub returns-clause-parts : goal.returns-clause-parts
returns-clause-parts c =
    let e : length c.loop-next.pending.items ≡ 0 = omega (arith, c.loop-next.pending.ok.0, c.in_default.ensures.cases.0) in
    admitting-ends c.args.s.now.types (length c.args.s.now.slots.items) (said c.args.s.now) c.args.s.now.acyclic c.args.ts.now _ _ _ _ e c.loop-next.invariant.admitting

pub returns-clause-held : goal.returns-clause-held
returns-clause-held c = λ a h. (c.loop-next.invariant.held a h).1
