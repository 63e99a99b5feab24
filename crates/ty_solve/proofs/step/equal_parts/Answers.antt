use Rattle.ty_table.specs.TypeAt.{type_at, types_at}
use Rattle.ty_table.proofs.Viewing.{below-at}
use Rattle.ty_solve.specs.SlotsOf.{tasks_of}
use Rattle.ty_solve.proofs.Holding.{held-push}
use Rattle.ty_solve.proofs.Slots.{tasks-push}
use Rattle.std.proofs.Common.{◌≡◌, ◌<◌, length, map, take, sym, subst, ◌∙◌, arith, add-one}
use Rattle.std.proofs.Common.{◌∙◌, ◌≡◌, ◌<◌, length, map, take, subst, sym, arith, add-one}
use Rattle.ty_table.specs.TypeAt.{type_at, types_at}
use Rattle.ty_solve.specs.SlotsOf.{tasks_of}
use Rattle.ty_solve.proofs.Slots.{tasks-push}
use Rattle.ty_solve.proofs.PartsLeft.{EqualSome, equal-none, equal-next, equal-all}
use Rattle.ty_solve.proofs.Arms.{take-next, taken, take-full, beside-at}
use Rattle.ty_solve.proofs.step.equal_parts.Goals as goal

pub loop-i-init : goal.loop-i-init
loop-i-init c = record { some = equal-none _ _ _; held = λ a b h. h }

pub loop-i-preserved : goal.loop-i-preserved
loop-i-preserved c =
    let lt = c.loop-i-test.true in
    let lt' : c.loop-i.i < length c.args.us.now = omega (arith, c.requires) in
    let e = take-next c.args.s.now.types c.args.ts.now c.loop-i.i lt in
    let d = take-next c.args.s.now.types c.args.us.now c.loop-i.i lt' in
    let n : length (map (type_at c.args.s.now.types) (take c.loop-i.i c.args.ts.now)) ≡ length (map (type_at c.args.s.now.types) (take c.loop-i.i c.args.us.now)) = taken c.args.s.now.types c.args.ts.now c.loop-i.i (omega arith) ∙ sym (taken c.args.s.now.types c.args.us.now c.loop-i.i (omega arith)) in
    rw add-one (record { some = rw (e, d) (equal-next _ _ _ (types_at c.args.s.now.types c.args.ts.now) (types_at c.args.s.now.types c.args.us.now) _ _ _ _ n (tasks-push c.args.s.now.types _ _ _ c.in_ok-push.ensures.items) (beside-at c.args.s.now.types c.args.ts.now c.args.us.now c.loop-i.i lt lt') c.loop-i.invariant.some); held = λ a b h. held-push (length c.args.s.now.types) _ _ _ c.in_ok-push.ensures.items (c.loop-i.invariant.held a b h) (below-at (length c.args.s.now.types) c.args.ts.now c.loop-i.i a lt, below-at (length c.args.s.now.types) c.args.us.now c.loop-i.i b lt') })

pub returns : goal.returns
returns c =
    let e : c.loop-i.i ≡ length c.args.ts.now = omega arith in
    let p = take-full c.args.ts.now c.loop-i.i e in
    let q = take-full c.args.us.now c.loop-i.i (e ∙ c.requires) in
    record { parts = equal-all _ _ (map (type_at c.args.s.now.types) c.args.ts.now) (map (type_at c.args.s.now.types) c.args.us.now) (subst (λ l. EqualSome (tasks_of c.args.s.now.types c.args.tasks.now.items) (tasks_of c.args.s.now.types c.loop-i.tasks.items) (types_at c.args.s.now.types c.args.ts.now) (types_at c.args.s.now.types c.args.us.now) (map (type_at c.args.s.now.types) c.args.ts.now) (map (type_at c.args.s.now.types) l)) q (subst (λ l. EqualSome (tasks_of c.args.s.now.types c.args.tasks.now.items) (tasks_of c.args.s.now.types c.loop-i.tasks.items) (types_at c.args.s.now.types c.args.ts.now) (types_at c.args.s.now.types c.args.us.now) (map (type_at c.args.s.now.types) l) (map (type_at c.args.s.now.types) (take c.loop-i.i c.args.us.now))) p c.loop-i.invariant.some)); held = c.loop-i.invariant.held }
