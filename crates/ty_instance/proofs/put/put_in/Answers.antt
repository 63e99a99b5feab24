use Rattle.std.proofs.Common.{◌≡◌, ◌<◌, ◌++◌, ◌∷◌, [], length, nat_eq, Some, sym, ap, ◌∙◌, subst, arith}
use Rattle.std.specs.Map.{lookup}
use Rattle.indexmap.specs.IndexMap.{get}
use Rattle.ty_solve.specs.of_ty_table.TypeAt.{type_at}
use Rattle.ty_instance.specs.Images.{nothing}
use Rattle.ty_instance.specs.Put.{put_at}
use Rattle.ty_instance.proofs.PuttingFor.{put-stays, held-grown}
use Rattle.ty_instance.specs.Steps.{Going, IsImage, burden}
use Rattle.ty_instance.proofs.Going.{stays-on, whole}
use Rattle.ty_instance.proofs.Putting.{image-ends, replace-sub, can-build, going-builds, going-same, going-begins, going-ends}
use Rattle.ty_instance.proofs.put.put_in.Goals as goal

pub loop-step-init : goal.loop-step-init
loop-step-init c = record {
  stays = whole c.args.types.now;
  going = going-begins c.args.types.now nothing (put_at c.args.types.now (get nat_eq c.args.images.now)) (get nat_eq c.new-made.result) _ _ c.args.body c.requires.body (λ k. ap (lookup (nat_eq k)) c.new-made.ensures.empty) c.new-steps.ensures.items c.in_ok-push.ensures.items;
}

pub build-requires : goal.build-requires
build-requires c = can-build c.loop-step.types nothing (put_at c.args.types.now (get nat_eq c.args.images.now)) (get nat_eq c.loop-step.made) c.pop.new.self.items c.loop-step.steps.items c.in-Build.k c.args.body (c.in-Some.ensures.items ∙ ap (λ x. c.pop.new.self.items ++ x ∷ []) c.in-Build.is) c.loop-step.invariant.going

pub visit-requires : goal.visit-requires
visit-requires c = held-grown c.args.types.now c.loop-step.types (get nat_eq c.args.images.now) c.loop-step.invariant.stays c.requires.held

pub loop-step-smaller-in-Continue-branch-2 : goal.loop-step-smaller-in-Continue-branch-2
loop-step-smaller-in-Continue-branch-2 c =
    let e = c.in-Some.ensures.items ∙ ap (λ x. c.pop.new.self.items ++ x ∷ []) c.in-Visit.is in
    let g = subst (λ l. Going c.loop-step.types nothing (put_at c.args.types.now (get nat_eq c.args.images.now)) (get nat_eq c.loop-step.made) l c.args.body) e c.loop-step.invariant.going in
    let m = c.in_ok-visit-in-Visit.ensures (put_at c.args.types.now (get nat_eq c.args.images.now)) c.args.body (λ v. sym (put-stays c.args.types.now c.loop-step.types (get nat_eq c.args.images.now) v c.loop-step.invariant.stays c.requires.held)) g in
    subst (λ l. burden (λ v. 0) c.loop-step.types c.visit.new.steps.items < burden (λ v. 0) c.loop-step.types l) (sym e) m.lighter

pub loop-step-preserved-in-Continue-branch-2 : goal.loop-step-preserved-in-Continue-branch-2
loop-step-preserved-in-Continue-branch-2 c =
    let e = c.in-Some.ensures.items ∙ ap (λ x. c.pop.new.self.items ++ x ∷ []) c.in-Visit.is in
    let g = subst (λ l. Going c.loop-step.types nothing (put_at c.args.types.now (get nat_eq c.args.images.now)) (get nat_eq c.loop-step.made) l c.args.body) e c.loop-step.invariant.going in
    let m = c.in_ok-visit-in-Visit.ensures (put_at c.args.types.now (get nat_eq c.args.images.now)) c.args.body (λ v. sym (put-stays c.args.types.now c.loop-step.types (get nat_eq c.args.images.now) v c.loop-step.invariant.stays c.requires.held)) g in
    record { stays = c.loop-step.invariant.stays; going = m.going }

pub loop-step-smaller-in_ok-insert-in-Build : goal.loop-step-smaller-in_ok-insert-in-Build
loop-step-smaller-in_ok-insert-in-Build c = (going-builds c.loop-step.types c.build.new.types nothing (put_at c.args.types.now (get nat_eq c.args.images.now)) (λ v. 0) (get nat_eq c.loop-step.made) (get nat_eq c.insert.new.self) c.pop.new.self.items c.loop-step.steps.items c.args.body c.in_ok-r-in-Build.r c.in_ok-r-in-Build.ensures.earlier_stay c.in-Build.k (c.in-Some.ensures.items ∙ ap (λ x. c.pop.new.self.items ++ x ∷ []) c.in-Build.is) c.in_ok-r-in-Build.ensures.is c.in_ok-insert-in-Build.ensures.updates.0 c.loop-step.invariant.going).lighter

pub loop-step-preserved-in_ok-insert-in-Build : goal.loop-step-preserved-in_ok-insert-in-Build
loop-step-preserved-in_ok-insert-in-Build c = record {
  stays = stays-on c.args.types.now c.loop-step.types c.build.new.types c.loop-step.invariant.stays c.in_ok-r-in-Build.ensures.earlier_stay;
  going = (going-builds c.loop-step.types c.build.new.types nothing (put_at c.args.types.now (get nat_eq c.args.images.now)) (λ v. 0) (get nat_eq c.loop-step.made) (get nat_eq c.insert.new.self) c.pop.new.self.items c.loop-step.steps.items c.args.body c.in_ok-r-in-Build.r c.in_ok-r-in-Build.ensures.earlier_stay c.in-Build.k (c.in-Some.ensures.items ∙ ap (λ x. c.pop.new.self.items ++ x ∷ []) c.in-Build.is) c.in_ok-r-in-Build.ensures.is c.in_ok-insert-in-Build.ensures.updates.0 c.loop-step.invariant.going).going;
}

pub loop-step-smaller : goal.loop-step-smaller
loop-step-smaller c = (going-same c.loop-step.types nothing (put_at c.args.types.now (get nat_eq c.args.images.now)) (λ v. 0) (get nat_eq c.loop-step.made) (get nat_eq c.insert-in-Same.new.self) c.pop.new.self.items c.loop-step.steps.items c.in-Same.k c.in-Same.u c.args.body c.image_of-r.result (λ v. tt) (c.in-Some.ensures.items ∙ ap (λ x. c.pop.new.self.items ++ x ∷ []) c.in-Same.is) c.image_of-r.ensures c.in_ok-insert-in-Same.ensures.updates.0 c.loop-step.invariant.going).lighter

pub loop-step-preserved : goal.loop-step-preserved
loop-step-preserved c = record { stays = c.loop-step.invariant.stays; going = (going-same c.loop-step.types nothing (put_at c.args.types.now (get nat_eq c.args.images.now)) (λ v. 0) (get nat_eq c.loop-step.made) (get nat_eq c.insert-in-Same.new.self) c.pop.new.self.items c.loop-step.steps.items c.in-Same.k c.in-Same.u c.args.body c.image_of-r.result (λ v. tt) (c.in-Some.ensures.items ∙ ap (λ x. c.pop.new.self.items ++ x ∷ []) c.in-Same.is) c.image_of-r.ensures c.in_ok-insert-in-Same.ensures.updates.0 c.loop-step.invariant.going).going }

pub returns-clause-is : goal.returns-clause-is
returns-clause-is c =
    let e : length c.loop-step.steps.items ≡ 0 = omega (arith, c.loop-step.steps.ok.0, c.in_default.ensures.cases.0) in
    let i = subst (IsImage c.loop-step.types (put_at c.args.types.now (get nat_eq c.args.images.now)) c.args.body) (sym c.image_of.ensures) (going-ends c.loop-step.types nothing (put_at c.args.types.now (get nat_eq c.args.images.now)) (get nat_eq c.loop-step.made) c.loop-step.steps.items c.args.body e c.loop-step.invariant.going) in
    image-ends c.args.types.now c.loop-step.types (put_at c.args.types.now (get nat_eq c.args.images.now)) c.args.body c.image_of.result c.loop-step.invariant.stays c.requires.body i ∙ ap Some (sym (replace-sub (put_at c.args.types.now (get nat_eq c.args.images.now)) (type_at c.args.types.now c.args.body)))
