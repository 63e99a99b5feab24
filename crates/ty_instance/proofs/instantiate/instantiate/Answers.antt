use Rattle.std.proofs.Common.{◌≡◌, ◌<◌, ◌++◌, ◌∷◌, [], length, nat_eq, Some, sym, ap, ◌∙◌, subst, arith}
use Rattle.std.proofs.lemmas.Bool.{eqb-true}
use Rattle.std.proofs.lemmas.Option.{slice_get-get_or}
use Rattle.std.specs.Map.{lookup}
use Rattle.indexmap.specs.IndexMap.{get}
use Rattle.ty_solve.specs.of_ty_core.Types.{var}
use Rattle.ty_solve.specs.of_ty_table.TypeAt.{type_at}
use Rattle.ty_instance.specs.Images.{image_at, nothing}
use Rattle.ty_instance.specs.Steps.{Going, IsImage, burden}
use Rattle.ty_instance.proofs.Going.{below-grown, stays-on, whole}
use Rattle.ty_instance.proofs.Putting.{image_at-none, image_at-stays, image-ends, replace-same, replace-sub, can-build, going-builds, going-same, going-begins, going-ends}
use Rattle.ty_instance.proofs.instantiate.instantiate.Goals as goal

pub returns-then-is_empty-clause-is : goal.returns-then-is_empty-clause-is
returns-then-is_empty-clause-is c =
    let e = eqb-true (length c.args.images.now) 0 (sym c.is_empty.ensures ∙ c.if-is_empty.true) in
    slice_get-get_or c.args.types.now c.args.body (var 0) c.requires.body ∙ ap Some (sym (replace-same (image_at c.args.types.now c.args.images.now) (image_at-none c.args.types.now c.args.images.now e) (type_at c.args.types.now c.args.body)))

pub loop-step-init : goal.loop-step-init
loop-step-init c = record {
  stays = whole c.args.types.now;
  going = going-begins c.args.types.now nothing (image_at c.args.types.now c.args.images.now) (get nat_eq c.new-made.result) _ _ c.args.body c.requires.body (λ k. ap (lookup (nat_eq k)) c.new-made.ensures.empty) c.new-steps.ensures.items c.in_ok-push.ensures.items;
}

pub build-requires : goal.build-requires
build-requires c = can-build c.loop-step.types nothing (image_at c.args.types.now c.args.images.now) (get nat_eq c.loop-step.made) c.pop.new.self.items c.loop-step.steps.items c.in-Build.k c.args.body (c.in-Some.ensures.items ∙ ap (λ x. c.pop.new.self.items ++ x ∷ []) c.in-Build.is) c.loop-step.invariant.going

pub visit-requires-clause-held : goal.visit-requires-clause-held
visit-requires-clause-held c = below-grown c.args.types.now c.loop-step.types c.args.images.now c.loop-step.invariant.stays c.requires.images

pub loop-step-smaller-in-Continue-branch-2 : goal.loop-step-smaller-in-Continue-branch-2
loop-step-smaller-in-Continue-branch-2 c =
    let e = c.in-Some.ensures.items ∙ ap (λ x. c.pop.new.self.items ++ x ∷ []) c.in-Visit.is in
    let g = subst (λ l. Going c.loop-step.types nothing (image_at c.args.types.now c.args.images.now) (get nat_eq c.loop-step.made) l c.args.body) e c.loop-step.invariant.going in
    let m = c.in_ok-visit-in-Visit.ensures.moves (image_at c.args.types.now c.args.images.now) c.args.body (λ v. sym (image_at-stays c.args.types.now c.loop-step.types c.args.images.now v c.loop-step.invariant.stays c.requires.images)) g in
    subst (λ l. burden (λ v. 0) c.visit.new.types c.visit.new.steps.items < burden (λ v. 0) c.loop-step.types l) (sym e) m.lighter

pub loop-step-preserved-in-Continue-branch-2 : goal.loop-step-preserved-in-Continue-branch-2
loop-step-preserved-in-Continue-branch-2 c =
    let e = c.in-Some.ensures.items ∙ ap (λ x. c.pop.new.self.items ++ x ∷ []) c.in-Visit.is in
    let g = subst (λ l. Going c.loop-step.types nothing (image_at c.args.types.now c.args.images.now) (get nat_eq c.loop-step.made) l c.args.body) e c.loop-step.invariant.going in
    let m = c.in_ok-visit-in-Visit.ensures.moves (image_at c.args.types.now c.args.images.now) c.args.body (λ v. sym (image_at-stays c.args.types.now c.loop-step.types c.args.images.now v c.loop-step.invariant.stays c.requires.images)) g in
    record { stays = stays-on c.args.types.now c.loop-step.types c.visit.new.types c.loop-step.invariant.stays c.in_ok-visit-in-Visit.ensures.earlier_stay; going = m.going }

pub loop-step-smaller-in_ok-insert-in-Build : goal.loop-step-smaller-in_ok-insert-in-Build
loop-step-smaller-in_ok-insert-in-Build c = (going-builds c.loop-step.types c.build.new.types nothing (image_at c.args.types.now c.args.images.now) (λ v. 0) (get nat_eq c.loop-step.made) (get nat_eq c.insert.new.self) c.pop.new.self.items c.loop-step.steps.items c.args.body c.in_ok-r-in-Build.r c.in_ok-r-in-Build.ensures.earlier_stay c.in-Build.k (c.in-Some.ensures.items ∙ ap (λ x. c.pop.new.self.items ++ x ∷ []) c.in-Build.is) c.in_ok-r-in-Build.ensures.is c.in_ok-insert-in-Build.ensures.updates.0 c.loop-step.invariant.going).lighter

pub loop-step-preserved-in_ok-insert-in-Build : goal.loop-step-preserved-in_ok-insert-in-Build
loop-step-preserved-in_ok-insert-in-Build c = record {
  stays = stays-on c.args.types.now c.loop-step.types c.build.new.types c.loop-step.invariant.stays c.in_ok-r-in-Build.ensures.earlier_stay;
  going = (going-builds c.loop-step.types c.build.new.types nothing (image_at c.args.types.now c.args.images.now) (λ v. 0) (get nat_eq c.loop-step.made) (get nat_eq c.insert.new.self) c.pop.new.self.items c.loop-step.steps.items c.args.body c.in_ok-r-in-Build.r c.in_ok-r-in-Build.ensures.earlier_stay c.in-Build.k (c.in-Some.ensures.items ∙ ap (λ x. c.pop.new.self.items ++ x ∷ []) c.in-Build.is) c.in_ok-r-in-Build.ensures.is c.in_ok-insert-in-Build.ensures.updates.0 c.loop-step.invariant.going).going;
}

pub loop-step-smaller : goal.loop-step-smaller
loop-step-smaller c = (going-same c.loop-step.types nothing (image_at c.args.types.now c.args.images.now) (λ v. 0) (get nat_eq c.loop-step.made) (get nat_eq c.insert-in-Same.new.self) c.pop.new.self.items c.loop-step.steps.items c.in-Same.k c.in-Same.u c.args.body c.image_of-r.result (λ v. tt) (c.in-Some.ensures.items ∙ ap (λ x. c.pop.new.self.items ++ x ∷ []) c.in-Same.is) c.image_of-r.ensures c.in_ok-insert-in-Same.ensures.updates.0 c.loop-step.invariant.going).lighter

pub loop-step-preserved : goal.loop-step-preserved
loop-step-preserved c = record { stays = c.loop-step.invariant.stays; going = (going-same c.loop-step.types nothing (image_at c.args.types.now c.args.images.now) (λ v. 0) (get nat_eq c.loop-step.made) (get nat_eq c.insert-in-Same.new.self) c.pop.new.self.items c.loop-step.steps.items c.in-Same.k c.in-Same.u c.args.body c.image_of-r.result (λ v. tt) (c.in-Some.ensures.items ∙ ap (λ x. c.pop.new.self.items ++ x ∷ []) c.in-Same.is) c.image_of-r.ensures c.in_ok-insert-in-Same.ensures.updates.0 c.loop-step.invariant.going).going }

pub returns-clause-is : goal.returns-clause-is
returns-clause-is c =
    let e : length c.loop-step.steps.items ≡ 0 = omega (arith, c.loop-step.steps.ok.0, c.in_default.ensures.cases.0) in
    let i = subst (IsImage c.loop-step.types (image_at c.args.types.now c.args.images.now) c.args.body) (sym c.image_of.ensures) (going-ends c.loop-step.types nothing (image_at c.args.types.now c.args.images.now) (get nat_eq c.loop-step.made) c.loop-step.steps.items c.args.body e c.loop-step.invariant.going) in
    image-ends c.args.types.now c.loop-step.types (image_at c.args.types.now c.args.images.now) c.args.body c.image_of.result c.loop-step.invariant.stays c.requires.body i ∙ ap Some (sym (replace-sub (image_at c.args.types.now c.args.images.now) (type_at c.args.types.now c.args.body)))
