use Rattle.std.proofs.Common.{◌<◌, ◌++◌, ◌∷◌, [], length, nat_eq, sym, ap, ◌∙◌, subst, refl, arith}
use Rattle.std.specs.Map.{lookup}
use Rattle.indexmap.specs.IndexMap.{get}
use Rattle.ty_solve.specs.SlotsOf.{seen}
use Rattle.ty_solve.specs.Weight.{Weighs}
use Rattle.ty_instance.specs.Images.{Ends}
use Rattle.ty_instance.specs.Steps.{Going, burden}
use Rattle.ty_instance.specs.declared.step.Step.TheVariants.{Visit}
use Rattle.ty_instance.proofs.Going.{stays-on, whole}
use Rattle.ty_instance.proofs.Putting.{can-build, going-builds, going-same, going-begins}
use Rattle.ty_instance.proofs.Ending.{ending, ending-ends, ends-fits, resolved}
use Rattle.ty_instance.proofs.resolve.resolve.Goals as goal

pub loop-step-init : goal.loop-step-init
loop-step-init c = record {
  stays = whole c.args.s.now.types;
  slots = refl;
  says = refl;
  going = going-begins c.args.s.now.types (seen c.args.s.now.types c.args.s.now.slots.items) (ending (seen c.args.s.now.types c.args.s.now.slots.items) c.args.s.now.acyclic) (get nat_eq c.new-made.result) _ _ c.args.t c.requires (λ k. ap (lookup (nat_eq k)) c.new-made.ensures.empty) c.new-steps.ensures.items c.in_ok-push.ensures.items;
}

pub build_in-requires : goal.build_in-requires
build_in-requires c = can-build c.loop-step.s.types (seen c.args.s.now.types c.args.s.now.slots.items) (ending (seen c.args.s.now.types c.args.s.now.slots.items) c.args.s.now.acyclic) (get nat_eq c.loop-step.made) c.pop.new.self.items c.loop-step.steps.items c.in-Build.k c.args.t (c.in-Some.ensures.items ∙ ap (λ x. c.pop.new.self.items ++ x ∷ []) c.in-Build.is) c.loop-step.invariant.going

pub loop-step-smaller-in-Continue-branch-2 : goal.loop-step-smaller-in-Continue-branch-2
loop-step-smaller-in-Continue-branch-2 c =
    let e = c.in-Some.ensures.items ∙ ap (λ x. c.pop.new.self.items ++ x ∷ []) c.in-Visit.is in
    let z = c.loop-step.invariant.says in
    let g = subst (λ l. Going c.loop-step.s.types (seen c.args.s.now.types c.args.s.now.slots.items) (ending (seen c.args.s.now.types c.args.s.now.slots.items) c.args.s.now.acyclic) (get nat_eq c.loop-step.made) l c.args.t) e c.loop-step.invariant.going in
    let m = c.in_ok-visit-in-Visit.ensures (ending (seen c.args.s.now.types c.args.s.now.slots.items) c.args.s.now.acyclic) c.args.s.now.acyclic.0 c.args.t (subst (Ends (ending (seen c.args.s.now.types c.args.s.now.slots.items) c.args.s.now.acyclic)) (sym z) (ending-ends (seen c.args.s.now.types c.args.s.now.slots.items) c.args.s.now.acyclic)) (subst (Weighs c.args.s.now.acyclic.0) (sym z) c.args.s.now.acyclic.1) (subst (λ y. Going c.loop-step.s.types y (ending (seen c.args.s.now.types c.args.s.now.slots.items) c.args.s.now.acyclic) (get nat_eq c.loop-step.made) (c.pop.new.self.items ++ Visit c.in-Visit.k ∷ []) c.args.t) (sym z) g) in
    subst (λ l. burden c.args.s.now.acyclic.0 c.loop-step.s.types c.visit.new.steps.items < burden c.args.s.now.acyclic.0 c.loop-step.s.types l) (sym e) m.lighter

pub loop-step-preserved-in-Continue-branch-2 : goal.loop-step-preserved-in-Continue-branch-2
loop-step-preserved-in-Continue-branch-2 c =
    let e = c.in-Some.ensures.items ∙ ap (λ x. c.pop.new.self.items ++ x ∷ []) c.in-Visit.is in
    let z = c.loop-step.invariant.says in
    let g = subst (λ l. Going c.loop-step.s.types (seen c.args.s.now.types c.args.s.now.slots.items) (ending (seen c.args.s.now.types c.args.s.now.slots.items) c.args.s.now.acyclic) (get nat_eq c.loop-step.made) l c.args.t) e c.loop-step.invariant.going in
    let m = c.in_ok-visit-in-Visit.ensures (ending (seen c.args.s.now.types c.args.s.now.slots.items) c.args.s.now.acyclic) c.args.s.now.acyclic.0 c.args.t (subst (Ends (ending (seen c.args.s.now.types c.args.s.now.slots.items) c.args.s.now.acyclic)) (sym z) (ending-ends (seen c.args.s.now.types c.args.s.now.slots.items) c.args.s.now.acyclic)) (subst (Weighs c.args.s.now.acyclic.0) (sym z) c.args.s.now.acyclic.1) (subst (λ y. Going c.loop-step.s.types y (ending (seen c.args.s.now.types c.args.s.now.slots.items) c.args.s.now.acyclic) (get nat_eq c.loop-step.made) (c.pop.new.self.items ++ Visit c.in-Visit.k ∷ []) c.args.t) (sym z) g) in
    record { stays = c.loop-step.invariant.stays; slots = c.loop-step.invariant.slots; says = z; going = subst (λ y. Going c.loop-step.s.types y (ending (seen c.args.s.now.types c.args.s.now.slots.items) c.args.s.now.acyclic) (get nat_eq c.visit.new.made) c.visit.new.steps.items c.args.t) z m.going }

pub loop-step-smaller-in_ok-insert-in-Build : goal.loop-step-smaller-in_ok-insert-in-Build
loop-step-smaller-in_ok-insert-in-Build c = (going-builds c.loop-step.s.types c.build_in.new.s.types (seen c.args.s.now.types c.args.s.now.slots.items) (ending (seen c.args.s.now.types c.args.s.now.slots.items) c.args.s.now.acyclic) c.args.s.now.acyclic.0 (get nat_eq c.loop-step.made) (get nat_eq c.insert.new.self) c.pop.new.self.items c.loop-step.steps.items c.args.t c.in_ok-r-in-Build.r c.in_ok-r-in-Build.ensures.earlier_stay c.in-Build.k (c.in-Some.ensures.items ∙ ap (λ x. c.pop.new.self.items ++ x ∷ []) c.in-Build.is) c.in_ok-r-in-Build.ensures.is c.in_ok-insert-in-Build.ensures.updates.0 c.loop-step.invariant.going).lighter

pub loop-step-preserved-in_ok-insert-in-Build : goal.loop-step-preserved-in_ok-insert-in-Build
loop-step-preserved-in_ok-insert-in-Build c = record {
  stays = stays-on c.args.s.now.types c.loop-step.s.types c.build_in.new.s.types c.loop-step.invariant.stays c.in_ok-r-in-Build.ensures.earlier_stay;
  slots = c.in_ok-r-in-Build.ensures.slots ∙ c.loop-step.invariant.slots;
  says = c.in_ok-r-in-Build.ensures.says ∙ c.loop-step.invariant.says;
  going = (going-builds c.loop-step.s.types c.build_in.new.s.types (seen c.args.s.now.types c.args.s.now.slots.items) (ending (seen c.args.s.now.types c.args.s.now.slots.items) c.args.s.now.acyclic) c.args.s.now.acyclic.0 (get nat_eq c.loop-step.made) (get nat_eq c.insert.new.self) c.pop.new.self.items c.loop-step.steps.items c.args.t c.in_ok-r-in-Build.r c.in_ok-r-in-Build.ensures.earlier_stay c.in-Build.k (c.in-Some.ensures.items ∙ ap (λ x. c.pop.new.self.items ++ x ∷ []) c.in-Build.is) c.in_ok-r-in-Build.ensures.is c.in_ok-insert-in-Build.ensures.updates.0 c.loop-step.invariant.going).going;
}

pub loop-step-smaller : goal.loop-step-smaller
loop-step-smaller c = (going-same c.loop-step.s.types (seen c.args.s.now.types c.args.s.now.slots.items) (ending (seen c.args.s.now.types c.args.s.now.slots.items) c.args.s.now.acyclic) c.args.s.now.acyclic.0 (get nat_eq c.loop-step.made) (get nat_eq c.insert-in-Same.new.self) c.pop.new.self.items c.loop-step.steps.items c.in-Same.k c.in-Same.u c.args.t c.image_of-r.result (ends-fits (seen c.args.s.now.types c.args.s.now.slots.items) (ending (seen c.args.s.now.types c.args.s.now.slots.items) c.args.s.now.acyclic) (ending-ends (seen c.args.s.now.types c.args.s.now.slots.items) c.args.s.now.acyclic)) (c.in-Some.ensures.items ∙ ap (λ x. c.pop.new.self.items ++ x ∷ []) c.in-Same.is) c.image_of-r.ensures c.in_ok-insert-in-Same.ensures.updates.0 c.loop-step.invariant.going).lighter

pub loop-step-preserved : goal.loop-step-preserved
loop-step-preserved c = record { stays = c.loop-step.invariant.stays; slots = c.loop-step.invariant.slots; says = c.loop-step.invariant.says; going = (going-same c.loop-step.s.types (seen c.args.s.now.types c.args.s.now.slots.items) (ending (seen c.args.s.now.types c.args.s.now.slots.items) c.args.s.now.acyclic) c.args.s.now.acyclic.0 (get nat_eq c.loop-step.made) (get nat_eq c.insert-in-Same.new.self) c.pop.new.self.items c.loop-step.steps.items c.in-Same.k c.in-Same.u c.args.t c.image_of-r.result (ends-fits (seen c.args.s.now.types c.args.s.now.slots.items) (ending (seen c.args.s.now.types c.args.s.now.slots.items) c.args.s.now.acyclic) (ending-ends (seen c.args.s.now.types c.args.s.now.slots.items) c.args.s.now.acyclic)) (c.in-Some.ensures.items ∙ ap (λ x. c.pop.new.self.items ++ x ∷ []) c.in-Same.is) c.image_of-r.ensures c.in_ok-insert-in-Same.ensures.updates.0 c.loop-step.invariant.going).going }

pub returns-clause-held : goal.returns-clause-held
returns-clause-held c = (resolved c.args.s.now.types c.loop-step.s.types (seen c.args.s.now.types c.args.s.now.slots.items) c.args.s.now.acyclic (length c.args.s.now.slots.items) (get nat_eq c.loop-step.made) c.loop-step.steps.items c.args.t c.image_of.result c.requires c.args.s.now.below c.loop-step.invariant.stays (omega (arith, c.loop-step.steps.ok.0, c.in_default.ensures.cases.0)) c.image_of.ensures c.loop-step.invariant.going).held

pub returns-clause-is : goal.returns-clause-is
returns-clause-is c = (resolved c.args.s.now.types c.loop-step.s.types (seen c.args.s.now.types c.args.s.now.slots.items) c.args.s.now.acyclic (length c.args.s.now.slots.items) (get nat_eq c.loop-step.made) c.loop-step.steps.items c.args.t c.image_of.result c.requires c.args.s.now.below c.loop-step.invariant.stays (omega (arith, c.loop-step.steps.ok.0, c.in_default.ensures.cases.0)) c.image_of.ensures c.loop-step.invariant.going).is

pub returns-clause-same : goal.returns-clause-same
returns-clause-same c = (resolved c.args.s.now.types c.loop-step.s.types (seen c.args.s.now.types c.args.s.now.slots.items) c.args.s.now.acyclic (length c.args.s.now.slots.items) (get nat_eq c.loop-step.made) c.loop-step.steps.items c.args.t c.image_of.result c.requires c.args.s.now.below c.loop-step.invariant.stays (omega (arith, c.loop-step.steps.ok.0, c.in_default.ensures.cases.0)) c.image_of.ensures c.loop-step.invariant.going).same

pub returns-clause-open_in : goal.returns-clause-open_in
returns-clause-open_in c = (resolved c.args.s.now.types c.loop-step.s.types (seen c.args.s.now.types c.args.s.now.slots.items) c.args.s.now.acyclic (length c.args.s.now.slots.items) (get nat_eq c.loop-step.made) c.loop-step.steps.items c.args.t c.image_of.result c.requires c.args.s.now.below c.loop-step.invariant.stays (omega (arith, c.loop-step.steps.ok.0, c.in_default.ensures.cases.0)) c.image_of.ensures c.loop-step.invariant.going).open_in

pub returns-clause-below : goal.returns-clause-below
returns-clause-below c = (resolved c.args.s.now.types c.loop-step.s.types (seen c.args.s.now.types c.args.s.now.slots.items) c.args.s.now.acyclic (length c.args.s.now.slots.items) (get nat_eq c.loop-step.made) c.loop-step.steps.items c.args.t c.image_of.result c.requires c.args.s.now.below c.loop-step.invariant.stays (omega (arith, c.loop-step.steps.ok.0, c.in_default.ensures.cases.0)) c.image_of.ensures c.loop-step.invariant.going).below
