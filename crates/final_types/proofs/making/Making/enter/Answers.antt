use Rattle.std.proofs.Common.{◌<◌, ◌++◌, ◌∷◌, [], reverse, sym, ap, subst, ◌∙◌, arith}
use Rattle.indexmap.specs.IndexMap.{get}
use Rattle.ty_instance.proofs.Going.{stays-on}
use Rattle.final_types.specs.Making.{Going, burden, same_key}
use Rattle.final_types.proofs.Stepping.{going-ends, no-steps}
use Rattle.final_types.proofs.making.Making.enter.Goals as goal

pub loop-step-smaller-in-Continue-branch-2 : goal.loop-step-smaller-in-Continue-branch-2
loop-step-smaller-in-Continue-branch-2 c =
    let e = c.in-Some.ensures.items ∙ ap (λ x. c.pop.new.self.items ++ x ∷ []) c.in-Visit.is in
    let go = subst (λ l. Going c.args.source.now c.loop-step.types (get same_key c.loop-step.self.made) l c.loop-step.self.values.items c.args.ty c.place_of-place.result) e c.loop-step.invariant.going in
    let m = c.in_ok-visit-in-Visit.ensures.moves c.args.ty c.place_of-place.result go in
    subst (λ l. burden c.args.source.now (reverse c.visit.new.self.steps.items) < burden c.args.source.now (reverse l)) (sym e) m.lighter

pub loop-step-preserved-in-Continue-branch-2 : goal.loop-step-preserved-in-Continue-branch-2
loop-step-preserved-in-Continue-branch-2 c =
    let e = c.in-Some.ensures.items ∙ ap (λ x. c.pop.new.self.items ++ x ∷ []) c.in-Visit.is in
    let go = subst (λ l. Going c.args.source.now c.loop-step.types (get same_key c.loop-step.self.made) l c.loop-step.self.values.items c.args.ty c.place_of-place.result) e c.loop-step.invariant.going in
    record {
      stays = stays-on c.args.types.now c.loop-step.types c.visit.new.types c.loop-step.invariant.stays c.in_ok-visit-in-Visit.ensures.earlier_stay;
      going = (c.in_ok-visit-in-Visit.ensures.moves c.args.ty c.place_of-place.result go).going;
    }

pub loop-step-smaller-in-Continue-branch-3 : goal.loop-step-smaller-in-Continue-branch-3
loop-step-smaller-in-Continue-branch-3 c =
    let e = c.in-Some.ensures.items ∙ ap (λ x. c.pop.new.self.items ++ x ∷ []) c.in-Keep.is in
    let go = subst (λ l. Going c.args.source.now c.loop-step.types (get same_key c.loop-step.self.made) l c.loop-step.self.values.items c.args.ty c.place_of-place.result) e c.loop-step.invariant.going in
    let m = c.in_ok-keep-in-Keep.ensures.moves c.args.source.now c.loop-step.types c.args.ty c.place_of-place.result go in
    subst (λ l. burden c.args.source.now (reverse c.keep.new.self.steps.items) < burden c.args.source.now (reverse l)) (sym e) m.lighter

pub loop-step-preserved-in-Continue-branch-3 : goal.loop-step-preserved-in-Continue-branch-3
loop-step-preserved-in-Continue-branch-3 c =
    let e = c.in-Some.ensures.items ∙ ap (λ x. c.pop.new.self.items ++ x ∷ []) c.in-Keep.is in
    let go = subst (λ l. Going c.args.source.now c.loop-step.types (get same_key c.loop-step.self.made) l c.loop-step.self.values.items c.args.ty c.place_of-place.result) e c.loop-step.invariant.going in
    record {
      stays = c.loop-step.invariant.stays;
      going = (c.in_ok-keep-in-Keep.ensures.moves c.args.source.now c.loop-step.types c.args.ty c.place_of-place.result go).going;
    }

pub loop-step-smaller : goal.loop-step-smaller
loop-step-smaller c =
    let e = c.in-Some.ensures.items ∙ ap (λ x. c.pop.new.self.items ++ x ∷ []) c.in-Build.is in
    let go = subst (λ l. Going c.args.source.now c.loop-step.types (get same_key c.loop-step.self.made) l c.loop-step.self.values.items c.args.ty c.place_of-place.result) e c.loop-step.invariant.going in
    let m = c.in_ok-build-in-Build.ensures.moves c.args.source.now c.args.ty c.place_of-place.result go in
    subst (λ l. burden c.args.source.now (reverse c.build.new.self.steps.items) < burden c.args.source.now (reverse l)) (sym e) m.lighter

pub loop-step-preserved : goal.loop-step-preserved
loop-step-preserved c =
    let e = c.in-Some.ensures.items ∙ ap (λ x. c.pop.new.self.items ++ x ∷ []) c.in-Build.is in
    let go = subst (λ l. Going c.args.source.now c.loop-step.types (get same_key c.loop-step.self.made) l c.loop-step.self.values.items c.args.ty c.place_of-place.result) e c.loop-step.invariant.going in
    record {
      stays = stays-on c.args.types.now c.loop-step.types c.build.new.types c.loop-step.invariant.stays c.in_ok-build-in-Build.ensures.earlier_stay;
      going = (c.in_ok-build-in-Build.ensures.moves c.args.source.now c.args.ty c.place_of-place.result go).going;
    }

pub returns-in-Some-pop-clause-is : goal.returns-in-Some-pop-clause-is
returns-in-Some-pop-clause-is c = λ g end.
    let z = going-ends c.args.source.now c.loop-step.types (get same_key c.loop-step.self.made) c.loop-step.self.steps.items c.loop-step.self.values.items c.pop-2.new.self.items c.args.ty c.place_of-place.result c.in-Some-pop.r
    (no-steps c.loop-step.self.steps.items (omega (arith, c.loop-step.self.steps.ok.0, c.in_default.ensures.cases.0))) c.in-Some-pop.ensures.items c.loop-step.invariant.going in
    record { held = z.0; is = z.1 g end ∙ sym (c.place_of-place.ensures g c.args.ty) }
