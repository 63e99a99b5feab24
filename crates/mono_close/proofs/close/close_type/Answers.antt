use Rattle.std.proofs.Common.{◌++◌, ◌∷◌, [], length, nat_eq, ap, ◌∙◌, arith}
use Rattle.indexmap.specs.IndexMap.{get}
use Rattle.mono_close.specs.Closing.{standing}
use Rattle.mono_close.specs.declared.step.Step.TheVariants.{Visit}
use Rattle.mono_close.proofs.Tables.{held-longer, length-longer, then-longer, same-long}
use Rattle.mono_close.proofs.Going.{going-begins, going-builds, going-ends, can-build, stepped}
use Rattle.mono_close.proofs.close.close_type.Goals as goal

pub loop-step-init : goal.loop-step-init
loop-step-init c = record {
  going = going-begins c.args.sources.now (standing c.args.closed.now c.args.slots.now) (get nat_eq c.args.known.now) c.args.closed.now _ c.args.k c.requires.right (c.in_ok-push.ensures.items ∙ ap (λ l. l ++ Visit c.args.k ∷ []) c.new-steps.ensures.items);
  longer = same-long c.args.closed.now;
}

pub visit-requires : goal.visit-requires
visit-requires c = held-longer (length c.args.closed.now) (length c.loop-step.closed) c.args.slots.now (length-longer c.args.closed.now c.loop-step.closed c.loop-step.invariant.longer) c.requires.held

pub loop-step-smaller-in-Continue-branch-2 : goal.loop-step-smaller-in-Continue-branch-2
loop-step-smaller-in-Continue-branch-2 c = (stepped c.args.sources.now (get nat_eq c.loop-step.known) (get nat_eq c.visit.new.known) c.args.closed.now c.loop-step.closed c.visit.new.closed c.args.slots.now c.pop.new.self.items c.loop-step.steps.items c.visit.new.steps.items c.in-Visit.of c.args.k
    c.in_ok-visit-in-Visit.ensures.moves (c.in-Some.ensures.items ∙ ap (λ x. c.pop.new.self.items ++ x ∷ []) c.in-Visit.is) c.requires.held c.loop-step.invariant.longer c.loop-step.invariant.going).lighter

pub loop-step-preserved-in-Continue-branch-2 : goal.loop-step-preserved-in-Continue-branch-2
loop-step-preserved-in-Continue-branch-2 c = record {
  going = (stepped c.args.sources.now (get nat_eq c.loop-step.known) (get nat_eq c.visit.new.known) c.args.closed.now c.loop-step.closed c.visit.new.closed c.args.slots.now c.pop.new.self.items c.loop-step.steps.items c.visit.new.steps.items c.in-Visit.of c.args.k
      c.in_ok-visit-in-Visit.ensures.moves (c.in-Some.ensures.items ∙ ap (λ x. c.pop.new.self.items ++ x ∷ []) c.in-Visit.is) c.requires.held c.loop-step.invariant.longer c.loop-step.invariant.going).going;
  longer = then-longer c.args.closed.now c.loop-step.closed c.visit.new.closed c.loop-step.invariant.longer c.in_ok-visit-in-Visit.ensures.earlier_stay;
}

pub build-requires : goal.build-requires
build-requires c = can-build c.args.sources.now (standing c.args.closed.now c.args.slots.now) (get nat_eq c.loop-step.known) c.loop-step.closed c.pop.new.self.items c.loop-step.steps.items c.in-Build.of c.args.k c.len-once.ensures.one_to_one
    (c.in-Some.ensures.items ∙ ap (λ x. c.pop.new.self.items ++ x ∷ []) c.in-Build.is) c.loop-step.invariant.going

pub loop-step-smaller : goal.loop-step-smaller
loop-step-smaller c = (going-builds c.args.sources.now (standing c.args.closed.now c.args.slots.now) (get nat_eq c.loop-step.known) (get nat_eq c.insert.new.self) c.loop-step.closed c.build.new.closed c.pop.new.self.items c.loop-step.steps.items c.in-Build.of c.in_ok-n-in-Build.n c.args.k
    (c.in-Some.ensures.items ∙ ap (λ x. c.pop.new.self.items ++ x ∷ []) c.in-Build.is) c.in_ok-n-in-Build.ensures.earlier_stay c.in_ok-n-in-Build.ensures.is c.in_ok-insert-in-Build.ensures.updates.0 c.loop-step.invariant.going).lighter

pub loop-step-preserved : goal.loop-step-preserved
loop-step-preserved c = record {
  going = (going-builds c.args.sources.now (standing c.args.closed.now c.args.slots.now) (get nat_eq c.loop-step.known) (get nat_eq c.insert.new.self) c.loop-step.closed c.build.new.closed c.pop.new.self.items c.loop-step.steps.items c.in-Build.of c.in_ok-n-in-Build.n c.args.k
      (c.in-Some.ensures.items ∙ ap (λ x. c.pop.new.self.items ++ x ∷ []) c.in-Build.is) c.in_ok-n-in-Build.ensures.earlier_stay c.in_ok-n-in-Build.ensures.is c.in_ok-insert-in-Build.ensures.updates.0 c.loop-step.invariant.going).going;
  longer = then-longer c.args.closed.now c.loop-step.closed c.build.new.closed c.loop-step.invariant.longer c.in_ok-n-in-Build.ensures.earlier_stay;
}

pub returns-clause-is : goal.returns-clause-is
returns-clause-is c = going-ends c.args.sources.now (standing c.args.closed.now c.args.slots.now) (get nat_eq c.loop-step.known) c.loop-step.closed c.loop-step.steps.items c.args.k c.number_of.result (omega (arith, c.loop-step.steps.ok.0, c.in_default.ensures.cases.0)) c.number_of.ensures c.loop-step.invariant.going

pub returns-clause-right : goal.returns-clause-right
returns-clause-right c = c.loop-step.invariant.going.right

pub returns-clause-earlier_stay : goal.returns-clause-earlier_stay
returns-clause-earlier_stay c = c.loop-step.invariant.longer
