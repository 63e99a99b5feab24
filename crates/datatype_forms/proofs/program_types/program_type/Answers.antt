use Rattle.std.proofs.Common.{◌++◌, ◌∷◌, [], nat_eq, ap, ◌∙◌, arith}
use Rattle.indexmap.specs.IndexMap.{get}
use Rattle.datatype_forms.specs.ProgramTypes.{number_by}
use Rattle.datatype_forms.specs.declared.step.Step.TheVariants.{Visit}
use Rattle.ty_instance.proofs.Going.{stays-on, whole}
use Rattle.datatype_forms.proofs.Going.{going-begins, going-builds, going-ends, can-build, stepped}
use Rattle.datatype_forms.proofs.program_types.program_type.Goals as goal

pub loop-step-init : goal.loop-step-init
loop-step-init c = record {
  going = going-begins c.args.types.now (number_by c.args.names.now.numbers.now) c.args.names.now.limit (get nat_eq c.args.known.now) c.args.program.now _ c.args.k c.requires (c.in_ok-push.ensures.items ∙ ap (λ l. l ++ Visit c.args.k ∷ []) c.new-steps.ensures.items);
  longer = whole c.args.program.now;
}

pub loop-step-smaller-in-Continue-branch-2 : goal.loop-step-smaller-in-Continue-branch-2
loop-step-smaller-in-Continue-branch-2 c = (stepped c.args.types.now (number_by c.args.names.now.numbers.now) c.args.names.now.limit (get nat_eq c.loop-step.known) (get nat_eq c.visit.new.known) c.loop-step.program c.visit.new.program c.pop.new.self.items c.loop-step.steps.items c.visit.new.steps.items c.in-Visit.of c.args.k
    c.in_ok-visit-in-Visit.ensures.moves (c.in-Some.ensures.items ∙ ap (λ x. c.pop.new.self.items ++ x ∷ []) c.in-Visit.is) c.loop-step.invariant.going).lighter

pub loop-step-preserved-in-Continue-branch-2 : goal.loop-step-preserved-in-Continue-branch-2
loop-step-preserved-in-Continue-branch-2 c = record {
  going = (stepped c.args.types.now (number_by c.args.names.now.numbers.now) c.args.names.now.limit (get nat_eq c.loop-step.known) (get nat_eq c.visit.new.known) c.loop-step.program c.visit.new.program c.pop.new.self.items c.loop-step.steps.items c.visit.new.steps.items c.in-Visit.of c.args.k
      c.in_ok-visit-in-Visit.ensures.moves (c.in-Some.ensures.items ∙ ap (λ x. c.pop.new.self.items ++ x ∷ []) c.in-Visit.is) c.loop-step.invariant.going).going;
  longer = stays-on c.args.program.now c.loop-step.program c.visit.new.program c.loop-step.invariant.longer c.in_ok-visit-in-Visit.ensures.earlier_stay;
}

pub build-requires : goal.build-requires
build-requires c = can-build c.args.types.now (number_by c.args.names.now.numbers.now) c.args.names.now.limit (get nat_eq c.loop-step.known) c.loop-step.program c.pop.new.self.items c.loop-step.steps.items c.in-Build.of c.args.k c.len-once.ensures.one_to_one
    (c.in-Some.ensures.items ∙ ap (λ x. c.pop.new.self.items ++ x ∷ []) c.in-Build.is) c.loop-step.invariant.going

pub loop-step-smaller : goal.loop-step-smaller
loop-step-smaller c = (going-builds c.args.types.now (number_by c.args.names.now.numbers.now) c.args.names.now.limit (get nat_eq c.loop-step.known) (get nat_eq c.insert.new.self) c.loop-step.program c.build.new.program c.pop.new.self.items c.loop-step.steps.items c.in-Build.of c.in_ok-n-in-Build.n c.args.k
    (c.in-Some.ensures.items ∙ ap (λ x. c.pop.new.self.items ++ x ∷ []) c.in-Build.is) c.in_ok-n-in-Build.ensures.earlier_stay c.in_ok-n-in-Build.ensures.is c.in_ok-insert-in-Build.ensures.updates.0 c.loop-step.invariant.going).lighter

pub loop-step-preserved : goal.loop-step-preserved
loop-step-preserved c = record {
  going = (going-builds c.args.types.now (number_by c.args.names.now.numbers.now) c.args.names.now.limit (get nat_eq c.loop-step.known) (get nat_eq c.insert.new.self) c.loop-step.program c.build.new.program c.pop.new.self.items c.loop-step.steps.items c.in-Build.of c.in_ok-n-in-Build.n c.args.k
      (c.in-Some.ensures.items ∙ ap (λ x. c.pop.new.self.items ++ x ∷ []) c.in-Build.is) c.in_ok-n-in-Build.ensures.earlier_stay c.in_ok-n-in-Build.ensures.is c.in_ok-insert-in-Build.ensures.updates.0 c.loop-step.invariant.going).going;
  longer = stays-on c.args.program.now c.loop-step.program c.build.new.program c.loop-step.invariant.longer c.in_ok-n-in-Build.ensures.earlier_stay;
}

pub returns-clause-is : goal.returns-clause-is
returns-clause-is c = (going-ends c.args.types.now (number_by c.args.names.now.numbers.now) c.args.names.now.limit (get nat_eq c.loop-step.known) c.loop-step.program c.loop-step.steps.items c.args.k c.number_of.result (omega (arith, c.loop-step.steps.ok.0, c.in_default.ensures.cases.0)) c.number_of.ensures c.loop-step.invariant.going).0

pub returns-clause-over : goal.returns-clause-over
returns-clause-over c = (going-ends c.args.types.now (number_by c.args.names.now.numbers.now) c.args.names.now.limit (get nat_eq c.loop-step.known) c.loop-step.program c.loop-step.steps.items c.args.k c.number_of.result (omega (arith, c.loop-step.steps.ok.0, c.in_default.ensures.cases.0)) c.number_of.ensures c.loop-step.invariant.going).1

pub returns-clause-right : goal.returns-clause-right
returns-clause-right c = c.loop-step.invariant.going.right

pub returns-clause-earlier_stay : goal.returns-clause-earlier_stay
returns-clause-earlier_stay c = c.loop-step.invariant.longer
