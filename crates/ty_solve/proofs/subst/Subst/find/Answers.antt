use Rattle.std.proofs.Common.{refl, ◌∙◌, arith}
use Rattle.std.proofs.Common.{◌∙◌, refl, arith}
use Rattle.ty_table.specs.TypeAt.{type_at}
use Rattle.ty_solve.specs.Forces.{Forces}
use Rattle.ty_solve.proofs.Finds.{step-fits, step-below, step-lighter, step-forced, step-met}
use Rattle.ty_solve.proofs.subst.Subst.find.Goals as goal

pub loop-next-init : goal.loop-next-init
loop-next-init c = record {
  held = λ h. h;
  same = λ f h. refl;
  in_bounds = λ h. h;
  lighter = omega arith;
  forced = λ p h. Forces.same _;
  met = λ p h m. m;
}

pub loop-next-preserved : goal.loop-next-preserved
loop-next-preserved c =
    let w = step-lighter _ c.args.self.now.acyclic (type_at c.args.self.now.types c.loop-next.found) (type_at c.args.self.now.types c.in-Some.next) c.in-Some.ensures.is in
    let i = c.loop-next.invariant.lighter in
    record {
      held = λ h. c.in-Some.ensures.held;
      same = λ f h. c.loop-next.invariant.same f h ∙ step-fits _ _ _ c.in-Some.ensures.is f h;
      in_bounds = λ h. step-below _ _ _ _ c.in-Some.ensures.is c.args.self.now.below;
      lighter = omega arith;
      forced = λ p h. Forces.along _ _ _ (c.loop-next.invariant.forced p h) (step-forced p _ _ _ c.in-Some.ensures.is h);
      met = λ p h m. step-met p _ _ _ c.in-Some.ensures.is h (c.loop-next.invariant.met p h m);
    }

pub loop-next-smaller : goal.loop-next-smaller
loop-next-smaller c = let w = step-lighter _ c.args.self.now.acyclic (type_at c.args.self.now.types c.loop-next.found) (type_at c.args.self.now.types c.in-Some.next) c.in-Some.ensures.is in omega arith
