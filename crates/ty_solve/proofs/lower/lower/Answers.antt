use Rattle.std.proofs.Common.{◌≡◌, length, subst, ◌∙◌, arith}
use Rattle.ty_solve.specs.Said.{said}
use Rattle.ty_solve.specs.Limits.{limit_at}
use Rattle.ty_solve.specs.Lowering.{Lowering}
use Rattle.ty_solve.proofs.Turns.{none-left}
use Rattle.ty_solve.proofs.lower.lower.Goals as goal

pub loop-v-preserved : goal.loop-v-preserved
loop-v-preserved c = record {
  undone = c.in-Ok.ensures.undone ∙ c.loop-v.invariant.undone;
  same_length = c.in-Ok.ensures.same_length ∙ c.loop-v.invariant.same_length;
  lowering = λ p i g. c.in-Ok.ensures.lowers p _ i (subst (Lowering p (said c.args.s.now) (limit_at c.args.limits.now.items) (limit_at c.loop-v.limits.items)) c.in-Some.ensures.items (c.loop-v.invariant.lowering p i g));
}

pub returns-in-Err-clause-cause : goal.returns-in-Err-clause-cause
returns-in-Err-clause-cause c = λ p i g. c.in-Err.ensures.cause p _ i (subst (Lowering p (said c.args.s.now) (limit_at c.args.limits.now.items) (limit_at c.loop-v.limits.items)) c.in-Some.ensures.items (c.loop-v.invariant.lowering p i g))

pub returns-clause-lowers : goal.returns-clause-lowers
returns-clause-lowers c =
    let e : length c.loop-v.noted.items ≡ 0 = omega (arith, c.loop-v.noted.ok.0, c.in_default.ensures.cases.0) in
    λ p i g. subst (Lowering p (said c.args.s.now) (limit_at c.args.limits.now.items) (limit_at c.loop-v.limits.items)) (none-left c.loop-v.noted.items e) (c.loop-v.invariant.lowering p i g)
