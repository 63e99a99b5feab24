use Rattle.std.proofs.Common.{map, take, ◌∙◌}
use Rattle.first_tables.specs.TablesOf.{tables_of}
use Rattle.first_tree.specs.TreeOf.{step_of, arm_of, ArmTree}
use Rattle.ir_first.specs.WellFormed.{IsScoped}
use Rattle.first_known.proofs.Flags.{iff-along}
use Rattle.first_form.proofs.ScopedLemmas.{seen, next-scoped, next-after, all-mapped-more, all-mapped-ends, arm-scoped, arms-scoped, exp-scoped, left-steps}
use Rattle.first_form.proofs.scoped.+scoped.Goals as goal

pub exp_is_scoped-returns-in_ok-ends-in-Steps-clause-scoped : goal.exp_is_scoped-returns-in_ok-ends-in-Steps-clause-scoped
exp_is_scoped-returns-in_ok-ends-in-Steps-clause-scoped t c =
    exp-scoped (tables_of c.args.tables.now) c.args.arities.now c.args.e.now c.in-Steps.steps c.in-Steps.rest c.deref.result.now c.deref-in-Steps.result.now c.args.scope.now c.steps_are_scoped.new.scope
    c.both.result c.in_ok-before-in-Steps.before c.in_ok-ends-in-Steps.ends c.in-Steps.is c.deref.ensures.value c.deref-in-Steps.ensures c.both.ensures
    c.in_ok-before-in-Steps.ensures.scoped c.in_ok-before-in-Steps.ensures.bound c.in_ok-ends-in-Steps.ensures.scoped

pub exp_is_scoped-returns-in_ok-ends-in-Steps-clause-kept : goal.exp_is_scoped-returns-in_ok-ends-in-Steps-clause-kept
exp_is_scoped-returns-in_ok-ends-in-Steps-clause-kept t c =
    left-steps (map step_of c.deref.result.now) c.args.scope.now c.exp_is_scoped.new.scope c.truncate.new.self c.len-len.result c.len-len.ensures
    (c.in_ok-ends-in-Steps.ensures.kept ∙ c.in_ok-before-in-Steps.ensures.bound) c.truncate.ensures

pub steps_are_scoped-loop-i-preserved : goal.steps_are_scoped-loop-i-preserved
steps_are_scoped-loop-i-preserved t c =
    let more = seen step_of c.args.steps.now c.loop-i.i c.index-steps-i.result c.index-steps-i.result c.loop-i-test.true c.index-steps-i.is in
    record {
      scoped =
          next-scoped (tables_of c.args.tables.now) c.args.arities.now (map step_of (take c.loop-i.i c.args.steps.now)) _ (step_of c.index-steps-i.result) c.args.scope.now c.loop-i.scope
          c.both-all.result c.loop-i.all c.in_ok-here.here more c.both-all.ensures c.loop-i.invariant.scoped c.loop-i.invariant.bound c.in_ok-here.ensures.scoped;
      bound =
          next-after (map step_of (take c.loop-i.i c.args.steps.now)) _ (step_of c.index-steps-i.result) c.args.scope.now c.loop-i.scope c.step_is_scoped.new.scope more
          c.loop-i.invariant.bound c.in_ok-here.ensures.bound;
    }

pub arms_are_scoped-loop-i-preserved : goal.arms_are_scoped-loop-i-preserved
arms_are_scoped-loop-i-preserved t c = record {
  scoped =
      all-mapped-more (λ (a : ArmTree). IsScoped (tables_of c.args.tables.now) c.args.arities.now c.args.scope.now a.body) arm_of c.args.arms.now c.loop-i.i c.index-arms-i.result c.index-arms-i.result
      c.loop-i.all c.in_ok-here.here c.both-all.result c.loop-i-test.true c.index-arms-i.is c.loop-i.invariant.scoped
      (arm-scoped (tables_of c.args.tables.now) c.args.arities.now c.args.scope.now c.loop-i.scope c.index-arms-i.result c.in_ok-here.here c.loop-i.invariant.kept c.in_ok-here.ensures.scoped)
      c.both-all.ensures;
  kept = c.in_ok-here.ensures.kept ∙ c.loop-i.invariant.kept;
}

pub arms_are_scoped-returns-clause-scoped : goal.arms_are_scoped-returns-clause-scoped
arms_are_scoped-returns-clause-scoped t c =
    iff-along c.loop-i.all (arms-scoped (tables_of c.args.tables.now) c.args.arities.now c.args.scope.now (map arm_of c.args.arms.now))
    (all-mapped-ends (λ (a : ArmTree). IsScoped (tables_of c.args.tables.now) c.args.arities.now c.args.scope.now a.body) arm_of c.args.arms.now c.loop-i.i c.loop-i.all c.loop-i-test.false
    c.loop-i.invariant.scoped)
