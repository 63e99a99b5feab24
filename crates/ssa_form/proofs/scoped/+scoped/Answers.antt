use Rattle.std.proofs.Common.{map, take, ap, ◌∙◌}
use Rattle.first_tables.specs.TablesOf.{tables_of}
use Rattle.ssa_tree.specs.TreeOf.{step_of, arm_of}
use Rattle.ssa_form.specs.Labels.{labels_of}
use Rattle.ssa_form.specs.Scoped.{ArmScoped}
use Rattle.ssa_form.proofs.ScopedLemmas.{seen, next-scoped, next-after, next-labels, grew-more, all-mapped-more, all-mapped-ends, arm-scoped, body-scoped, switch-scoped, case-scoped, left-steps}
use Rattle.ssa_form.proofs.scoped.+scoped.Goals as goal

pub body_is_scoped-returns-in_ok-ends-in-Steps-clause-scoped : goal.body_is_scoped-returns-in_ok-ends-in-Steps-clause-scoped
body_is_scoped-returns-in_ok-ends-in-Steps-clause-scoped t c =
    body-scoped (tables_of c.args.tables.now) c.args.arities.now c.args.guarded c.args.body.now c.in-Steps.steps c.in-Steps.rest c.deref.result.now c.deref-in-Steps.result.now c.args.scope.now
    c.steps_are_scoped.new.scope (labels_of c.args.labels.now.items) (labels_of c.steps_are_scoped.new.labels.items) c.both.result c.in_ok-before-in-Steps.before c.in_ok-ends-in-Steps.ends
    c.in-Steps.is c.deref.ensures.value c.deref-in-Steps.ensures c.both.ensures c.in_ok-before-in-Steps.ensures.scoped c.in_ok-before-in-Steps.ensures.bound
    c.in_ok-before-in-Steps.ensures.labels c.in_ok-ends-in-Steps.ensures.scoped

pub body_is_scoped-returns-in_ok-ends-in-Steps-clause-kept : goal.body_is_scoped-returns-in_ok-ends-in-Steps-clause-kept
body_is_scoped-returns-in_ok-ends-in-Steps-clause-kept t c =
    left-steps (map step_of c.deref.result.now) c.args.scope.now c.body_is_scoped.new.scope c.truncate.new.self c.len-len.result c.len-len.ensures
    (c.in_ok-ends-in-Steps.ensures.kept ∙ c.in_ok-before-in-Steps.ensures.bound) c.truncate.ensures

pub steps_are_scoped-loop-i-preserved : goal.steps_are_scoped-loop-i-preserved
steps_are_scoped-loop-i-preserved t c =
    let more = seen step_of c.args.steps.now c.loop-i.i c.index-steps-i.result c.index-steps-i.result c.loop-i-test.true c.index-steps-i.is in
    record {
      scoped =
          next-scoped (tables_of c.args.tables.now) c.args.arities.now c.args.guarded (map step_of (take c.loop-i.i c.args.steps.now)) _ (step_of c.index-steps-i.result) c.args.scope.now c.loop-i.scope
          (labels_of c.args.labels.now.items) (labels_of c.loop-i.labels.items) c.both-all.result c.loop-i.all c.in_ok-here.here more c.both-all.ensures c.loop-i.invariant.scoped
          c.loop-i.invariant.bound c.loop-i.invariant.labels c.in_ok-here.ensures.scoped;
      bound =
          next-after (map step_of (take c.loop-i.i c.args.steps.now)) _ (step_of c.index-steps-i.result) c.args.scope.now c.loop-i.scope c.step_is_scoped.new.scope more
          c.loop-i.invariant.bound c.in_ok-here.ensures.bound;
      labels =
          next-labels (map step_of (take c.loop-i.i c.args.steps.now)) _ (step_of c.index-steps-i.result) (labels_of c.args.labels.now.items) (labels_of c.loop-i.labels.items)
          (labels_of c.step_is_scoped.new.labels.items) more c.loop-i.invariant.labels c.in_ok-here.ensures.labels;
      grew = grew-more c.args.labels.now.items c.loop-i.labels.items c.step_is_scoped.new.labels.items c.loop-i.invariant.grew c.in_ok-here.ensures.grew;
    }

pub arms_are_scoped-loop-i-preserved : goal.arms_are_scoped-loop-i-preserved
arms_are_scoped-loop-i-preserved t c = record {
  scoped =
      all-mapped-more (ArmScoped (tables_of c.args.tables.now) c.args.arities.now c.args.scope.now (labels_of c.args.labels.now.items) c.args.guarded) arm_of c.args.arms.now c.loop-i.i
      c.index-arms-i.result c.index-arms-i.result c.loop-i.all c.in_ok-here.here c.both-all.result c.loop-i-test.true c.index-arms-i.is c.loop-i.invariant.scoped
      (arm-scoped (tables_of c.args.tables.now) c.args.arities.now c.args.guarded c.args.scope.now c.loop-i.scope (labels_of c.args.labels.now.items) (labels_of c.loop-i.labels.items)
      c.index-arms-i.result c.in_ok-here.here c.loop-i.invariant.kept (ap labels_of c.loop-i.invariant.labels) c.in_ok-here.ensures.scoped)
      c.both-all.ensures;
  kept = c.in_ok-here.ensures.kept ∙ c.loop-i.invariant.kept;
  labels = c.in_ok-here.ensures.labels ∙ c.loop-i.invariant.labels;
}

pub arms_are_scoped-returns-clause-scoped : goal.arms_are_scoped-returns-clause-scoped
arms_are_scoped-returns-clause-scoped t c =
    all-mapped-ends (ArmScoped (tables_of c.args.tables.now) c.args.arities.now c.args.scope.now (labels_of c.args.labels.now.items) c.args.guarded) arm_of c.args.arms.now c.loop-i.i c.loop-i.all
    c.loop-i-test.false c.loop-i.invariant.scoped

pub body_is_scoped-returns-in_ok-ends-in-Switch-clause-scoped : goal.body_is_scoped-returns-in_ok-ends-in-Switch-clause-scoped
body_is_scoped-returns-in_ok-ends-in-Switch-clause-scoped t c =
    switch-scoped (tables_of c.args.tables.now) c.args.arities.now c.args.guarded c.in-Switch.cell c.in-Switch.arms c.in-Switch.last c.deref-in-Switch.result.now c.deref-in-Switch-2.result.now
    c.args.scope.now c.arms_are_scoped.new.scope (labels_of c.args.labels.now.items) (labels_of c.arms_are_scoped.new.labels.items) c.args.body.now c.has-here.result c.in_ok-fit-in-Switch.fit
    c.in_ok-ends-in-Switch.ends c.both-in-Switch.result c.both-in-Switch-2.result c.in-Switch.is c.deref-in-Switch.ensures.value c.deref-in-Switch-2.ensures c.has-here.ensures
    c.in_ok-fit-in-Switch.ensures.scoped c.in_ok-fit-in-Switch.ensures.kept (ap labels_of c.in_ok-fit-in-Switch.ensures.labels) c.in_ok-ends-in-Switch.ensures.scoped c.both-in-Switch.ensures
    c.both-in-Switch-2.ensures

pub step_is_scoped-returns-in_ok-ends-in-Case-clause-scoped : goal.step_is_scoped-returns-in_ok-ends-in-Case-clause-scoped
step_is_scoped-returns-in_ok-ends-in-Case-clause-scoped t c =
    case-scoped (tables_of c.args.tables.now) c.args.arities.now c.args.guarded c.in-Case.cell c.in-Case.others c.in-Case.last c.deref-in-Case.result.now c.deref-in-Case-2.result.now
    c.args.scope.now c.arms_are_scoped.new.scope (labels_of c.args.labels.now.items) (labels_of c.arms_are_scoped.new.labels.items) c.args.step.now c.in-Case.tag c.has-yes.result c.in_ok-fit-in-Case.fit
    c.in_ok-ends-in-Case.ends c.both-in-Case.result c.both-in-Case-2.result c.in-Case.is c.deref-in-Case.ensures.value c.deref-in-Case-2.ensures c.has-yes.ensures
    c.in_ok-fit-in-Case.ensures.scoped c.in_ok-fit-in-Case.ensures.kept (ap labels_of c.in_ok-fit-in-Case.ensures.labels) c.in_ok-ends-in-Case.ensures.scoped c.both-in-Case.ensures
    c.both-in-Case-2.ensures
