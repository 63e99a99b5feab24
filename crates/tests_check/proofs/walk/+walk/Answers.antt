use Rattle.std.proofs.Common.{◌≡◌, ◌++◌, ◌∷◌, [], true, false, map, length, refl, sym, ap, ◌∙◌, subst, arith}
use Rattle.std.specs.Option.{option_map}
use Rattle.ty_table.specs.TypeAt.{type_at}
use Rattle.ir_poly.specs.Tests.{inst}
use Rattle.ir_tables.specs.Tables.{parameters_of, parameters_at}
use Rattle.ir_known.specs.declared.known.Known.TheVariants.{OfType}
use Rattle.ir_known.specs.Knows.{marks_of}
use Rattle.plain_tree.specs.TreeOf.{step_of, case_of, operation_of, exception_of, tree_of}
use Rattle.tests_check.specs.Reads.{reading}
use Rattle.tests_check.specs.Walk.{Names, IsExp, IsArm, IsFunction, function_made, block_made, handle_made}
use Rattle.tests_check.proofs.Names.{marks-many, none-known, not-yes}
use Rattle.tests_check.proofs.Lists.{each-more, each-at}
use Rattle.tests_check.proofs.Steps.{along-first, along-next, along-stops, along-all, back-to, grown-within, let-brings, let-refuses, exception-brings, exception-refuses, name-brings, name-refuses, counted-brings}
use Rattle.tests_check.proofs.Exps.{steps-fit, steps-misfit, steps-refused, exp-is, exp-was, arms-fit, fit-arms, first-fits, first-misfits, last-misfits, arm-fits, arm-misfits, case-misfits}
use Rattle.tests_check.proofs.Lets.{fn-fits, fn-unentered, fn-misfits, block-fits, block-misfits, handle-fits, tried-misfits, packet-known, handler-misfits, group-fits, group-misfits, group-brings, group-refuses, function-fits, function-was, test-brings, test-refuses}
use Rattle.tests_check.proofs.Rolls.{steps-are, ret-is, switch-is, first-is, miss-is, let-is, fn-is, block-is, handle-is, exception-is, name-is, group-is, test-is, counted-is, arm-case, arm-body, function-is}
use Rattle.tests_check.proofs.Groups.{function-type}
use Rattle.tests_check.proofs.Binding.{let-not-open, let-bound, let-not-general}
use Rattle.tests_check.proofs.Walking.{each-first, each-all, placed, placed-back, brings-at, refuses-at, ret-fits, ret-misfits, switch-fits, switch-misses, switch-atom, switch-arms, test-brings-at, case-at, function-over, since-same, since-grown, since-entered, since-packet}
use Rattle.tests_check.proofs.walk.+walk.Goals as goal

pub exp_fits-returns-then-not-brings-clause-no : goal.exp_fits-returns-then-not-brings-clause-no
exp_fits-returns-then-not-brings-clause-no t c = λ _. steps-refused c.args.tables.now c.args.misses (marks_of c.args.marks.now) c.args.scope.now c.args.e.now c.in-Steps.rest.value c.deref.result.now c.args.ty (steps-are (reading c.args.tables.now) c.args.e.now c.in-Steps.steps c.in-Steps.rest c.deref.result.now c.in-Steps.rest.value c.in-Steps.is c.deref.ensures.value refl)
    (c.in_ok-brings-in-Steps.ensures.no c.if-not-brings.true)

pub exp_fits-returns-in_ok-ends-in-Steps-clause-yes : goal.exp_fits-returns-in_ok-ends-in-Steps-clause-yes
exp_fits-returns-in_ok-ends-in-Steps-clause-yes t c = λ y. steps-fit c.args.tables.now c.args.misses (marks_of c.args.marks.now) (marks_of c.steps_bring.new.marks) c.args.scope.now c.steps_bring.new.scope c.args.e.now c.deref-in-Steps.result.now c.deref.result.now c.args.ty (steps-are (reading c.args.tables.now) c.args.e.now c.in-Steps.steps c.in-Steps.rest c.deref.result.now c.deref-in-Steps.result.now c.in-Steps.is c.deref.ensures.value c.deref-in-Steps.ensures)
    (c.in_ok-brings-in-Steps.ensures.marks c.if-not-brings.false) (c.in_ok-brings-in-Steps.ensures.yes c.if-not-brings.false) (c.in_ok-ends-in-Steps.ensures.yes y)

pub exp_fits-returns-in_ok-ends-in-Steps-clause-no : goal.exp_fits-returns-in_ok-ends-in-Steps-clause-no
exp_fits-returns-in_ok-ends-in-Steps-clause-no t c = λ n. steps-misfit c.args.tables.now c.args.misses (marks_of c.args.marks.now) (marks_of c.steps_bring.new.marks) c.args.scope.now c.steps_bring.new.scope c.args.e.now c.deref-in-Steps.result.now c.deref.result.now c.args.ty (steps-are (reading c.args.tables.now) c.args.e.now c.in-Steps.steps c.in-Steps.rest c.deref.result.now c.deref-in-Steps.result.now c.in-Steps.is c.deref.ensures.value c.deref-in-Steps.ensures)
    (c.in_ok-brings-in-Steps.ensures.marks c.if-not-brings.false) (c.in_ok-brings-in-Steps.ensures.yes c.if-not-brings.false) (c.in_ok-ends-in-Steps.ensures.no n)

pub exp_fits-returns-in_ok-ends-in-Steps-clause-marks : goal.exp_fits-returns-in_ok-ends-in-Steps-clause-marks
exp_fits-returns-in_ok-ends-in-Steps-clause-marks t c = λ y. c.in_ok-ends-in-Steps.ensures.marks y ∙ c.in_ok-brings-in-Steps.ensures.marks c.if-not-brings.false

pub exp_fits-returns-in_ok-ends-in-Steps-clause-scope : goal.exp_fits-returns-in_ok-ends-in-Steps-clause-scope
exp_fits-returns-in_ok-ends-in-Steps-clause-scope t c = λ y. let b = c.in_ok-brings-in-Steps.ensures.yes c.if-not-brings.false in
    back-to c.args.scope.now c.exp_fits.new.scope c.restore.new.self c.mark-place.result b.grows.added (grown-within c.args.scope.now c.steps_bring.new.scope c.exp_fits.new.scope b.grows (c.in_ok-ends-in-Steps.ensures.scope y)) c.mark-place.ensures.len c.mark-place.ensures.start c.restore.ensures

pub exp_fits-returns-in-Ret-clause-yes : goal.exp_fits-returns-in-Ret-clause-yes
exp_fits-returns-in-Ret-clause-yes t c = λ y. ret-fits c.args.tables.now c.args.misses (marks_of c.args.marks.now) c.args.scope.now c.args.e.now c.in-Ret.atom c.args.ty (ret-is (reading c.args.tables.now) c.args.e.now c.in-Ret.atom c.in-Ret.is) c.is_atom.result c.is_atom.ensures y

pub exp_fits-returns-in-Ret-clause-no : goal.exp_fits-returns-in-Ret-clause-no
exp_fits-returns-in-Ret-clause-no t c = λ n. ret-misfits c.args.tables.now c.args.misses (marks_of c.args.marks.now) c.args.scope.now c.args.e.now c.in-Ret.atom c.args.ty (ret-is (reading c.args.tables.now) c.args.e.now c.in-Ret.atom c.in-Ret.is) c.is_atom.result c.is_atom.ensures n

pub exp_fits-returns-then-not-misses-clause-no : goal.exp_fits-returns-then-not-misses-clause-no
exp_fits-returns-then-not-misses-clause-no t c = λ _. switch-misses c.args.tables.now c.args.misses (marks_of c.args.marks.now) c.args.scope.now c.args.e.now c.in-Switch.atom c.in-Switch.of c.in-Switch.arms.items c.args.ty (switch-is (reading c.args.tables.now) c.args.e.now c.in-Switch.atom c.in-Switch.of c.in-Switch.arms c.in-Switch.arms.items c.in-Switch.is refl) c.if-not-misses.true

pub exp_fits-returns-then-not-is_atom-clause-no : goal.exp_fits-returns-then-not-is_atom-clause-no
exp_fits-returns-then-not-is_atom-clause-no t c = λ _. switch-atom c.args.tables.now c.args.misses (marks_of c.args.marks.now) c.args.scope.now c.args.e.now c.in-Switch.atom c.in-Switch.of c.in-Switch.arms.items c.args.ty (switch-is (reading c.args.tables.now) c.args.e.now c.in-Switch.atom c.in-Switch.of c.in-Switch.arms c.in-Switch.arms.items c.in-Switch.is refl) c.is_atom-in-Switch.result c.is_atom-in-Switch.ensures c.if-not-is_atom.true

pub exp_fits-returns-in_ok-fit-in-Switch-clause-yes : goal.exp_fits-returns-in_ok-fit-in-Switch-clause-yes
exp_fits-returns-in_ok-fit-in-Switch-clause-yes t c = λ y. switch-fits c.args.tables.now c.args.misses (marks_of c.args.marks.now) c.args.scope.now c.args.e.now c.in-Switch.atom c.in-Switch.of c.deref-in-Switch.result.now c.args.ty (switch-is (reading c.args.tables.now) c.args.e.now c.in-Switch.atom c.in-Switch.of c.in-Switch.arms c.deref-in-Switch.result.now c.in-Switch.is c.deref-in-Switch.ensures.value) c.if-not-misses.false (c.is_atom-in-Switch.ensures.0 c.if-not-is_atom.false) (c.in_ok-fit-in-Switch.ensures.yes y)

pub exp_fits-returns-in_ok-fit-in-Switch-clause-no : goal.exp_fits-returns-in_ok-fit-in-Switch-clause-no
exp_fits-returns-in_ok-fit-in-Switch-clause-no t c = λ n. switch-arms c.args.tables.now c.args.misses (marks_of c.args.marks.now) c.args.scope.now c.args.e.now c.in-Switch.atom c.in-Switch.of c.deref-in-Switch.result.now c.args.ty (switch-is (reading c.args.tables.now) c.args.e.now c.in-Switch.atom c.in-Switch.of c.in-Switch.arms c.deref-in-Switch.result.now c.in-Switch.is c.deref-in-Switch.ensures.value) (c.in_ok-fit-in-Switch.ensures.no n)

pub exp_fits-returns-then-not-tried-clause-no : goal.exp_fits-returns-then-not-tried-clause-no
exp_fits-returns-then-not-tried-clause-no t c = λ _. first-misfits c.args.tables.now c.args.misses (marks_of c.args.marks.now) c.args.scope.now c.args.e.now c.in-First.last.value c.deref-in-First.result.now c.args.ty (first-is (reading c.args.tables.now) c.args.e.now c.in-First.attempts c.in-First.last c.deref-in-First.result.now c.in-First.last.value c.in-First.is c.deref-in-First.ensures.value refl) (c.in_ok-tried-in-First.ensures.no c.if-not-tried.true)

pub exp_fits-returns-in_ok-ends-in-First-clause-yes : goal.exp_fits-returns-in_ok-ends-in-First-clause-yes
exp_fits-returns-in_ok-ends-in-First-clause-yes t c = λ y. first-fits c.args.tables.now c.args.misses (marks_of c.args.marks.now) (marks_of c.attempts_fit.new.marks) c.args.scope.now c.attempts_fit.new.scope c.args.e.now c.deref-in-First-2.result.now c.deref-in-First.result.now c.args.ty (first-is (reading c.args.tables.now) c.args.e.now c.in-First.attempts c.in-First.last c.deref-in-First.result.now c.deref-in-First-2.result.now c.in-First.is c.deref-in-First.ensures.value c.deref-in-First-2.ensures)
    (c.in_ok-tried-in-First.ensures.marks c.if-not-tried.false) (c.in_ok-tried-in-First.ensures.scope c.if-not-tried.false) (c.in_ok-tried-in-First.ensures.yes c.if-not-tried.false) (c.in_ok-ends-in-First.ensures.yes y)

pub exp_fits-returns-in_ok-ends-in-First-clause-no : goal.exp_fits-returns-in_ok-ends-in-First-clause-no
exp_fits-returns-in_ok-ends-in-First-clause-no t c = λ n. last-misfits c.args.tables.now c.args.misses (marks_of c.args.marks.now) (marks_of c.attempts_fit.new.marks) c.args.scope.now c.attempts_fit.new.scope c.args.e.now c.deref-in-First-2.result.now c.deref-in-First.result.now c.args.ty (first-is (reading c.args.tables.now) c.args.e.now c.in-First.attempts c.in-First.last c.deref-in-First.result.now c.deref-in-First-2.result.now c.in-First.is c.deref-in-First.ensures.value c.deref-in-First-2.ensures)
    (c.in_ok-tried-in-First.ensures.marks c.if-not-tried.false) (c.in_ok-tried-in-First.ensures.scope c.if-not-tried.false) (c.in_ok-ends-in-First.ensures.no n)

pub exp_fits-returns-in_ok-ends-in-First-clause-marks : goal.exp_fits-returns-in_ok-ends-in-First-clause-marks
exp_fits-returns-in_ok-ends-in-First-clause-marks t c = λ y. c.in_ok-ends-in-First.ensures.marks y ∙ c.in_ok-tried-in-First.ensures.marks c.if-not-tried.false

pub exp_fits-returns-in_ok-ends-in-First-clause-scope : goal.exp_fits-returns-in_ok-ends-in-First-clause-scope
exp_fits-returns-in_ok-ends-in-First-clause-scope t c = λ y. c.in_ok-ends-in-First.ensures.scope y ∙ c.in_ok-tried-in-First.ensures.scope c.if-not-tried.false

pub exp_fits-returns-in-Miss-clause-yes : goal.exp_fits-returns-in-Miss-clause-yes
exp_fits-returns-in-Miss-clause-yes t c = λ y. exp-is c.args.tables.now c.args.misses (marks_of c.args.marks.now) c.args.scope.now c.args.e.now _ c.args.ty (miss-is (reading c.args.tables.now) c.args.e.now c.in-Miss.is) y

pub exp_fits-returns-in-Miss-clause-no : goal.exp_fits-returns-in-Miss-clause-no
exp_fits-returns-in-Miss-clause-no t c = λ n p. not-yes n (exp-was c.args.tables.now c.args.misses (marks_of c.args.marks.now) c.args.scope.now c.args.e.now _ c.args.ty (miss-is (reading c.args.tables.now) c.args.e.now c.in-Miss.is) p)

pub attempts_fit-loop-i-init : goal.attempts_fit-loop-i-init
attempts_fit-loop-i-init t c = record { each = each-first (λ e. IsExp c.args.tables.now true (marks_of c.args.marks.now) c.args.scope.now e c.args.ty) c.args.attempts.now; marks = refl; scope = refl }

pub attempts_fit-loop-i-preserved : goal.attempts_fit-loop-i-preserved
attempts_fit-loop-i-preserved t c = record {
  each = each-more (λ e. IsExp c.args.tables.now true (marks_of c.args.marks.now) c.args.scope.now e c.args.ty) c.args.attempts.now c.loop-i.i c.index-attempts-i.result c.loop-i-test.true c.index-attempts-i.is c.loop-i.invariant.each
      (placed (λ D s. IsExp c.args.tables.now true D s c.index-attempts-i.result c.args.ty) c.loop-i.invariant.marks c.loop-i.invariant.scope (c.in_ok-yes.ensures.yes c.if-not-yes.false));
  marks = c.in_ok-yes.ensures.marks c.if-not-yes.false ∙ c.loop-i.invariant.marks;
  scope = c.in_ok-yes.ensures.scope c.if-not-yes.false ∙ c.loop-i.invariant.scope;
}

pub attempts_fit-returns-then-not-yes-clause-no : goal.attempts_fit-returns-then-not-yes-clause-no
attempts_fit-returns-then-not-yes-clause-no t c = λ _ ps. c.in_ok-yes.ensures.no c.if-not-yes.true
    (placed-back (λ D s. IsExp c.args.tables.now true D s c.index-attempts-i.result c.args.ty) c.loop-i.invariant.marks c.loop-i.invariant.scope (each-at (λ e. IsExp c.args.tables.now true (marks_of c.args.marks.now) c.args.scope.now e c.args.ty) c.args.attempts.now c.loop-i.i c.index-attempts-i.result c.loop-i-test.true c.index-attempts-i.is ps))

pub attempts_fit-returns-clause-yes : goal.attempts_fit-returns-clause-yes
attempts_fit-returns-clause-yes t c = λ _. let n : c.loop-i.i ≡ length c.args.attempts.now = omega arith in each-all (λ e. IsExp c.args.tables.now true (marks_of c.args.marks.now) c.args.scope.now e c.args.ty) c.args.attempts.now c.loop-i.i n c.loop-i.invariant.each

pub attempts_fit-returns-clause-marks : goal.attempts_fit-returns-clause-marks
attempts_fit-returns-clause-marks t c = λ _. c.loop-i.invariant.marks

pub attempts_fit-returns-clause-scope : goal.attempts_fit-returns-clause-scope
attempts_fit-returns-clause-scope t c = λ _. c.loop-i.invariant.scope

pub arms_fit-loop-i-init : goal.arms_fit-loop-i-init
arms_fit-loop-i-init t c = record { each = each-first (IsArm c.args.tables.now (marks_of c.args.marks.now) c.args.scope.now c.args.of c.args.ty) c.args.arms.now; marks = refl; scope = refl }

pub arms_fit-loop-i-preserved : goal.arms_fit-loop-i-preserved
arms_fit-loop-i-preserved t c = record {
  each = each-more (IsArm c.args.tables.now (marks_of c.args.marks.now) c.args.scope.now c.args.of c.args.ty) c.args.arms.now c.loop-i.i c.index-arms-i.result c.loop-i-test.true c.index-arms-i.is c.loop-i.invariant.each
      (placed (λ D s. IsArm c.args.tables.now D s c.args.of c.args.ty c.index-arms-i.result) c.loop-i.invariant.marks c.loop-i.invariant.scope (c.in_ok-yes.ensures.yes c.if-not-yes.false));
  marks = c.in_ok-yes.ensures.marks c.if-not-yes.false ∙ c.loop-i.invariant.marks;
  scope = c.in_ok-yes.ensures.scope c.if-not-yes.false ∙ c.loop-i.invariant.scope;
}

pub arms_fit-returns-then-not-yes-clause-no : goal.arms_fit-returns-then-not-yes-clause-no
arms_fit-returns-then-not-yes-clause-no t c = λ _ ps. c.in_ok-yes.ensures.no c.if-not-yes.true
    (placed-back (λ D s. IsArm c.args.tables.now D s c.args.of c.args.ty c.index-arms-i.result) c.loop-i.invariant.marks c.loop-i.invariant.scope (each-at (IsArm c.args.tables.now (marks_of c.args.marks.now) c.args.scope.now c.args.of c.args.ty) c.args.arms.now c.loop-i.i c.index-arms-i.result c.loop-i-test.true c.index-arms-i.is ps))

pub arms_fit-returns-clause-yes : goal.arms_fit-returns-clause-yes
arms_fit-returns-clause-yes t c = λ _. let n : c.loop-i.i ≡ length c.args.arms.now = omega arith in each-all (IsArm c.args.tables.now (marks_of c.args.marks.now) c.args.scope.now c.args.of c.args.ty) c.args.arms.now c.loop-i.i n c.loop-i.invariant.each

pub arms_fit-returns-clause-marks : goal.arms_fit-returns-clause-marks
arms_fit-returns-clause-marks t c = λ _. c.loop-i.invariant.marks

pub arms_fit-returns-clause-scope : goal.arms_fit-returns-clause-scope
arms_fit-returns-clause-scope t c = λ _. c.loop-i.invariant.scope

pub functions_fit-loop-i-init : goal.functions_fit-loop-i-init
functions_fit-loop-i-init t c = record { each = each-first (IsFunction c.args.tables.now (marks_of c.args.marks.now) c.args.scope.now) c.args.functions.now; marks = refl; scope = refl }

pub functions_fit-loop-i-preserved : goal.functions_fit-loop-i-preserved
functions_fit-loop-i-preserved t c = record {
  each = each-more (IsFunction c.args.tables.now (marks_of c.args.marks.now) c.args.scope.now) c.args.functions.now c.loop-i.i c.index-functions-i.result c.loop-i-test.true c.index-functions-i.is c.loop-i.invariant.each
      (placed (λ D s. IsFunction c.args.tables.now D s c.index-functions-i.result) c.loop-i.invariant.marks c.loop-i.invariant.scope (c.in_ok-yes.ensures.yes c.if-not-yes.false));
  marks = c.in_ok-yes.ensures.marks c.if-not-yes.false ∙ c.loop-i.invariant.marks;
  scope = c.in_ok-yes.ensures.scope c.if-not-yes.false ∙ c.loop-i.invariant.scope;
}

pub functions_fit-returns-then-not-yes-clause-no : goal.functions_fit-returns-then-not-yes-clause-no
functions_fit-returns-then-not-yes-clause-no t c = λ _ ps. c.in_ok-yes.ensures.no c.if-not-yes.true
    (placed-back (λ D s. IsFunction c.args.tables.now D s c.index-functions-i.result) c.loop-i.invariant.marks c.loop-i.invariant.scope (each-at (IsFunction c.args.tables.now (marks_of c.args.marks.now) c.args.scope.now) c.args.functions.now c.loop-i.i c.index-functions-i.result c.loop-i-test.true c.index-functions-i.is ps))

pub functions_fit-returns-clause-yes : goal.functions_fit-returns-clause-yes
functions_fit-returns-clause-yes t c = λ _. let n : c.loop-i.i ≡ length c.args.functions.now = omega arith in each-all (IsFunction c.args.tables.now (marks_of c.args.marks.now) c.args.scope.now) c.args.functions.now c.loop-i.i n c.loop-i.invariant.each

pub functions_fit-returns-clause-marks : goal.functions_fit-returns-clause-marks
functions_fit-returns-clause-marks t c = λ _. c.loop-i.invariant.marks

pub functions_fit-returns-clause-scope : goal.functions_fit-returns-clause-scope
functions_fit-returns-clause-scope t c = λ _. c.loop-i.invariant.scope

pub arm_fits-returns-then-not-opens-clause-no : goal.arm_fits-returns-then-not-opens-clause-no
arm_fits-returns-then-not-opens-clause-no t c = λ _. case-misfits c.args.tables.now (marks_of c.args.marks.now) c.args.scope.now c.args.of c.args.ty c.args.arm.now (case_of (reading c.args.tables.now) c.args.arm.now.case) (arm-case (reading c.args.tables.now) c.args.arm.now) (c.in_ok-opens.ensures.no c.if-not-opens.true)

pub arm_fits-returns-clause-yes : goal.arm_fits-returns-clause-yes
arm_fits-returns-clause-yes t c = λ y. arm-fits c.args.tables.now (marks_of c.args.marks.now) (marks_of c.args.marks.now) c.args.scope.now c.bind_case.new.scope c.args.of c.args.ty c.args.arm.now c.args.arm.now.body (case_of (reading c.args.tables.now) c.args.arm.now.case) (arm-case (reading c.args.tables.now) c.args.arm.now) (arm-body (reading c.args.tables.now) c.args.arm.now) refl (c.in_ok-opens.ensures.yes c.if-not-opens.false) (c.in_ok-ends.ensures.yes y)

pub arm_fits-returns-clause-no : goal.arm_fits-returns-clause-no
arm_fits-returns-clause-no t c = λ n. arm-misfits c.args.tables.now (marks_of c.args.marks.now) (marks_of c.args.marks.now) c.args.scope.now c.bind_case.new.scope c.args.of c.args.ty c.args.arm.now c.args.arm.now.body (case_of (reading c.args.tables.now) c.args.arm.now.case) (arm-case (reading c.args.tables.now) c.args.arm.now) (arm-body (reading c.args.tables.now) c.args.arm.now) refl (c.in_ok-opens.ensures.yes c.if-not-opens.false) (c.in_ok-ends.ensures.no n)

pub arm_fits-returns-clause-scope : goal.arm_fits-returns-clause-scope
arm_fits-returns-clause-scope t c = λ y. let o = c.in_ok-opens.ensures.yes c.if-not-opens.false in
    back-to c.args.scope.now c.exp_fits.new.scope c.restore.new.self c.mark-place.result o.grows.added (grown-within c.args.scope.now c.bind_case.new.scope c.exp_fits.new.scope o.grows (c.in_ok-ends.ensures.scope y)) c.mark-place.ensures.len c.mark-place.ensures.start c.restore.ensures

pub steps_bring-loop-i-init : goal.steps_bring-loop-i-init
steps_bring-loop-i-init t c = record { along = along-first c.args.tables.now c.args.misses (marks_of c.args.marks.now) c.args.ty c.args.scope.now (map (step_of (reading c.args.tables.now)) c.args.steps.now); marks = refl }

pub steps_bring-loop-i-preserved : goal.steps_bring-loop-i-preserved
steps_bring-loop-i-preserved t c = record {
  along = along-next (step_of (reading c.args.tables.now)) c.args.tables.now c.args.misses (marks_of c.args.marks.now) c.args.ty c.args.scope.now c.loop-i.scope c.step_brings.new.scope c.args.steps.now c.index-steps-i.result c.loop-i.i c.loop-i-test.true c.index-steps-i.is c.loop-i.invariant.along
      (brings-at c.args.tables.now c.args.misses c.args.ty c.loop-i.scope c.step_brings.new.scope c.loop-i.invariant.marks (c.in_ok-brings.ensures.yes c.if-not-brings.false));
  marks = c.in_ok-brings.ensures.marks c.if-not-brings.false ∙ c.loop-i.invariant.marks;
}

pub steps_bring-returns-then-not-brings-clause-no : goal.steps_bring-returns-then-not-brings-clause-no
steps_bring-returns-then-not-brings-clause-no t c = λ _. along-stops (step_of (reading c.args.tables.now)) c.args.tables.now c.args.misses (marks_of c.args.marks.now) c.args.ty c.args.scope.now c.loop-i.scope c.args.steps.now c.index-steps-i.result c.loop-i.i c.loop-i-test.true c.index-steps-i.is c.loop-i.invariant.along
    (refuses-at c.args.tables.now c.args.misses c.args.ty c.loop-i.scope c.loop-i.invariant.marks (c.in_ok-brings.ensures.no c.if-not-brings.true))

pub steps_bring-returns-clause-yes : goal.steps_bring-returns-clause-yes
steps_bring-returns-clause-yes t c = λ _. let n : c.loop-i.i ≡ length c.args.steps.now = omega arith in along-all (step_of (reading c.args.tables.now)) c.args.tables.now c.args.misses (marks_of c.args.marks.now) c.args.ty c.args.scope.now c.loop-i.scope c.args.steps.now c.loop-i.i n c.loop-i.invariant.along

pub steps_bring-returns-clause-marks : goal.steps_bring-returns-clause-marks
steps_bring-returns-clause-marks t c = λ _. c.loop-i.invariant.marks

pub step_brings-returns-in_ok-yes-in-Let-clause-yes : goal.step_brings-returns-in_ok-yes-in-Let-clause-yes
step_brings-returns-in_ok-yes-in-Let-clause-yes t c = λ y. let-brings c.args.tables.now c.args.misses (marks_of c.args.marks.now) c.args.ty c.args.scope.now c.operation_brings.new.scope c.in-Let.binding (operation_of (reading c.args.tables.now) c.in-Let.operation) (step_of (reading c.args.tables.now) c.args.step.now) (let-is (reading c.args.tables.now) c.args.step.now c.in-Let.binding c.in-Let.operation c.in-Let.is) (c.in_ok-yes-in-Let.ensures.yes y) (c.in_ok-yes-in-Let.ensures.bound y)

pub step_brings-returns-in_ok-yes-in-Let-clause-no : goal.step_brings-returns-in_ok-yes-in-Let-clause-no
step_brings-returns-in_ok-yes-in-Let-clause-no t c = λ n. let-refuses c.args.tables.now c.args.misses (marks_of c.args.marks.now) c.args.ty c.args.scope.now c.args.scope.now c.in-Let.binding (operation_of (reading c.args.tables.now) c.in-Let.operation) (step_of (reading c.args.tables.now) c.args.step.now) (let-is (reading c.args.tables.now) c.args.step.now c.in-Let.binding c.in-Let.operation c.in-Let.is) (c.in_ok-yes-in-Let.ensures.no n)

pub step_brings-returns-in_ok-yes-in-Fn-clause-yes : goal.step_brings-returns-in_ok-yes-in-Fn-clause-yes
step_brings-returns-in_ok-yes-in-Fn-clause-yes t c = λ y. let-brings c.args.tables.now c.args.misses (marks_of c.args.marks.now) c.args.ty c.args.scope.now c.fn_brings.new.scope c.in-Fn.binding (function_made c.args.tables.now c.deref-in-Fn.result.now c.in-Fn.last c.deref.result.now) (step_of (reading c.args.tables.now) c.args.step.now) (fn-is (reading c.args.tables.now) c.args.step.now c.in-Fn.binding c.in-Fn.parameters c.in-Fn.last c.in-Fn.body c.deref-in-Fn.result.now c.deref.result.now c.in-Fn.is c.deref-in-Fn.ensures.value c.deref.ensures) (c.in_ok-yes-in-Fn.ensures.yes y) (c.in_ok-yes-in-Fn.ensures.bound y)

pub step_brings-returns-in_ok-yes-in-Fn-clause-no : goal.step_brings-returns-in_ok-yes-in-Fn-clause-no
step_brings-returns-in_ok-yes-in-Fn-clause-no t c = λ n. let-refuses c.args.tables.now c.args.misses (marks_of c.args.marks.now) c.args.ty c.args.scope.now c.args.scope.now c.in-Fn.binding (function_made c.args.tables.now c.deref-in-Fn.result.now c.in-Fn.last c.deref.result.now) (step_of (reading c.args.tables.now) c.args.step.now) (fn-is (reading c.args.tables.now) c.args.step.now c.in-Fn.binding c.in-Fn.parameters c.in-Fn.last c.in-Fn.body c.deref-in-Fn.result.now c.deref.result.now c.in-Fn.is c.deref-in-Fn.ensures.value c.deref.ensures) (c.in_ok-yes-in-Fn.ensures.no n)

pub step_brings-returns-in_ok-yes-in-Block-clause-yes : goal.step_brings-returns-in_ok-yes-in-Block-clause-yes
step_brings-returns-in_ok-yes-in-Block-clause-yes t c = λ y. let-brings c.args.tables.now c.args.misses (marks_of c.args.marks.now) c.args.ty c.args.scope.now c.block_brings.new.scope c.in-Block.binding (block_made c.args.tables.now c.deref-in-Block.result.now) (step_of (reading c.args.tables.now) c.args.step.now) (block-is (reading c.args.tables.now) c.args.step.now c.in-Block.binding c.in-Block.body c.deref-in-Block.result.now c.in-Block.is c.deref-in-Block.ensures) (c.in_ok-yes-in-Block.ensures.yes y) (c.in_ok-yes-in-Block.ensures.bound y)

pub step_brings-returns-in_ok-yes-in-Block-clause-no : goal.step_brings-returns-in_ok-yes-in-Block-clause-no
step_brings-returns-in_ok-yes-in-Block-clause-no t c = λ n. let-refuses c.args.tables.now c.args.misses (marks_of c.args.marks.now) c.args.ty c.args.scope.now c.args.scope.now c.in-Block.binding (block_made c.args.tables.now c.deref-in-Block.result.now) (step_of (reading c.args.tables.now) c.args.step.now) (block-is (reading c.args.tables.now) c.args.step.now c.in-Block.binding c.in-Block.body c.deref-in-Block.result.now c.in-Block.is c.deref-in-Block.ensures) (c.in_ok-yes-in-Block.ensures.no n)

pub step_brings-returns-in_ok-yes-in-Exception-clause-yes : goal.step_brings-returns-in_ok-yes-in-Exception-clause-yes
step_brings-returns-in_ok-yes-in-Exception-clause-yes t c = λ y. exception-brings c.args.tables.now c.args.misses (marks_of c.args.marks.now) c.args.ty c.args.scope.now c.exception_brings.new.scope c.in-Exception.variable c.in-Exception.identifier (option_map (type_at c.args.tables.now.types) c.in-Exception.argument) (step_of (reading c.args.tables.now) c.args.step.now) (exception-is (reading c.args.tables.now) c.args.step.now c.in-Exception.variable c.in-Exception.identifier c.in-Exception.argument c.in-Exception.is) (c.in_ok-yes-in-Exception.ensures.argument y) (c.in_ok-yes-in-Exception.ensures.new y) (c.in_ok-yes-in-Exception.ensures.bound y)

pub step_brings-returns-in_ok-yes-in-Exception-clause-no : goal.step_brings-returns-in_ok-yes-in-Exception-clause-no
step_brings-returns-in_ok-yes-in-Exception-clause-no t c = λ n. exception-refuses c.args.tables.now c.args.misses (marks_of c.args.marks.now) c.args.ty c.args.scope.now c.args.scope.now c.in-Exception.variable c.in-Exception.identifier (option_map (type_at c.args.tables.now.types) c.in-Exception.argument) (step_of (reading c.args.tables.now) c.args.step.now) (exception-is (reading c.args.tables.now) c.args.step.now c.in-Exception.variable c.in-Exception.identifier c.in-Exception.argument c.in-Exception.is) (c.in_ok-yes-in-Exception.ensures.no n)

pub step_brings-returns-in_ok-yes-in-Name-clause-yes : goal.step_brings-returns-in_ok-yes-in-Name-clause-yes
step_brings-returns-in_ok-yes-in-Name-clause-yes t c = λ y. name-brings c.args.tables.now c.args.misses (marks_of c.args.marks.now) c.args.ty c.args.scope.now c.name_brings.new.scope c.in-Name.variable (exception_of (reading c.args.tables.now) c.in-Name.named) (step_of (reading c.args.tables.now) c.args.step.now) (name-is (reading c.args.tables.now) c.args.step.now c.in-Name.variable c.in-Name.named c.in-Name.is) (c.in_ok-yes-in-Name.ensures.yes y)

pub step_brings-returns-in_ok-yes-in-Name-clause-no : goal.step_brings-returns-in_ok-yes-in-Name-clause-no
step_brings-returns-in_ok-yes-in-Name-clause-no t c = λ n. name-refuses c.args.tables.now c.args.misses (marks_of c.args.marks.now) c.args.ty c.args.scope.now c.args.scope.now c.in-Name.variable (exception_of (reading c.args.tables.now) c.in-Name.named) (step_of (reading c.args.tables.now) c.args.step.now) (name-is (reading c.args.tables.now) c.args.step.now c.in-Name.variable c.in-Name.named c.in-Name.is) (c.in_ok-yes-in-Name.ensures.no n)

pub step_brings-returns-in_ok-yes-in-Group-clause-yes : goal.step_brings-returns-in_ok-yes-in-Group-clause-yes
step_brings-returns-in_ok-yes-in-Group-clause-yes t c = λ y. group-brings c.args.tables.now c.args.misses (marks_of c.args.marks.now) c.args.ty c.args.scope.now c.group_brings.new.scope c.in-Group.parameters c.deref-in-Group.result.now (step_of (reading c.args.tables.now) c.args.step.now) (group-is (reading c.args.tables.now) c.args.step.now c.in-Group.parameters c.in-Group.functions c.deref-in-Group.result.now c.in-Group.is c.deref-in-Group.ensures.value) (c.in_ok-yes-in-Group.ensures.yes y) (c.in_ok-yes-in-Group.ensures.bound y)

pub step_brings-returns-in_ok-yes-in-Group-clause-no : goal.step_brings-returns-in_ok-yes-in-Group-clause-no
step_brings-returns-in_ok-yes-in-Group-clause-no t c = λ n. group-refuses c.args.tables.now c.args.misses (marks_of c.args.marks.now) c.args.ty c.args.scope.now c.in-Group.parameters c.deref-in-Group.result.now (step_of (reading c.args.tables.now) c.args.step.now) (group-is (reading c.args.tables.now) c.args.step.now c.in-Group.parameters c.in-Group.functions c.deref-in-Group.result.now c.in-Group.is c.deref-in-Group.ensures.value) (c.in_ok-yes-in-Group.ensures.no n)

pub step_brings-returns-then-not-misses-clause-no : goal.step_brings-returns-then-not-misses-clause-no
step_brings-returns-then-not-misses-clause-no t c = λ _. test-refuses c.args.tables.now c.args.misses (marks_of c.args.marks.now) c.args.ty c.args.scope.now c.in-Test.atom c.in-Test.of (case_of (reading c.args.tables.now) c.in-Test.case) c.in-Test.others.items (step_of (reading c.args.tables.now) c.args.step.now) (test-is (reading c.args.tables.now) c.args.step.now c.in-Test.atom c.in-Test.of c.in-Test.case c.in-Test.others c.in-Test.others.items c.in-Test.is refl) (λ m _ _ _. not-yes c.if-not-misses.true m)

pub step_brings-returns-then-not-is_atom-clause-no : goal.step_brings-returns-then-not-is_atom-clause-no
step_brings-returns-then-not-is_atom-clause-no t c = λ _. test-refuses c.args.tables.now c.args.misses (marks_of c.args.marks.now) c.args.ty c.args.scope.now c.in-Test.atom c.in-Test.of (case_of (reading c.args.tables.now) c.in-Test.case) c.in-Test.others.items (step_of (reading c.args.tables.now) c.args.step.now) (test-is (reading c.args.tables.now) c.args.step.now c.in-Test.atom c.in-Test.of c.in-Test.case c.in-Test.others c.in-Test.others.items c.in-Test.is refl) (λ _ a _ _. not-yes c.if-not-is_atom.true (c.is_atom.ensures.1 a))

pub step_brings-returns-then-not-fit-clause-no : goal.step_brings-returns-then-not-fit-clause-no
step_brings-returns-then-not-fit-clause-no t c = λ _. test-refuses c.args.tables.now c.args.misses (marks_of c.args.marks.now) c.args.ty c.args.scope.now c.in-Test.atom c.in-Test.of (case_of (reading c.args.tables.now) c.in-Test.case) c.deref-in-Test.result.now (step_of (reading c.args.tables.now) c.args.step.now) (test-is (reading c.args.tables.now) c.args.step.now c.in-Test.atom c.in-Test.of c.in-Test.case c.in-Test.others c.deref-in-Test.result.now c.in-Test.is c.deref-in-Test.ensures.value) (λ _ _ p _. c.in_ok-fit-in-Test.ensures.no c.if-not-fit.true p)

pub step_brings-returns-in_ok-opens-in-Test-clause-yes : goal.step_brings-returns-in_ok-opens-in-Test-clause-yes
step_brings-returns-in_ok-opens-in-Test-clause-yes t c = λ y. test-brings-at c.args.tables.now c.args.misses (marks_of c.args.marks.now) (marks_of c.arms_fit.new.marks) c.args.ty c.args.scope.now c.arms_fit.new.scope c.bind_case.new.scope c.in-Test.atom c.in-Test.of (case_of (reading c.args.tables.now) c.in-Test.case) c.deref-in-Test.result.now (step_of (reading c.args.tables.now) c.args.step.now) (test-is (reading c.args.tables.now) c.args.step.now c.in-Test.atom c.in-Test.of c.in-Test.case c.in-Test.others c.deref-in-Test.result.now c.in-Test.is c.deref-in-Test.ensures.value) c.if-not-misses.false (c.is_atom.ensures.0 c.if-not-is_atom.false)
    (c.in_ok-fit-in-Test.ensures.yes c.if-not-fit.false) (c.in_ok-fit-in-Test.ensures.scope c.if-not-fit.false) (c.in_ok-fit-in-Test.ensures.marks c.if-not-fit.false) (c.in_ok-opens-in-Test.ensures.yes y)

pub step_brings-returns-in_ok-opens-in-Test-clause-no : goal.step_brings-returns-in_ok-opens-in-Test-clause-no
step_brings-returns-in_ok-opens-in-Test-clause-no t c = λ n. test-refuses c.args.tables.now c.args.misses (marks_of c.args.marks.now) c.args.ty c.args.scope.now c.in-Test.atom c.in-Test.of (case_of (reading c.args.tables.now) c.in-Test.case) c.deref-in-Test.result.now (step_of (reading c.args.tables.now) c.args.step.now) (test-is (reading c.args.tables.now) c.args.step.now c.in-Test.atom c.in-Test.of c.in-Test.case c.in-Test.others c.deref-in-Test.result.now c.in-Test.is c.deref-in-Test.ensures.value) (λ _ _ _ p. c.in_ok-opens-in-Test.ensures.no n (case-at c.args.tables.now (marks_of c.args.marks.now) (marks_of c.arms_fit.new.marks) c.args.scope.now c.arms_fit.new.scope (case_of (reading c.args.tables.now) c.in-Test.case) c.in-Test.of (c.in_ok-fit-in-Test.ensures.marks c.if-not-fit.false) (c.in_ok-fit-in-Test.ensures.scope c.if-not-fit.false) p))

pub step_brings-returns-in_ok-opens-in-Test-clause-marks : goal.step_brings-returns-in_ok-opens-in-Test-clause-marks
step_brings-returns-in_ok-opens-in-Test-clause-marks t c = λ _. c.in_ok-fit-in-Test.ensures.marks c.if-not-fit.false

pub step_brings-returns-in-Counted-clause-yes : goal.step_brings-returns-in-Counted-clause-yes
step_brings-returns-in-Counted-clause-yes t c = λ _. counted-brings c.args.tables.now c.args.misses (marks_of c.args.marks.now) c.args.ty c.args.scope.now c.in-Counted.field-0 (step_of (reading c.args.tables.now) c.args.step.now) (counted-is (reading c.args.tables.now) c.args.step.now c.in-Counted.field-0 c.in-Counted.is)

pub fn_brings-returns-then-not-opens-clause-no : goal.fn_brings-returns-then-not-opens-clause-no
fn_brings-returns-then-not-opens-clause-no t c = λ _. let-not-open c.args.tables.now (marks_of c.args.marks.now) c.args.scope.now c.args.binding (function_made c.args.tables.now c.args.parameters.now c.args.last c.args.body.now) (c.in_ok-opens.ensures.no c.if-not-opens.true)

pub fn_brings-returns-in-None-clause-no : goal.fn_brings-returns-in-None-clause-no
fn_brings-returns-in-None-clause-no t c = λ _. fn-unentered c.args.tables.now (marks_of c.args.marks.now) (marks_of c.open_binding.new.marks) c.args.scope.now c.args.binding c.args.parameters.now c.args.last c.args.body.now (c.in_ok-opens.ensures.declared c.if-not-opens.false) (c.in_ok-found.ensures.none c.in-None.is)

pub fn_brings-returns-then-not-fits-clause-no : goal.fn_brings-returns-then-not-fits-clause-no
fn_brings-returns-then-not-fits-clause-no t c = λ _. fn-misfits c.args.tables.now (marks_of c.args.marks.now) (marks_of c.open_binding.new.marks) c.args.scope.now c.enter_function.new.scope c.args.binding c.args.parameters.now c.args.last c.args.body.now c.in-Some.given (c.in_ok-opens.ensures.declared c.if-not-opens.false) (c.in_ok-found.ensures.some c.in-Some.given c.in-Some.is) (c.in_ok-fits.ensures.no c.if-not-fits.true)

pub fn_brings-returns-clause-yes : goal.fn_brings-returns-clause-yes
fn_brings-returns-clause-yes t c = λ y. fn-fits c.args.tables.now (marks_of c.args.marks.now) (marks_of c.open_binding.new.marks) c.args.scope.now c.enter_function.new.scope c.args.binding c.args.parameters.now c.args.last c.args.body.now c.in-Some.given (c.in_ok-opens.ensures.yes c.if-not-opens.false) (c.in_ok-opens.ensures.declared c.if-not-opens.false) (c.in_ok-found.ensures.some c.in-Some.given c.in-Some.is) (c.in_ok-fits.ensures.yes c.if-not-fits.false)
    ((c.in_ok-new.ensures.new c.args.scope.now (since-entered c.args.tables.now (marks_of c.open_binding.new.marks) c.args.scope.now c.enter_function.new.scope c.exp_fits.new.scope c.args.parameters.now c.args.last c.args.binding.ty c.in-Some.given c.mark-place.result (c.in_ok-found.ensures.some c.in-Some.given c.in-Some.is) (c.in_ok-fits.ensures.scope c.if-not-fits.false) c.mark-place.ensures.len c.mark-place.ensures.start)).0 y)

pub fn_brings-returns-clause-no : goal.fn_brings-returns-clause-no
fn_brings-returns-clause-no t c = λ n. let-bound c.args.tables.now (marks_of c.args.marks.now) c.args.scope.now c.args.binding (function_made c.args.tables.now c.args.parameters.now c.args.last c.args.body.now) c.in_ok-new.new (c.in_ok-new.ensures.new c.args.scope.now (since-entered c.args.tables.now (marks_of c.open_binding.new.marks) c.args.scope.now c.enter_function.new.scope c.exp_fits.new.scope c.args.parameters.now c.args.last c.args.binding.ty c.in-Some.given c.mark-place.result (c.in_ok-found.ensures.some c.in-Some.given c.in-Some.is) (c.in_ok-fits.ensures.scope c.if-not-fits.false) c.mark-place.ensures.len c.mark-place.ensures.start)) n

pub fn_brings-returns-clause-bound : goal.fn_brings-returns-clause-bound
fn_brings-returns-clause-bound t c = λ y. c.in_ok-new.ensures.bound c.args.scope.now (since-entered c.args.tables.now (marks_of c.open_binding.new.marks) c.args.scope.now c.enter_function.new.scope c.exp_fits.new.scope c.args.parameters.now c.args.last c.args.binding.ty c.in-Some.given c.mark-place.result (c.in_ok-found.ensures.some c.in-Some.given c.in-Some.is) (c.in_ok-fits.ensures.scope c.if-not-fits.false) c.mark-place.ensures.len c.mark-place.ensures.start) y

pub fn_brings-returns-clause-marks : goal.fn_brings-returns-clause-marks
fn_brings-returns-clause-marks t c = λ _. c.in_ok-new.ensures.left (parameters_at (parameters_of c.args.tables.now) c.args.binding.parameters) (marks_of c.args.marks.now) (c.in_ok-fits.ensures.marks c.if-not-fits.false ∙ c.in_ok-opens.ensures.declared c.if-not-opens.false) (marks-many c.args.marks.now (marks_of c.args.marks.now) c.len-len.result c.len-len.ensures refl)

pub block_brings-returns-then-not-block_may-clause-no : goal.block_brings-returns-then-not-block_may-clause-no
block_brings-returns-then-not-block_may-clause-no t c = λ _. let-not-general c.args.tables.now (marks_of c.args.marks.now) c.args.scope.now c.args.binding (block_made c.args.tables.now c.args.body.now) c.block_may.result c.block_may.ensures c.if-not-block_may.true

pub block_brings-returns-then-not-opens-clause-no : goal.block_brings-returns-then-not-opens-clause-no
block_brings-returns-then-not-opens-clause-no t c = λ _. let-not-open c.args.tables.now (marks_of c.args.marks.now) c.args.scope.now c.args.binding (block_made c.args.tables.now c.args.body.now) (c.in_ok-opens.ensures.no c.if-not-opens.true)

pub block_brings-returns-then-not-fits-clause-no : goal.block_brings-returns-then-not-fits-clause-no
block_brings-returns-then-not-fits-clause-no t c = λ _. block-misfits c.args.tables.now (marks_of c.args.marks.now) (marks_of c.open_binding.new.marks) c.args.scope.now c.args.binding c.args.body.now (c.in_ok-opens.ensures.declared c.if-not-opens.false) (c.in_ok-fits.ensures.no c.if-not-fits.true)

pub block_brings-returns-clause-yes : goal.block_brings-returns-clause-yes
block_brings-returns-clause-yes t c = λ y. block-fits c.args.tables.now (marks_of c.args.marks.now) (marks_of c.open_binding.new.marks) c.args.scope.now c.args.binding c.args.body.now (c.block_may.ensures ∙ c.if-not-block_may.false) (c.in_ok-opens.ensures.yes c.if-not-opens.false) (c.in_ok-opens.ensures.declared c.if-not-opens.false) (c.in_ok-fits.ensures.yes c.if-not-fits.false)
    ((c.in_ok-new.ensures.new c.args.scope.now (since-same c.args.scope.now c.exp_fits.new.scope c.mark-place.result (c.in_ok-fits.ensures.scope c.if-not-fits.false) c.mark-place.ensures.len c.mark-place.ensures.start)).0 y)

pub block_brings-returns-clause-no : goal.block_brings-returns-clause-no
block_brings-returns-clause-no t c = λ n. let-bound c.args.tables.now (marks_of c.args.marks.now) c.args.scope.now c.args.binding (block_made c.args.tables.now c.args.body.now) c.in_ok-new.new (c.in_ok-new.ensures.new c.args.scope.now (since-same c.args.scope.now c.exp_fits.new.scope c.mark-place.result (c.in_ok-fits.ensures.scope c.if-not-fits.false) c.mark-place.ensures.len c.mark-place.ensures.start)) n

pub block_brings-returns-clause-bound : goal.block_brings-returns-clause-bound
block_brings-returns-clause-bound t c = λ y. c.in_ok-new.ensures.bound c.args.scope.now (since-same c.args.scope.now c.exp_fits.new.scope c.mark-place.result (c.in_ok-fits.ensures.scope c.if-not-fits.false) c.mark-place.ensures.len c.mark-place.ensures.start) y

pub block_brings-returns-clause-marks : goal.block_brings-returns-clause-marks
block_brings-returns-clause-marks t c = λ _. c.in_ok-new.ensures.left (parameters_at (parameters_of c.args.tables.now) c.args.binding.parameters) (marks_of c.args.marks.now) (c.in_ok-fits.ensures.marks c.if-not-fits.false ∙ c.in_ok-opens.ensures.declared c.if-not-opens.false) (marks-many c.args.marks.now (marks_of c.args.marks.now) c.len-len.result c.len-len.ensures refl)

pub group_brings-returns-then-not-opens-clause-no : goal.group_brings-returns-then-not-opens-clause-no
group_brings-returns-then-not-opens-clause-no t c = λ _ i. c.in_ok-opens.ensures.no c.if-not-opens.true i.new i.each_new

pub group_brings-returns-then-not-fit-clause-no : goal.group_brings-returns-then-not-fit-clause-no
group_brings-returns-then-not-fit-clause-no t c = λ _. group-misfits c.args.tables.now (marks_of c.args.marks.now) (marks_of c.open_group.new.marks) c.args.scope.now c.open_group.new.scope c.args.parameters c.args.functions.now (c.in_ok-opens.ensures.declared c.if-not-opens.false) (c.in_ok-opens.ensures.yes c.if-not-opens.false) (c.in_ok-fit.ensures.no c.if-not-fit.true)

pub group_brings-returns-clause-yes : goal.group_brings-returns-clause-yes
group_brings-returns-clause-yes t c = λ _. group-fits c.args.tables.now (marks_of c.args.marks.now) (marks_of c.open_group.new.marks) c.args.scope.now c.open_group.new.scope c.args.parameters c.args.functions.now (c.in_ok-opens.ensures.new c.if-not-opens.false) (c.in_ok-opens.ensures.declared c.if-not-opens.false) (c.in_ok-opens.ensures.yes c.if-not-opens.false) (c.in_ok-fit.ensures.yes c.if-not-fit.false)

pub group_brings-returns-clause-no : goal.group_brings-returns-clause-no
group_brings-returns-clause-no t c = λ n i. let g = c.in_ok-opens.ensures.yes c.if-not-opens.false in c.in_ok-closes.ensures.no c.args.scope.now (since-grown c.args.scope.now c.open_group.new.scope c.functions_fit.new.scope c.mark-place.result g.grows (c.in_ok-fit.ensures.scope c.if-not-fit.false) c.mark-place.ensures.len c.mark-place.ensures.start) n i.each_new

pub group_brings-returns-clause-bound : goal.group_brings-returns-clause-bound
group_brings-returns-clause-bound t c = λ y. let g = c.in_ok-opens.ensures.yes c.if-not-opens.false in c.in_ok-closes.ensures.yes c.args.scope.now (since-grown c.args.scope.now c.open_group.new.scope c.functions_fit.new.scope c.mark-place.result g.grows (c.in_ok-fit.ensures.scope c.if-not-fit.false) c.mark-place.ensures.len c.mark-place.ensures.start) y

pub group_brings-returns-clause-marks : goal.group_brings-returns-clause-marks
group_brings-returns-clause-marks t c = λ _. c.in_ok-closes.ensures.left (parameters_at (parameters_of c.args.tables.now) c.args.parameters) (marks_of c.args.marks.now) (c.in_ok-fit.ensures.marks c.if-not-fit.false ∙ c.in_ok-opens.ensures.declared c.if-not-opens.false) (marks-many c.args.marks.now (marks_of c.args.marks.now) c.len-len.result c.len-len.ensures refl)

pub function_fits-returns-then-not-over-clause-no : goal.function_fits-returns-then-not-over-clause-no
function_fits-returns-then-not-over-clause-no t c = λ _ p. not-yes c.if-not-over.true (c.in_ok-over.ensures.1 (function-over c.args.tables.now (marks_of c.args.marks.now) c.args.scope.now c.args.function.now p))

pub function_fits-returns-in-None-clause-no : goal.function_fits-returns-in-None-clause-no
function_fits-returns-in-None-clause-no t c = λ _ p. (c.in_ok-found.ensures.none c.in-None.is).never (tree_of (reading c.args.tables.now) c.args.function.now.body) (function-was c.args.tables.now (marks_of c.args.marks.now) c.args.scope.now c.args.function.now c.deref.result.now c.args.function.now.last c.args.function.now.body c.args.function.now.ty (function-type (reading c.args.tables.now) c.args.function.now) (function-is (reading c.args.tables.now) c.args.function.now c.deref.result.now c.deref.ensures.value) p)

pub function_fits-returns-clause-yes : goal.function_fits-returns-clause-yes
function_fits-returns-clause-yes t c = λ y. function-fits c.args.tables.now (marks_of c.args.marks.now) (marks_of c.args.marks.now) c.args.scope.now c.enter_function.new.scope c.args.function.now c.deref.result.now c.args.function.now.last c.args.function.now.body c.args.function.now.ty c.in-Some.given (function-type (reading c.args.tables.now) c.args.function.now) (function-is (reading c.args.tables.now) c.args.function.now c.deref.result.now c.deref.ensures.value)
    (c.in_ok-over.ensures.0 c.if-not-over.false) (c.in_ok-found.ensures.some c.in-Some.given c.in-Some.is) (c.in_ok-ends.ensures.yes y)

pub function_fits-returns-clause-no : goal.function_fits-returns-clause-no
function_fits-returns-clause-no t c = λ n p. (let i = c.in_ok-found.ensures.some c.in-Some.given c.in-Some.is in c.in_ok-ends.ensures.no n (record {
  fits = i.back (tree_of (reading c.args.tables.now) c.args.function.now.body) (function-was c.args.tables.now (marks_of c.args.marks.now) c.args.scope.now c.args.function.now c.deref.result.now c.args.function.now.last c.args.function.now.body c.args.function.now.ty (function-type (reading c.args.tables.now) c.args.function.now) (function-is (reading c.args.tables.now) c.args.function.now c.deref.result.now c.deref.ensures.value) p);
}))

pub function_fits-returns-clause-scope : goal.function_fits-returns-clause-scope
function_fits-returns-clause-scope t c = λ y. let i = c.in_ok-found.ensures.some c.in-Some.given c.in-Some.is in
    back-to c.args.scope.now c.exp_fits.new.scope c.restore.new.self c.mark-place.result i.added (ap (λ (s : Names). s.0 ++ s.1) (c.in_ok-ends.ensures.scope y) ∙ i.within) c.mark-place.ensures.len c.mark-place.ensures.start c.restore.ensures

pub step_brings-returns-then-not-handler_may-clause-no : goal.step_brings-returns-then-not-handler_may-clause-no
step_brings-returns-then-not-handler_may-clause-no t c = λ _. let-refuses c.args.tables.now c.args.misses (marks_of c.args.marks.now) c.args.ty c.args.scope.now c.args.scope.now c.in-Handle.binding (handle_made c.args.tables.now c.in-Handle.body.value c.in-Handle.packet c.in-Handle.handler.value) (step_of (reading c.args.tables.now) c.args.step.now) (handle-is (reading c.args.tables.now) c.args.step.now c.in-Handle.binding c.in-Handle.body c.in-Handle.handler c.in-Handle.packet c.in-Handle.body.value c.in-Handle.handler.value c.in-Handle.is refl refl)
    (let-not-general c.args.tables.now (marks_of c.args.marks.now) c.args.scope.now c.in-Handle.binding (handle_made c.args.tables.now c.in-Handle.body.value c.in-Handle.packet c.in-Handle.handler.value) c.handler_may.result (c.handler_may.ensures (tree_of (reading c.args.tables.now) c.in-Handle.body.value) (tree_of (reading c.args.tables.now) c.in-Handle.handler.value) c.in-Handle.packet) c.if-not-handler_may.true)

pub step_brings-returns-then-not-ready-clause-no : goal.step_brings-returns-then-not-ready-clause-no
step_brings-returns-then-not-ready-clause-no t c = λ _. let-refuses c.args.tables.now c.args.misses (marks_of c.args.marks.now) c.args.ty c.args.scope.now c.args.scope.now c.in-Handle.binding (handle_made c.args.tables.now c.in-Handle.body.value c.in-Handle.packet c.in-Handle.handler.value) (step_of (reading c.args.tables.now) c.args.step.now) (handle-is (reading c.args.tables.now) c.args.step.now c.in-Handle.binding c.in-Handle.body c.in-Handle.handler c.in-Handle.packet c.in-Handle.body.value c.in-Handle.handler.value c.in-Handle.is refl refl)
    (let-not-open c.args.tables.now (marks_of c.args.marks.now) c.args.scope.now c.in-Handle.binding (handle_made c.args.tables.now c.in-Handle.body.value c.in-Handle.packet c.in-Handle.handler.value) (c.in_ok-ready-in-Handle.ensures.no c.if-not-ready.true))

pub step_brings-returns-then-not-tried-clause-no : goal.step_brings-returns-then-not-tried-clause-no
step_brings-returns-then-not-tried-clause-no t c = λ _. let-refuses c.args.tables.now c.args.misses (marks_of c.args.marks.now) c.args.ty c.args.scope.now c.args.scope.now c.in-Handle.binding (handle_made c.args.tables.now c.deref-in-Handle.result.now c.in-Handle.packet c.in-Handle.handler.value) (step_of (reading c.args.tables.now) c.args.step.now) (handle-is (reading c.args.tables.now) c.args.step.now c.in-Handle.binding c.in-Handle.body c.in-Handle.handler c.in-Handle.packet c.deref-in-Handle.result.now c.in-Handle.handler.value c.in-Handle.is c.deref-in-Handle.ensures refl)
    (tried-misfits c.args.tables.now c.args.facts.now.exn c.requires.exn (marks_of c.args.marks.now) (marks_of c.open_binding.new.marks) c.args.scope.now c.in-Handle.binding c.in-Handle.packet c.deref-in-Handle.result.now c.in-Handle.handler.value (c.in_ok-ready-in-Handle.ensures.declared c.if-not-ready.false) (c.in_ok-tried-in-Handle.ensures.no c.if-not-tried.true))

pub step_brings-returns-then-not-free-clause-no : goal.step_brings-returns-then-not-free-clause-no
step_brings-returns-then-not-free-clause-no t c = λ _. let-refuses c.args.tables.now c.args.misses (marks_of c.args.marks.now) c.args.ty c.args.scope.now c.args.scope.now c.in-Handle.binding (handle_made c.args.tables.now c.deref-in-Handle.result.now c.in-Handle.packet c.in-Handle.handler.value) (step_of (reading c.args.tables.now) c.args.step.now) (handle-is (reading c.args.tables.now) c.args.step.now c.in-Handle.binding c.in-Handle.body c.in-Handle.handler c.in-Handle.packet c.deref-in-Handle.result.now c.in-Handle.handler.value c.in-Handle.is c.deref-in-Handle.ensures refl)
    (packet-known c.args.tables.now c.args.facts.now.exn c.requires.exn (marks_of c.args.marks.now) c.args.scope.now c.exp_fits.new.scope c.in-Handle.binding c.in-Handle.packet c.deref-in-Handle.result.now c.in-Handle.handler.value (c.in_ok-tried-in-Handle.ensures.scope c.if-not-tried.false) (λ n. not-yes c.if-not-free.true ((none-known c.args.tables.now.types (parameters_of c.args.tables.now) (c.exp_fits.new.scope.0 ++ c.exp_fits.new.scope.1) c.in-Handle.packet c.in_ok-free-in-Handle.free c.in_ok-free-in-Handle.ensures.new).1 n)))

pub step_brings-returns-then-not-caught-clause-no : goal.step_brings-returns-then-not-caught-clause-no
step_brings-returns-then-not-caught-clause-no t c = λ _. let-refuses c.args.tables.now c.args.misses (marks_of c.args.marks.now) c.args.ty c.args.scope.now c.args.scope.now c.in-Handle.binding (handle_made c.args.tables.now c.deref-in-Handle.result.now c.in-Handle.packet c.deref-in-Handle-2.result.now) (step_of (reading c.args.tables.now) c.args.step.now) (handle-is (reading c.args.tables.now) c.args.step.now c.in-Handle.binding c.in-Handle.body c.in-Handle.handler c.in-Handle.packet c.deref-in-Handle.result.now c.deref-in-Handle-2.result.now c.in-Handle.is c.deref-in-Handle.ensures c.deref-in-Handle-2.ensures)
    (handler-misfits c.args.tables.now c.args.facts.now.exn c.requires.exn (marks_of c.args.marks.now) (marks_of c.open_binding.new.marks) (marks_of c.exp_fits.new.marks) c.args.scope.now c.exp_fits.new.scope c.bind.new.self c.in-Handle.binding c.in-Handle.packet c.deref-in-Handle.result.now c.deref-in-Handle-2.result.now (c.in_ok-ready-in-Handle.ensures.declared c.if-not-ready.false) (c.in_ok-tried-in-Handle.ensures.marks c.if-not-tried.false) (c.in_ok-tried-in-Handle.ensures.scope c.if-not-tried.false) (c.in_ok-free-in-Handle.ensures.bound c.if-not-free.false) (c.in_ok-caught-in-Handle.ensures.no c.if-not-caught.true))

pub step_brings-returns-in_ok-new-in-Handle-clause-yes : goal.step_brings-returns-in_ok-new-in-Handle-clause-yes
step_brings-returns-in_ok-new-in-Handle-clause-yes t c = λ y. let-brings c.args.tables.now c.args.misses (marks_of c.args.marks.now) c.args.ty c.args.scope.now c.close_binding.new.scope c.in-Handle.binding (handle_made c.args.tables.now c.deref-in-Handle.result.now c.in-Handle.packet c.deref-in-Handle-2.result.now) (step_of (reading c.args.tables.now) c.args.step.now) (handle-is (reading c.args.tables.now) c.args.step.now c.in-Handle.binding c.in-Handle.body c.in-Handle.handler c.in-Handle.packet c.deref-in-Handle.result.now c.deref-in-Handle-2.result.now c.in-Handle.is c.deref-in-Handle.ensures c.deref-in-Handle-2.ensures)
    (handle-fits c.args.tables.now c.args.facts.now.exn c.requires.exn (marks_of c.args.marks.now) (marks_of c.open_binding.new.marks) (marks_of c.exp_fits.new.marks) c.args.scope.now c.exp_fits.new.scope c.bind.new.self c.in-Handle.binding c.in-Handle.packet c.deref-in-Handle.result.now c.deref-in-Handle-2.result.now
    (c.handler_may.ensures (tree_of (reading c.args.tables.now) c.deref-in-Handle.result.now) (tree_of (reading c.args.tables.now) c.deref-in-Handle-2.result.now) c.in-Handle.packet ∙ c.if-not-handler_may.false) (c.in_ok-ready-in-Handle.ensures.yes c.if-not-ready.false) (c.in_ok-ready-in-Handle.ensures.declared c.if-not-ready.false) (c.in_ok-tried-in-Handle.ensures.marks c.if-not-tried.false) (c.in_ok-tried-in-Handle.ensures.scope c.if-not-tried.false) (c.in_ok-free-in-Handle.ensures.bound c.if-not-free.false) (c.in_ok-tried-in-Handle.ensures.yes c.if-not-tried.false)
    ((none-known c.args.tables.now.types (parameters_of c.args.tables.now) (c.exp_fits.new.scope.0 ++ c.exp_fits.new.scope.1) c.in-Handle.packet c.in_ok-free-in-Handle.free c.in_ok-free-in-Handle.ensures.new).0 c.if-not-free.false) (c.in_ok-caught-in-Handle.ensures.yes c.if-not-caught.false) ((c.in_ok-new-in-Handle.ensures.new c.args.scope.now (since-packet c.args.scope.now c.exp_fits.new.scope c.bind.new.self c.exp_fits-in-Handle.new.scope c.in-Handle.packet c.args.facts.now.exn c.mark-place.result (c.in_ok-tried-in-Handle.ensures.scope c.if-not-tried.false) (c.in_ok-free-in-Handle.ensures.bound c.if-not-free.false) (c.in_ok-caught-in-Handle.ensures.scope c.if-not-caught.false) c.mark-place.ensures.len c.mark-place.ensures.start)).0 y)) (c.in_ok-new-in-Handle.ensures.bound c.args.scope.now (since-packet c.args.scope.now c.exp_fits.new.scope c.bind.new.self c.exp_fits-in-Handle.new.scope c.in-Handle.packet c.args.facts.now.exn c.mark-place.result (c.in_ok-tried-in-Handle.ensures.scope c.if-not-tried.false) (c.in_ok-free-in-Handle.ensures.bound c.if-not-free.false) (c.in_ok-caught-in-Handle.ensures.scope c.if-not-caught.false) c.mark-place.ensures.len c.mark-place.ensures.start) y)

pub step_brings-returns-in_ok-new-in-Handle-clause-no : goal.step_brings-returns-in_ok-new-in-Handle-clause-no
step_brings-returns-in_ok-new-in-Handle-clause-no t c = λ n. let-refuses c.args.tables.now c.args.misses (marks_of c.args.marks.now) c.args.ty c.args.scope.now c.args.scope.now c.in-Handle.binding (handle_made c.args.tables.now c.deref-in-Handle.result.now c.in-Handle.packet c.deref-in-Handle-2.result.now) (step_of (reading c.args.tables.now) c.args.step.now) (handle-is (reading c.args.tables.now) c.args.step.now c.in-Handle.binding c.in-Handle.body c.in-Handle.handler c.in-Handle.packet c.deref-in-Handle.result.now c.deref-in-Handle-2.result.now c.in-Handle.is c.deref-in-Handle.ensures c.deref-in-Handle-2.ensures)
    (let-bound c.args.tables.now (marks_of c.args.marks.now) c.args.scope.now c.in-Handle.binding (handle_made c.args.tables.now c.deref-in-Handle.result.now c.in-Handle.packet c.deref-in-Handle-2.result.now) c.in_ok-new-in-Handle.new (c.in_ok-new-in-Handle.ensures.new c.args.scope.now (since-packet c.args.scope.now c.exp_fits.new.scope c.bind.new.self c.exp_fits-in-Handle.new.scope c.in-Handle.packet c.args.facts.now.exn c.mark-place.result (c.in_ok-tried-in-Handle.ensures.scope c.if-not-tried.false) (c.in_ok-free-in-Handle.ensures.bound c.if-not-free.false) (c.in_ok-caught-in-Handle.ensures.scope c.if-not-caught.false) c.mark-place.ensures.len c.mark-place.ensures.start)) n)

pub step_brings-returns-in_ok-new-in-Handle-clause-marks : goal.step_brings-returns-in_ok-new-in-Handle-clause-marks
step_brings-returns-in_ok-new-in-Handle-clause-marks t c = λ _. c.in_ok-new-in-Handle.ensures.left (parameters_at (parameters_of c.args.tables.now) c.in-Handle.binding.parameters) (marks_of c.args.marks.now) (c.in_ok-caught-in-Handle.ensures.marks c.if-not-caught.false ∙ c.in_ok-tried-in-Handle.ensures.marks c.if-not-tried.false ∙ c.in_ok-ready-in-Handle.ensures.declared c.if-not-ready.false) (marks-many c.args.marks.now (marks_of c.args.marks.now) c.len-len.result c.len-len.ensures refl)
