use Rattle.std.proofs.Common.{◌≡◌, map, length, refl, sym, ap, ◌∙◌, arith}
use Rattle.ir_plain.specs.Tree as clean
use Rattle.ir_known.specs.declared.known.Known.TheVariants.{OfType}
use Rattle.plain_tree.specs.TreeOf.{step_of, arm_of, arms_of, operation_of, exception_of, fun_of, tree_of}
use Rattle.mono_operations.specs.Reads.{reading}
use Rattle.mono_check.specs.Walk.{holding, opened, functions_right}
use Rattle.mono_check.proofs.Names.{more-at, more-one, more-opened, back-to}
use Rattle.mono_check.proofs.Rolls.{steps-are, ret-is, switch-is, first-is, miss-is, let-is, fn-is, block-is, handle-is, exception-is, name-is, group-is, test-is, counted-is}
use Rattle.mono_check.proofs.Exps.{steps-refused, steps-fit, ret-fits, switch-misses, switch-atom, switch-fits, first-misfits, first-fits, miss-fits, attempts-next, attempts-stop, attempts-all, arms-next, arms-stop, arms-all, functions-next, functions-stop, functions-all, arm-misfits, arm-fits, handler-known, handler-fits, fun-unentered, fun-fits, function-fits}
use Rattle.mono_check.proofs.Steps.{along-first, along-next, along-stops, along-all, brings-at, let-brings, let-refused, handle-tried, handle-caught, exception-brings, name-brings, counted-brings, group-known, group-brings, test-misses, test-atom, test-arms, test-brings}
use Rattle.mono_check.proofs.walk.+walk.Goals as goal

pub exp_fits-returns-then-not-brings-clause-is : goal.exp_fits-returns-then-not-brings-clause-is
exp_fits-returns-then-not-brings-clause-is t c = steps-refused c.args.tables.now c.args.misses c.args.scope.now c.args.e.now c.args.ty c.steps_bring.new.scope c.deref.result.now c.in-Steps.rest.value c.in_ok-brings-in-Steps.brings (steps-are (reading c.args.tables.now) c.args.e.now c.in-Steps.steps c.in-Steps.rest c.deref.result.now c.in-Steps.rest.value c.in-Steps.is c.deref.ensures.value refl) c.in_ok-brings-in-Steps.ensures c.if-not-brings.true

pub exp_fits-returns-in_ok-ends-in-Steps-clause-is : goal.exp_fits-returns-in_ok-ends-in-Steps-clause-is
exp_fits-returns-in_ok-ends-in-Steps-clause-is t c = steps-fit c.args.tables.now c.args.misses c.args.scope.now c.args.e.now c.args.ty c.steps_bring.new.scope c.deref.result.now c.deref-in-Steps.result.now c.in_ok-brings-in-Steps.brings c.in_ok-ends-in-Steps.ends (steps-are (reading c.args.tables.now) c.args.e.now c.in-Steps.steps c.in-Steps.rest c.deref.result.now c.deref-in-Steps.result.now c.in-Steps.is c.deref.ensures.value c.deref-in-Steps.ensures) c.in_ok-brings-in-Steps.ensures c.if-not-brings.false c.in_ok-ends-in-Steps.ensures.is

pub exp_fits-returns-in_ok-ends-in-Steps-clause-kept : goal.exp_fits-returns-in_ok-ends-in-Steps-clause-kept
exp_fits-returns-in_ok-ends-in-Steps-clause-kept t c = λ y. back-to c.args.scope.now c.exp_fits.new.scope c.restore.new.self c.mark-place.result (more-at c.args.scope.now c.steps_bring.new.scope c.exp_fits.new.scope (c.in_ok-ends-in-Steps.ensures.kept y) (c.in_ok-brings-in-Steps.ensures.grows c.if-not-brings.false)) c.mark-place.ensures.len c.mark-place.ensures.start c.restore.ensures

pub exp_fits-returns-in-Ret-clause-is : goal.exp_fits-returns-in-Ret-clause-is
exp_fits-returns-in-Ret-clause-is t c = ret-fits c.args.tables.now c.args.misses c.args.scope.now c.args.e.now c.args.ty c.in-Ret.atom c.is_atom.result (ret-is (reading c.args.tables.now) c.args.e.now c.in-Ret.atom c.in-Ret.is) c.is_atom.ensures

pub exp_fits-returns-then-not-misses-clause-is : goal.exp_fits-returns-then-not-misses-clause-is
exp_fits-returns-then-not-misses-clause-is t c = switch-misses c.args.tables.now c.args.misses c.args.scope.now c.args.e.now c.args.ty c.in-Switch.atom c.in-Switch.of (arms_of (map (arm_of (reading c.args.tables.now)) c.in-Switch.arms.items)) (switch-is (reading c.args.tables.now) c.args.e.now c.in-Switch.atom c.in-Switch.of c.in-Switch.arms c.in-Switch.arms.items c.in-Switch.is refl) c.if-not-misses.true

pub exp_fits-returns-then-not-is_atom-clause-is : goal.exp_fits-returns-then-not-is_atom-clause-is
exp_fits-returns-then-not-is_atom-clause-is t c = switch-atom c.args.tables.now c.args.misses c.args.scope.now c.args.e.now c.args.ty c.in-Switch.atom c.in-Switch.of (arms_of (map (arm_of (reading c.args.tables.now)) c.in-Switch.arms.items)) (switch-is (reading c.args.tables.now) c.args.e.now c.in-Switch.atom c.in-Switch.of c.in-Switch.arms c.in-Switch.arms.items c.in-Switch.is refl) c.is_atom-in-Switch.result c.is_atom-in-Switch.ensures c.if-not-is_atom.true

pub exp_fits-returns-in_ok-fit-in-Switch-clause-is : goal.exp_fits-returns-in_ok-fit-in-Switch-clause-is
exp_fits-returns-in_ok-fit-in-Switch-clause-is t c = switch-fits c.args.tables.now c.args.misses c.args.scope.now c.args.e.now c.args.ty c.in-Switch.atom c.in-Switch.of (arms_of (map (arm_of (reading c.args.tables.now)) c.deref-in-Switch.result.now)) (switch-is (reading c.args.tables.now) c.args.e.now c.in-Switch.atom c.in-Switch.of c.in-Switch.arms c.deref-in-Switch.result.now c.in-Switch.is c.deref-in-Switch.ensures.value) c.is_atom-in-Switch.result c.in_ok-fit-in-Switch.fit c.if-not-misses.false c.is_atom-in-Switch.ensures c.if-not-is_atom.false c.in_ok-fit-in-Switch.ensures.is

pub exp_fits-returns-then-not-tried-clause-is : goal.exp_fits-returns-then-not-tried-clause-is
exp_fits-returns-then-not-tried-clause-is t c = first-misfits c.args.tables.now c.args.misses c.args.scope.now c.args.e.now c.args.ty c.deref-in-First.result.now c.in-First.last.value (first-is (reading c.args.tables.now) c.args.e.now c.in-First.attempts c.in-First.last c.deref-in-First.result.now c.in-First.last.value c.in-First.is c.deref-in-First.ensures.value refl) c.in_ok-tried-in-First.tried c.in_ok-tried-in-First.ensures.is c.if-not-tried.true

pub exp_fits-returns-in_ok-ends-in-First-clause-is : goal.exp_fits-returns-in_ok-ends-in-First-clause-is
exp_fits-returns-in_ok-ends-in-First-clause-is t c = first-fits c.args.tables.now c.args.misses c.args.scope.now c.args.e.now c.args.ty c.deref-in-First.result.now c.deref-in-First-2.result.now (first-is (reading c.args.tables.now) c.args.e.now c.in-First.attempts c.in-First.last c.deref-in-First.result.now c.deref-in-First-2.result.now c.in-First.is c.deref-in-First.ensures.value c.deref-in-First-2.ensures) c.in_ok-tried-in-First.tried c.in_ok-tried-in-First.ensures.is c.attempts_fit.new.scope c.in_ok-ends-in-First.ends c.if-not-tried.false (c.in_ok-tried-in-First.ensures.kept c.if-not-tried.false) c.in_ok-ends-in-First.ensures.is

pub exp_fits-returns-in_ok-ends-in-First-clause-kept : goal.exp_fits-returns-in_ok-ends-in-First-clause-kept
exp_fits-returns-in_ok-ends-in-First-clause-kept t c = λ y. c.in_ok-ends-in-First.ensures.kept y ∙ c.in_ok-tried-in-First.ensures.kept c.if-not-tried.false

pub exp_fits-returns-in-Miss-clause-is : goal.exp_fits-returns-in-Miss-clause-is
exp_fits-returns-in-Miss-clause-is t c = miss-fits c.args.tables.now c.args.misses c.args.scope.now c.args.e.now c.args.ty (miss-is (reading c.args.tables.now) c.args.e.now c.in-Miss.is)

pub attempts_fit-loop-i-init : goal.attempts_fit-loop-i-init
attempts_fit-loop-i-init t c = record { left = refl; scope = refl }

pub attempts_fit-loop-i-preserved : goal.attempts_fit-loop-i-preserved
attempts_fit-loop-i-preserved t c = record { left = attempts-next c.args.tables.now c.args.scope.now c.args.ty c.args.attempts.now c.loop-i.i c.loop-i.invariant.left c.index-attempts-i.result c.in_ok-yes.yes c.loop-i.scope c.loop-i-test.true c.index-attempts-i.is c.loop-i.invariant.scope c.in_ok-yes.ensures.is c.if-not-yes.false; scope = c.in_ok-yes.ensures.kept c.if-not-yes.false ∙ c.loop-i.invariant.scope }

pub attempts_fit-returns-then-not-yes-clause-is : goal.attempts_fit-returns-then-not-yes-clause-is
attempts_fit-returns-then-not-yes-clause-is t c = attempts-stop c.args.tables.now c.args.scope.now c.args.ty c.args.attempts.now c.loop-i.i c.loop-i.invariant.left c.index-attempts-i.result c.in_ok-yes.yes c.loop-i.scope c.loop-i-test.true c.index-attempts-i.is c.loop-i.invariant.scope c.in_ok-yes.ensures.is c.if-not-yes.true

pub attempts_fit-returns-clause-is : goal.attempts_fit-returns-clause-is
attempts_fit-returns-clause-is t c = let n : c.loop-i.i ≡ length c.args.attempts.now = omega arith in attempts-all c.args.tables.now c.args.scope.now c.args.ty c.args.attempts.now c.loop-i.i c.loop-i.invariant.left n

pub attempts_fit-returns-clause-kept : goal.attempts_fit-returns-clause-kept
attempts_fit-returns-clause-kept t c = λ _. c.loop-i.invariant.scope

pub arms_fit-loop-i-init : goal.arms_fit-loop-i-init
arms_fit-loop-i-init t c = record { left = refl; scope = refl }

pub arms_fit-loop-i-preserved : goal.arms_fit-loop-i-preserved
arms_fit-loop-i-preserved t c = record { left = arms-next c.args.tables.now c.args.scope.now c.args.of c.args.ty c.args.arms.now c.loop-i.i c.loop-i.invariant.left c.index-arms-i.result c.in_ok-yes.yes c.loop-i.scope c.loop-i-test.true c.index-arms-i.is c.loop-i.invariant.scope c.in_ok-yes.ensures.is c.if-not-yes.false; scope = c.in_ok-yes.ensures.kept c.if-not-yes.false ∙ c.loop-i.invariant.scope }

pub arms_fit-returns-then-not-yes-clause-is : goal.arms_fit-returns-then-not-yes-clause-is
arms_fit-returns-then-not-yes-clause-is t c = arms-stop c.args.tables.now c.args.scope.now c.args.of c.args.ty c.args.arms.now c.loop-i.i c.loop-i.invariant.left c.index-arms-i.result c.in_ok-yes.yes c.loop-i.scope c.loop-i-test.true c.index-arms-i.is c.loop-i.invariant.scope c.in_ok-yes.ensures.is c.if-not-yes.true

pub arms_fit-returns-clause-is : goal.arms_fit-returns-clause-is
arms_fit-returns-clause-is t c = let n : c.loop-i.i ≡ length c.args.arms.now = omega arith in arms-all c.args.tables.now c.args.scope.now c.args.of c.args.ty c.args.arms.now c.loop-i.i c.loop-i.invariant.left n

pub arms_fit-returns-clause-kept : goal.arms_fit-returns-clause-kept
arms_fit-returns-clause-kept t c = λ _. c.loop-i.invariant.scope

pub functions_fit-loop-i-init : goal.functions_fit-loop-i-init
functions_fit-loop-i-init t c = record { left = refl; scope = refl }

pub functions_fit-loop-i-preserved : goal.functions_fit-loop-i-preserved
functions_fit-loop-i-preserved t c = record { left = functions-next c.args.tables.now c.args.scope.now c.args.functions.now c.loop-i.i c.loop-i.invariant.left c.index-functions-i.result c.in_ok-yes.yes c.loop-i.scope c.loop-i-test.true c.index-functions-i.is c.loop-i.invariant.scope c.in_ok-yes.ensures.is c.if-not-yes.false; scope = c.in_ok-yes.ensures.kept c.if-not-yes.false ∙ c.loop-i.invariant.scope }

pub functions_fit-returns-then-not-yes-clause-is : goal.functions_fit-returns-then-not-yes-clause-is
functions_fit-returns-then-not-yes-clause-is t c = functions-stop c.args.tables.now c.args.scope.now c.args.functions.now c.loop-i.i c.loop-i.invariant.left c.index-functions-i.result c.in_ok-yes.yes c.loop-i.scope c.loop-i-test.true c.index-functions-i.is c.loop-i.invariant.scope c.in_ok-yes.ensures.is c.if-not-yes.true

pub functions_fit-returns-clause-is : goal.functions_fit-returns-clause-is
functions_fit-returns-clause-is t c = let n : c.loop-i.i ≡ length c.args.functions.now = omega arith in functions-all c.args.tables.now c.args.scope.now c.args.functions.now c.loop-i.i c.loop-i.invariant.left n

pub functions_fit-returns-clause-kept : goal.functions_fit-returns-clause-kept
functions_fit-returns-clause-kept t c = λ _. c.loop-i.invariant.scope

pub arm_fits-returns-then-not-opens-clause-is : goal.arm_fits-returns-then-not-opens-clause-is
arm_fits-returns-then-not-opens-clause-is t c = arm-misfits c.args.tables.now c.args.scope.now c.args.of c.args.ty c.args.arm.now c.in_ok-opens.opens c.in_ok-opens.ensures.right c.if-not-opens.true

pub arm_fits-returns-clause-is : goal.arm_fits-returns-clause-is
arm_fits-returns-clause-is t c = arm-fits c.args.tables.now c.args.scope.now c.args.of c.args.ty c.args.arm.now c.bind_case.new.scope c.in_ok-opens.opens c.in_ok-ends.ends c.in_ok-opens.ensures.right c.if-not-opens.false (c.in_ok-opens.ensures.opened c.if-not-opens.false) c.in_ok-ends.ensures.is

pub arm_fits-returns-clause-kept : goal.arm_fits-returns-clause-kept
arm_fits-returns-clause-kept t c = λ y. back-to c.args.scope.now c.exp_fits.new.scope c.restore.new.self c.mark-place.result (more-at c.args.scope.now (opened c.args.arm.now.case c.args.scope.now) c.exp_fits.new.scope (c.in_ok-ends.ensures.kept y ∙ c.in_ok-opens.ensures.opened c.if-not-opens.false) (more-opened c.args.arm.now.case c.args.scope.now)) c.mark-place.ensures.len c.mark-place.ensures.start c.restore.ensures

pub steps_bring-loop-i-init : goal.steps_bring-loop-i-init
steps_bring-loop-i-init t c = along-first c.args.tables.now c.args.misses c.args.ty c.args.scope.now (map (step_of (reading c.args.tables.now)) c.args.steps.now)

pub steps_bring-loop-i-preserved : goal.steps_bring-loop-i-preserved
steps_bring-loop-i-preserved t c = along-next c.args.tables.now c.args.misses c.args.ty (step_of (reading c.args.tables.now)) c.args.scope.now c.loop-i.scope c.step_brings.new.scope c.args.steps.now c.loop-i.i c.loop-i.invariant c.index-steps-i.result c.in_ok-brings.brings c.loop-i-test.true c.index-steps-i.is c.in_ok-brings.ensures c.if-not-brings.false

pub steps_bring-returns-then-not-brings : goal.steps_bring-returns-then-not-brings
steps_bring-returns-then-not-brings t c = along-stops c.args.tables.now c.args.misses c.args.ty (step_of (reading c.args.tables.now)) c.args.scope.now c.loop-i.scope c.step_brings.new.scope c.args.steps.now c.loop-i.i c.loop-i.invariant c.index-steps-i.result c.in_ok-brings.brings c.loop-i-test.true c.index-steps-i.is c.in_ok-brings.ensures c.if-not-brings.true

pub steps_bring-returns : goal.steps_bring-returns
steps_bring-returns t c = let n : c.loop-i.i ≡ length c.args.steps.now = omega arith in along-all c.args.tables.now c.args.misses c.args.ty (step_of (reading c.args.tables.now)) c.args.scope.now c.loop-i.scope c.args.steps.now c.loop-i.i c.loop-i.invariant n

pub step_brings-returns-in_ok-yes-in-Let : goal.step_brings-returns-in_ok-yes-in-Let
step_brings-returns-in_ok-yes-in-Let t c = let-brings c.args.tables.now c.args.misses c.args.ty c.args.scope.now c.args.scope.now c.declare.new.scope c.in-Let.binding (operation_of (reading c.args.tables.now) c.in-Let.operation) (step_of (reading c.args.tables.now) c.args.step.now) c.in_ok-fits-in-Let.fits c.in_ok-yes-in-Let.yes (let-is (reading c.args.tables.now) c.args.step.now c.in-Let.binding c.in-Let.operation c.in-Let.is) c.in_ok-fits-in-Let.ensures (λ _. refl) c.in_ok-yes-in-Let.ensures.new c.in_ok-yes-in-Let.ensures.bound

pub step_brings-returns-in_ok-yes-in-Fn : goal.step_brings-returns-in_ok-yes-in-Fn
step_brings-returns-in_ok-yes-in-Fn t c = let-brings c.args.tables.now c.args.misses c.args.ty c.args.scope.now c.fun_fits.new.scope c.declare-in-Fn.new.scope c.in-Fn.binding (clean.fn (fun_of (reading c.args.tables.now) c.deref-in-Fn.result.now c.in-Fn.last (tree_of (reading c.args.tables.now) c.deref.result.now))) (step_of (reading c.args.tables.now) c.args.step.now) c.in_ok-fits-in-Fn.fits c.in_ok-yes-in-Fn.yes (fn-is (reading c.args.tables.now) c.args.step.now c.in-Fn.binding c.in-Fn.parameters c.in-Fn.last c.in-Fn.body c.deref-in-Fn.result.now c.deref.result.now c.in-Fn.is c.deref-in-Fn.ensures.value c.deref.ensures) c.in_ok-fits-in-Fn.ensures.is c.in_ok-fits-in-Fn.ensures.kept c.in_ok-yes-in-Fn.ensures.new c.in_ok-yes-in-Fn.ensures.bound

pub step_brings-returns-in_ok-yes-in-Block : goal.step_brings-returns-in_ok-yes-in-Block
step_brings-returns-in_ok-yes-in-Block t c = let-brings c.args.tables.now c.args.misses c.args.ty c.args.scope.now c.exp_fits.new.scope c.declare-in-Block.new.scope c.in-Block.binding (clean.block (tree_of (reading c.args.tables.now) c.deref-in-Block.result.now)) (step_of (reading c.args.tables.now) c.args.step.now) c.in_ok-fits-in-Block.fits c.in_ok-yes-in-Block.yes (block-is (reading c.args.tables.now) c.args.step.now c.in-Block.binding c.in-Block.body c.deref-in-Block.result.now c.in-Block.is c.deref-in-Block.ensures) c.in_ok-fits-in-Block.ensures.is c.in_ok-fits-in-Block.ensures.kept c.in_ok-yes-in-Block.ensures.new c.in_ok-yes-in-Block.ensures.bound

pub step_brings-returns-then-not-tried : goal.step_brings-returns-then-not-tried
step_brings-returns-then-not-tried t c = let-refused c.args.tables.now c.args.misses c.args.ty c.args.scope.now c.exp_fits-in-Handle.new.scope c.in-Handle.binding (clean.handle (tree_of (reading c.args.tables.now) c.deref-in-Handle.result.now) c.in-Handle.packet (tree_of (reading c.args.tables.now) c.in-Handle.handler.value)) (step_of (reading c.args.tables.now) c.args.step.now) (handle-is (reading c.args.tables.now) c.args.step.now c.in-Handle.binding c.in-Handle.body c.in-Handle.handler c.in-Handle.packet c.deref-in-Handle.result.now c.in-Handle.handler.value c.in-Handle.is c.deref-in-Handle.ensures refl) (handle-tried c.args.tables.now c.args.misses c.args.ty c.args.scope.now c.in-Handle.packet c.in-Handle.binding.ty (tree_of (reading c.args.tables.now) c.deref-in-Handle.result.now) (tree_of (reading c.args.tables.now) c.in-Handle.handler.value) c.in_ok-tried-in-Handle.tried c.in_ok-tried-in-Handle.ensures.is c.if-not-tried.true)

pub step_brings-returns-in_ok-yes-in-Handle : goal.step_brings-returns-in_ok-yes-in-Handle
step_brings-returns-in_ok-yes-in-Handle t c = let-brings c.args.tables.now c.args.misses c.args.ty c.args.scope.now c.handler_fits.new.scope c.declare-in-Handle.new.scope c.in-Handle.binding (clean.handle (tree_of (reading c.args.tables.now) c.deref-in-Handle.result.now) c.in-Handle.packet (tree_of (reading c.args.tables.now) c.deref-in-Handle-2.result.now)) (step_of (reading c.args.tables.now) c.args.step.now) c.in_ok-caught-in-Handle.caught c.in_ok-yes-in-Handle.yes (handle-is (reading c.args.tables.now) c.args.step.now c.in-Handle.binding c.in-Handle.body c.in-Handle.handler c.in-Handle.packet c.deref-in-Handle.result.now c.deref-in-Handle-2.result.now c.in-Handle.is c.deref-in-Handle.ensures c.deref-in-Handle-2.ensures) (handle-caught c.args.tables.now c.args.misses c.args.ty c.args.scope.now c.exp_fits-in-Handle.new.scope c.in-Handle.packet c.in-Handle.binding.ty (tree_of (reading c.args.tables.now) c.deref-in-Handle.result.now) (tree_of (reading c.args.tables.now) c.deref-in-Handle-2.result.now) c.in_ok-tried-in-Handle.tried c.in_ok-caught-in-Handle.caught c.in_ok-tried-in-Handle.ensures.is c.if-not-tried.false (c.in_ok-tried-in-Handle.ensures.kept c.if-not-tried.false) c.in_ok-caught-in-Handle.ensures.is) (λ y. c.in_ok-caught-in-Handle.ensures.kept y ∙ c.in_ok-tried-in-Handle.ensures.kept c.if-not-tried.false) c.in_ok-yes-in-Handle.ensures.new c.in_ok-yes-in-Handle.ensures.bound

pub step_brings-returns-in_ok-yes-in-Exception : goal.step_brings-returns-in_ok-yes-in-Exception
step_brings-returns-in_ok-yes-in-Exception t c = exception-brings c.args.tables.now c.args.misses c.args.ty c.args.scope.now c.bring.new.scope c.in-Exception.variable c.in-Exception.identifier c.in-Exception.argument (step_of (reading c.args.tables.now) c.args.step.now) c.in_ok-yes-in-Exception.yes (exception-is (reading c.args.tables.now) c.args.step.now c.in-Exception.variable c.in-Exception.identifier c.in-Exception.argument c.in-Exception.is) c.in_ok-yes-in-Exception.ensures.new c.in_ok-yes-in-Exception.ensures.bound

pub step_brings-returns-in_ok-yes-in-Name : goal.step_brings-returns-in_ok-yes-in-Name
step_brings-returns-in_ok-yes-in-Name t c = name-brings c.args.tables.now c.args.misses c.args.ty c.args.scope.now c.bring_name.new.scope c.in-Name.variable (exception_of (reading c.args.tables.now) c.in-Name.named) (step_of (reading c.args.tables.now) c.args.step.now) c.in_ok-yes-in-Name.yes (name-is (reading c.args.tables.now) c.args.step.now c.in-Name.variable c.in-Name.named c.in-Name.is) (c.in_ok-yes-in-Name.ensures.new c.args.tables.now) (c.in_ok-yes-in-Name.ensures.bound c.args.tables.now)

pub step_brings-returns-then-not-new : goal.step_brings-returns-then-not-new
step_brings-returns-then-not-new t c = group-known c.args.tables.now c.args.misses c.args.ty c.args.scope.now c.deref-in-Group.result.now (step_of (reading c.args.tables.now) c.args.step.now) (group-is (reading c.args.tables.now) c.args.step.now c.in-Group.field-0 c.in-Group.functions c.deref-in-Group.result.now c.in-Group.is c.deref-in-Group.ensures.value) c.bind_functions.new.scope c.in_ok-new-in-Group.new (c.in_ok-new-in-Group.ensures.new c.args.tables.now) c.if-not-new.true

pub step_brings-returns-in_ok-fit-in-Group : goal.step_brings-returns-in_ok-fit-in-Group
step_brings-returns-in_ok-fit-in-Group t c = group-brings c.args.tables.now c.args.misses c.args.ty c.args.scope.now c.deref-in-Group.result.now (step_of (reading c.args.tables.now) c.args.step.now) (group-is (reading c.args.tables.now) c.args.step.now c.in-Group.field-0 c.in-Group.functions c.deref-in-Group.result.now c.in-Group.is c.deref-in-Group.ensures.value) c.bind_functions.new.scope c.functions_fit.new.scope c.in_ok-new-in-Group.new c.in_ok-fit-in-Group.fit (c.in_ok-new-in-Group.ensures.new c.args.tables.now) c.if-not-new.false (c.in_ok-new-in-Group.ensures.bound c.if-not-new.false) (c.in_ok-fit-in-Group.ensures.is ∙ ap (functions_right c.args.tables.now c.bind_functions.new.scope) (c.deref-in-Group-2.ensures.value ∙ sym c.deref-in-Group.ensures.value)) c.in_ok-fit-in-Group.ensures.kept

pub step_brings-returns-in_ok-yes-in-Test : goal.step_brings-returns-in_ok-yes-in-Test
step_brings-returns-in_ok-yes-in-Test t c = brings-at c.args.tables.now c.args.misses c.args.ty c.args.scope.now c.test_brings.new.scope c.in_ok-yes-in-Test.yes (test-is (reading c.args.tables.now) c.args.step.now c.in-Test.atom c.in-Test.of c.in-Test.case c.in-Test.others c.deref-in-Test.result.now c.in-Test.is c.deref-in-Test.ensures.value) c.in_ok-yes-in-Test.ensures

pub step_brings-returns-in-Counted : goal.step_brings-returns-in-Counted
step_brings-returns-in-Counted t c = counted-brings c.args.tables.now c.args.misses c.args.ty c.args.scope.now c.in-Counted.field-0 (step_of (reading c.args.tables.now) c.args.step.now) (counted-is (reading c.args.tables.now) c.args.step.now c.in-Counted.field-0 c.in-Counted.is)

pub test_brings-returns-then-not-misses : goal.test_brings-returns-then-not-misses
test_brings-returns-then-not-misses t c = test-misses c.args.tables.now c.args.misses c.args.ty c.args.scope.now c.args.atom c.args.of c.args.case (arms_of (map (arm_of (reading c.args.tables.now)) c.args.others.now)) c.args.scope.now c.if-not-misses.true

pub test_brings-returns-then-not-is_atom : goal.test_brings-returns-then-not-is_atom
test_brings-returns-then-not-is_atom t c = test-atom c.args.tables.now c.args.misses c.args.ty c.args.scope.now c.args.atom c.args.of c.args.case (arms_of (map (arm_of (reading c.args.tables.now)) c.args.others.now)) c.args.scope.now c.is_atom.result c.is_atom.ensures c.if-not-is_atom.true

pub test_brings-returns-then-not-fit : goal.test_brings-returns-then-not-fit
test_brings-returns-then-not-fit t c = test-arms c.args.tables.now c.args.misses c.args.ty c.args.scope.now c.args.atom c.args.of c.args.case (arms_of (map (arm_of (reading c.args.tables.now)) c.args.others.now)) c.arms_fit.new.scope c.in_ok-fit.fit c.if-not-misses.false c.in_ok-fit.ensures.is c.if-not-fit.true

pub test_brings-returns : goal.test_brings-returns
test_brings-returns t c = test-brings c.args.tables.now c.args.misses c.args.ty c.args.scope.now c.args.atom c.args.of c.args.case (arms_of (map (arm_of (reading c.args.tables.now)) c.args.others.now)) c.arms_fit.new.scope c.bind_case.new.scope c.is_atom.result c.in_ok-fit.fit c.in_ok-opens.opens c.if-not-misses.false c.is_atom.ensures c.if-not-is_atom.false c.in_ok-fit.ensures.is c.if-not-fit.false (c.in_ok-fit.ensures.kept c.if-not-fit.false) c.in_ok-opens.ensures.right c.in_ok-opens.ensures.opened

pub handler_fits-returns-then-not-new-clause-is : goal.handler_fits-returns-then-not-new-clause-is
handler_fits-returns-then-not-new-clause-is t c = handler-known c.args.tables.now c.args.scope.now c.args.packet c.args.ty c.args.handler.now c.in_ok-new.new c.in_ok-new.ensures.new c.if-not-new.true

pub handler_fits-returns-clause-is : goal.handler_fits-returns-clause-is
handler_fits-returns-clause-is t c = handler-fits c.args.tables.now c.args.scope.now c.args.packet c.args.ty c.args.handler.now c.bring.new.scope c.in_ok-new.new c.in_ok-caught.caught c.in_ok-new.ensures.new c.if-not-new.false (c.in_ok-new.ensures.bound c.if-not-new.false) c.in_ok-caught.ensures.is

pub handler_fits-returns-clause-kept : goal.handler_fits-returns-clause-kept
handler_fits-returns-clause-kept t c = λ y. back-to c.args.scope.now c.exp_fits.new.scope c.restore.new.self c.mark-place.result (more-at c.args.scope.now (holding c.args.scope.now c.args.packet (OfType c.args.tables.now.exn)) c.exp_fits.new.scope (c.in_ok-caught.ensures.kept y ∙ c.in_ok-new.ensures.bound c.if-not-new.false) (more-one c.args.scope.now c.args.packet (OfType c.args.tables.now.exn))) c.mark-place.ensures.len c.mark-place.ensures.start c.restore.ensures

pub fun_fits-returns-in-None-clause-is : goal.fun_fits-returns-in-None-clause-is
fun_fits-returns-in-None-clause-is t c = fun-unentered c.args.tables.now c.args.scope.now c.enter_function.new.scope c.args.parameters.now c.args.last c.args.ty c.args.body.now c.in_ok-found.found c.in_ok-found.ensures c.in-None.is

pub fun_fits-returns-clause-is : goal.fun_fits-returns-clause-is
fun_fits-returns-clause-is t c = fun-fits c.args.tables.now c.args.scope.now c.enter_function.new.scope c.args.parameters.now c.args.last c.args.ty c.args.body.now c.in_ok-found.found c.in_ok-found.ensures c.in-Some.of c.in_ok-ends.ends c.in-Some.is c.in_ok-ends.ensures.is

pub fun_fits-returns-clause-kept : goal.fun_fits-returns-clause-kept
fun_fits-returns-clause-kept t c = λ y. back-to c.args.scope.now c.exp_fits.new.scope c.restore.new.self c.mark-place.result (more-at c.args.scope.now c.enter_function.new.scope c.exp_fits.new.scope (c.in_ok-ends.ensures.kept y) (c.in_ok-found.ensures.grows c.in-Some.of c.in-Some.is)) c.mark-place.ensures.len c.mark-place.ensures.start c.restore.ensures

pub function_fits-returns-clause-is : goal.function_fits-returns-clause-is
function_fits-returns-clause-is t c = function-fits c.args.tables.now c.args.scope.now c.args.function.now c.deref.result.now c.in_ok-fits.fits c.deref.ensures.value c.in_ok-fits.ensures.is
