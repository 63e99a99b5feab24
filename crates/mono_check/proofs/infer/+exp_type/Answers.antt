use Rattle.std.proofs.Common.{map, refl, ◌∙◌}
use Rattle.plain_tree.specs.TreeOf.{arms_of, arm_of}
use Rattle.mono_operations.specs.Reads.{reading}
use Rattle.mono_check.proofs.Names.{more-at, back-to}
use Rattle.mono_check.proofs.Rolls.{steps-are, ret-is, switch-is, first-is, miss-is}
use Rattle.mono_check.proofs.Ends.{steps-none, steps-found, ret-found, switch-none, miss-none, last-none, first-none, first-found}
use Rattle.mono_check.proofs.infer.+exp_type.Goals as goal

pub returns-then-not-brings-clause-is : goal.returns-then-not-brings-clause-is
returns-then-not-brings-clause-is t c = steps-none c.args.tables.now c.args.scope.now c.args.e.now c.steps_bring.new.scope 0 c.deref.result.now c.in-Steps.rest.value c.in_ok-brings-in-Steps.brings (steps-are (reading c.args.tables.now) c.args.e.now c.in-Steps.steps c.in-Steps.rest c.deref.result.now c.in-Steps.rest.value c.in-Steps.is c.deref.ensures.value refl) c.in_ok-brings-in-Steps.ensures c.if-not-brings.true

pub returns-in_ok-found-in-Steps-clause-is : goal.returns-in_ok-found-in-Steps-clause-is
returns-in_ok-found-in-Steps-clause-is t c = steps-found c.args.tables.now c.args.scope.now c.args.e.now c.steps_bring.new.scope 0 c.deref.result.now c.deref-in-Steps.result.now c.in_ok-brings-in-Steps.brings c.in_ok-found-in-Steps.found (steps-are (reading c.args.tables.now) c.args.e.now c.in-Steps.steps c.in-Steps.rest c.deref.result.now c.deref-in-Steps.result.now c.in-Steps.is c.deref.ensures.value c.deref-in-Steps.ensures) c.in_ok-brings-in-Steps.ensures c.if-not-brings.false c.in_ok-found-in-Steps.ensures.is

pub returns-in_ok-found-in-Steps-clause-kept : goal.returns-in_ok-found-in-Steps-clause-kept
returns-in_ok-found-in-Steps-clause-kept t c = λ k e. back-to c.args.scope.now c.exp_type.new.scope c.restore.new.self c.mark-place.result (more-at c.args.scope.now c.steps_bring.new.scope c.exp_type.new.scope (c.in_ok-found-in-Steps.ensures.kept k e) (c.in_ok-brings-in-Steps.ensures.grows c.if-not-brings.false)) c.mark-place.ensures.len c.mark-place.ensures.start c.restore.ensures

pub returns-in-Ret-clause-is : goal.returns-in-Ret-clause-is
returns-in-Ret-clause-is t c = ret-found c.args.tables.now c.args.scope.now c.args.e.now c.in-Ret.atom c.atom_type.result (ret-is (reading c.args.tables.now) c.args.e.now c.in-Ret.atom c.in-Ret.is) c.atom_type.ensures

pub returns-in-Switch-clause-is : goal.returns-in-Switch-clause-is
returns-in-Switch-clause-is t c = switch-none c.args.tables.now c.args.scope.now c.args.e.now c.in-Switch.atom c.in-Switch.ty (arms_of (map (arm_of (reading c.args.tables.now)) c.in-Switch.arms.items)) (switch-is (reading c.args.tables.now) c.args.e.now c.in-Switch.atom c.in-Switch.ty c.in-Switch.arms c.in-Switch.arms.items c.in-Switch.is refl)

pub returns-in-Miss-clause-is : goal.returns-in-Miss-clause-is
returns-in-Miss-clause-is t c = miss-none c.args.tables.now c.args.scope.now c.args.e.now (miss-is (reading c.args.tables.now) c.args.e.now c.in-Miss.is)

pub returns-in-None-clause-is : goal.returns-in-None-clause-is
returns-in-None-clause-is t c = last-none c.args.tables.now c.args.scope.now c.args.e.now c.in-First.attempts.items c.deref-in-First.result.now (first-is (reading c.args.tables.now) c.args.e.now c.in-First.attempts c.in-First.last c.in-First.attempts.items c.deref-in-First.result.now c.in-First.is refl c.deref-in-First.ensures) c.in_ok-found-in-First.found c.in_ok-found-in-First.ensures.is c.in-None.is

pub returns-then-not-yes-clause-is : goal.returns-then-not-yes-clause-is
returns-then-not-yes-clause-is t c = first-none c.args.tables.now c.args.scope.now c.args.e.now c.deref-in-First-2.result.now c.deref-in-First.result.now (first-is (reading c.args.tables.now) c.args.e.now c.in-First.attempts c.in-First.last c.deref-in-First-2.result.now c.deref-in-First.result.now c.in-First.is c.deref-in-First-2.ensures.value c.deref-in-First.ensures) c.in_ok-found-in-First.found c.in_ok-found-in-First.ensures.is c.in-Some.given c.in-Some.is c.exp_type-in-First.new.scope c.in_ok-yes-in-First.yes (c.in_ok-found-in-First.ensures.kept c.in-Some.given c.in-Some.is) c.in_ok-yes-in-First.ensures.is c.if-not-yes.true

pub returns-else-not-yes-clause-is : goal.returns-else-not-yes-clause-is
returns-else-not-yes-clause-is t c = first-found c.args.tables.now c.args.scope.now c.args.e.now c.deref-in-First-2.result.now c.deref-in-First.result.now (first-is (reading c.args.tables.now) c.args.e.now c.in-First.attempts c.in-First.last c.deref-in-First-2.result.now c.deref-in-First.result.now c.in-First.is c.deref-in-First-2.ensures.value c.deref-in-First.ensures) c.in_ok-found-in-First.found c.in_ok-found-in-First.ensures.is c.in-Some.given c.in-Some.is c.exp_type-in-First.new.scope c.in_ok-yes-in-First.yes (c.in_ok-found-in-First.ensures.kept c.in-Some.given c.in-Some.is) c.in_ok-yes-in-First.ensures.is c.if-not-yes.false

pub returns-else-not-yes-clause-kept : goal.returns-else-not-yes-clause-kept
returns-else-not-yes-clause-kept t c = λ _ _. c.in_ok-yes-in-First.ensures.kept c.if-not-yes.false ∙ c.in_ok-found-in-First.ensures.kept c.in-Some.given c.in-Some.is
