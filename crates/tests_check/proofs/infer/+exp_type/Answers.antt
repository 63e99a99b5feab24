use Rattle.std.proofs.Common.{[], map, refl, ◌∙◌}
use Rattle.ty_table.specs.TypeAt.{type_at}
use Rattle.ir_poly.specs.Tests.{inst}
use Rattle.ir_known.specs.Knows.{marks_of}
use Rattle.plain_tree.specs.TreeOf.{arms_of, arm_of}
use Rattle.tests_check.specs.Reads.{reading}
use Rattle.tests_check.proofs.Steps.{back-to, grown-within}
use Rattle.tests_check.proofs.Rolls.{steps-are, ret-is, switch-is, first-is, miss-is}
use Rattle.tests_check.proofs.Ends.{steps-type, steps-none, steps-refused-type, ret-typed, ret-untyped, switch-none, miss-none, first-type, first-none, last-none, type-is}
use Rattle.tests_check.proofs.infer.+exp_type.Goals as goal

pub returns-then-not-brings-clause-none : goal.returns-then-not-brings-clause-none
returns-then-not-brings-clause-none t c = λ _. steps-refused-type c.args.tables.now (marks_of c.args.marks.now) c.args.scope.now c.args.e.now c.in-Steps.rest.value c.deref.result.now 0 (steps-are (reading c.args.tables.now) c.args.e.now c.in-Steps.steps c.in-Steps.rest c.deref.result.now c.in-Steps.rest.value c.in-Steps.is c.deref.ensures.value refl) (c.in_ok-brings-in-Steps.ensures.no c.if-not-brings.true)

pub returns-in_ok-found-in-Steps-clause-some : goal.returns-in_ok-found-in-Steps-clause-some
returns-in_ok-found-in-Steps-clause-some t c = λ k e. steps-type c.args.tables.now (marks_of c.args.marks.now) (marks_of c.steps_bring.new.marks) c.args.scope.now c.steps_bring.new.scope c.args.e.now c.deref-in-Steps.result.now c.deref.result.now 0 k (steps-are (reading c.args.tables.now) c.args.e.now c.in-Steps.steps c.in-Steps.rest c.deref.result.now c.deref-in-Steps.result.now c.in-Steps.is c.deref.ensures.value c.deref-in-Steps.ensures)
    (c.in_ok-brings-in-Steps.ensures.marks c.if-not-brings.false) (c.in_ok-brings-in-Steps.ensures.yes c.if-not-brings.false) (c.in_ok-found-in-Steps.ensures.some k e)

pub returns-in_ok-found-in-Steps-clause-none : goal.returns-in_ok-found-in-Steps-clause-none
returns-in_ok-found-in-Steps-clause-none t c = λ e. steps-none c.args.tables.now (marks_of c.args.marks.now) (marks_of c.steps_bring.new.marks) c.args.scope.now c.steps_bring.new.scope c.args.e.now c.deref-in-Steps.result.now c.deref.result.now 0 (steps-are (reading c.args.tables.now) c.args.e.now c.in-Steps.steps c.in-Steps.rest c.deref.result.now c.deref-in-Steps.result.now c.in-Steps.is c.deref.ensures.value c.deref-in-Steps.ensures)
    (c.in_ok-brings-in-Steps.ensures.marks c.if-not-brings.false) (c.in_ok-brings-in-Steps.ensures.yes c.if-not-brings.false) (c.in_ok-found-in-Steps.ensures.none e)

pub returns-in_ok-found-in-Steps-clause-marks : goal.returns-in_ok-found-in-Steps-clause-marks
returns-in_ok-found-in-Steps-clause-marks t c = λ k e. c.in_ok-found-in-Steps.ensures.marks k e ∙ c.in_ok-brings-in-Steps.ensures.marks c.if-not-brings.false

pub returns-in_ok-found-in-Steps-clause-scope : goal.returns-in_ok-found-in-Steps-clause-scope
returns-in_ok-found-in-Steps-clause-scope t c = λ k e. let b = c.in_ok-brings-in-Steps.ensures.yes c.if-not-brings.false in
    back-to c.args.scope.now c.exp_type.new.scope c.restore.new.self c.mark-place.result b.grows.added (grown-within c.args.scope.now c.steps_bring.new.scope c.exp_type.new.scope b.grows (c.in_ok-found-in-Steps.ensures.scope k e)) c.mark-place.ensures.len c.mark-place.ensures.start
    c.restore.ensures

pub returns-in-Ret-clause-some : goal.returns-in-Ret-clause-some
returns-in-Ret-clause-some t c = ret-typed c.args.tables.now (marks_of c.args.marks.now) c.args.scope.now c.args.e.now c.in-Ret.atom c.atom_type.result (ret-is (reading c.args.tables.now) c.args.e.now c.in-Ret.atom c.in-Ret.is) c.atom_type.ensures

pub returns-in-Ret-clause-none : goal.returns-in-Ret-clause-none
returns-in-Ret-clause-none t c = ret-untyped c.args.tables.now (marks_of c.args.marks.now) c.args.scope.now c.args.e.now c.in-Ret.atom c.atom_type.result (ret-is (reading c.args.tables.now) c.args.e.now c.in-Ret.atom c.in-Ret.is) c.atom_type.ensures

pub returns-in-Switch-clause-none : goal.returns-in-Switch-clause-none
returns-in-Switch-clause-none t c = λ _. switch-none c.args.tables.now (marks_of c.args.marks.now) c.args.scope.now c.args.e.now (inst c.in-Switch.atom []) (type_at c.args.tables.now.types c.in-Switch.ty) (arms_of (map (arm_of (reading c.args.tables.now)) c.in-Switch.arms.items)) (switch-is (reading c.args.tables.now) c.args.e.now c.in-Switch.atom c.in-Switch.ty c.in-Switch.arms c.in-Switch.arms.items c.in-Switch.is refl)

pub returns-in-Miss-clause-none : goal.returns-in-Miss-clause-none
returns-in-Miss-clause-none t c = λ _. miss-none c.args.tables.now (marks_of c.args.marks.now) c.args.scope.now c.args.e.now (miss-is (reading c.args.tables.now) c.args.e.now c.in-Miss.is)

pub returns-in-None-clause-none : goal.returns-in-None-clause-none
returns-in-None-clause-none t c = λ _. last-none c.args.tables.now (marks_of c.args.marks.now) c.args.scope.now c.args.e.now c.deref-in-First.result.now c.in-First.attempts.items (first-is (reading c.args.tables.now) c.args.e.now c.in-First.attempts c.in-First.last c.in-First.attempts.items c.deref-in-First.result.now c.in-First.is refl c.deref-in-First.ensures) (c.in_ok-found-in-First.ensures.none c.in-None.is)

pub returns-then-not-yes-clause-none : goal.returns-then-not-yes-clause-none
returns-then-not-yes-clause-none t c = λ _. first-none c.args.tables.now (marks_of c.args.marks.now) (marks_of c.exp_type-in-First.new.marks) c.args.scope.now c.exp_type-in-First.new.scope c.args.e.now c.deref-in-First.result.now c.deref-in-First-2.result.now c.in-Some.given (first-is (reading c.args.tables.now) c.args.e.now c.in-First.attempts c.in-First.last c.deref-in-First-2.result.now c.deref-in-First.result.now c.in-First.is c.deref-in-First-2.ensures.value c.deref-in-First.ensures)
    (c.in_ok-found-in-First.ensures.marks c.in-Some.given c.in-Some.is) (c.in_ok-found-in-First.ensures.scope c.in-Some.given c.in-Some.is) (c.in_ok-found-in-First.ensures.some c.in-Some.given c.in-Some.is) (c.in_ok-yes-in-First.ensures.no c.if-not-yes.true)

pub returns-else-not-yes-clause-some : goal.returns-else-not-yes-clause-some
returns-else-not-yes-clause-some t c = λ k e. type-is c.args.tables.now (marks_of c.args.marks.now) c.args.scope.now c.args.e.now c.in-Some.given k e (first-type c.args.tables.now (marks_of c.args.marks.now) (marks_of c.exp_type-in-First.new.marks) c.args.scope.now c.exp_type-in-First.new.scope c.args.e.now c.deref-in-First.result.now c.deref-in-First-2.result.now c.in-Some.given (first-is (reading c.args.tables.now) c.args.e.now c.in-First.attempts c.in-First.last c.deref-in-First-2.result.now c.deref-in-First.result.now c.in-First.is c.deref-in-First-2.ensures.value c.deref-in-First.ensures)
    (c.in_ok-found-in-First.ensures.marks c.in-Some.given c.in-Some.is) (c.in_ok-found-in-First.ensures.scope c.in-Some.given c.in-Some.is) (c.in_ok-found-in-First.ensures.some c.in-Some.given c.in-Some.is) (c.in_ok-yes-in-First.ensures.yes c.if-not-yes.false))

pub returns-else-not-yes-clause-marks : goal.returns-else-not-yes-clause-marks
returns-else-not-yes-clause-marks t c = λ _ _. c.in_ok-yes-in-First.ensures.marks c.if-not-yes.false ∙ c.in_ok-found-in-First.ensures.marks c.in-Some.given c.in-Some.is

pub returns-else-not-yes-clause-scope : goal.returns-else-not-yes-clause-scope
returns-else-not-yes-clause-scope t c = λ _ _. c.in_ok-yes-in-First.ensures.scope c.if-not-yes.false ∙ c.in_ok-found-in-First.ensures.scope c.in-Some.given c.in-Some.is
