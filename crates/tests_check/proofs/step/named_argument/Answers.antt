use Rattle.std.proofs.Common.{sym, ◌∙◌}
use Rattle.tests_check.proofs.Binding.{initial-named, no-initial, held-named, held-other, held-none, not-of-type, not-general, not-own}
use Rattle.tests_check.proofs.step.named_argument.Goals as goal

pub returns-then-is_initial : goal.returns-then-is_initial
returns-then-is_initial c = initial-named c.args.tables.now c.args.scope.now c.args.named c.in-Initial.number c.in-Initial.is (sym c.is_initial.ensures ∙ c.if-is_initial.true)

pub returns-else-is_initial : goal.returns-else-is_initial
returns-else-is_initial c = no-initial c.args.tables.now c.args.scope.now c.args.named c.in-Initial.number c.in-Initial.is (sym c.is_initial.ensures ∙ c.if-is_initial.false)

pub returns-in-Exception : goal.returns-in-Exception
returns-in-Exception c = held-named c.args.tables.now c.args.scope.now c.args.named c.in-Held.variable c.find.result c.in-Some.known c.in-Exception.argument c.in-Held.is c.find.ensures c.in-Some.is c.in-Exception.is

pub returns-in-OfType : goal.returns-in-OfType
returns-in-OfType c = held-other c.args.tables.now c.args.scope.now c.args.named c.in-Held.variable c.find.result c.in-Some.known c.in-Held.is c.find.ensures c.in-Some.is (not-of-type c.args.tables.now c.args.scope.now c.in-Some.known _ c.in-OfType.is)

pub returns-in-General : goal.returns-in-General
returns-in-General c = held-other c.args.tables.now c.args.scope.now c.args.named c.in-Held.variable c.find.result c.in-Some.known c.in-Held.is c.find.ensures c.in-Some.is (not-general c.args.tables.now c.args.scope.now c.in-Some.known _ _ c.in-General.is)

pub returns-in-Own : goal.returns-in-Own
returns-in-Own c = held-other c.args.tables.now c.args.scope.now c.args.named c.in-Held.variable c.find.result c.in-Some.known c.in-Held.is c.find.ensures c.in-Some.is (not-own c.args.tables.now c.args.scope.now c.in-Some.known _ c.in-Own.is)

pub returns-in-None : goal.returns-in-None
returns-in-None c = held-none c.args.tables.now c.args.scope.now c.args.named c.in-Held.variable c.find.result c.in-Held.is c.find.ensures c.in-None.is
