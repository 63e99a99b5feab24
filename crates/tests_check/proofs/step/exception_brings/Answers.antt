use Rattle.std.proofs.Common.{◌++◌, refl}
use Rattle.ir_tables.specs.Tables.{parameters_of}
use Rattle.ir_known.specs.declared.known.Known.TheVariants as known
use Rattle.tests_check.proofs.Names.{none-known, not-yes}
use Rattle.tests_check.proofs.step.exception_brings.Goals as goal

pub returns-then-not-yes-clause-no : goal.returns-then-not-yes-clause-no
returns-then-not-yes-clause-no c = λ _ p _. not-yes c.if-not-yes.true (c.in_ok-yes.ensures.fits.1 p)

pub returns-clause-argument : goal.returns-clause-argument
returns-clause-argument c = λ _. c.in_ok-yes.ensures.fits.0 c.if-not-yes.false

pub returns-clause-new : goal.returns-clause-new
returns-clause-new c = (none-known c.args.tables.now.types (parameters_of c.args.tables.now) (c.args.scope.now.0 ++ c.args.scope.now.1) c.args.variable c.in_ok-new.new c.in_ok-new.ensures.new).0

pub returns-clause-no : goal.returns-clause-no
returns-clause-no c = λ f _ n. not-yes f ((none-known c.args.tables.now.types (parameters_of c.args.tables.now) (c.args.scope.now.0 ++ c.args.scope.now.1) c.args.variable c.in_ok-new.new c.in_ok-new.ensures.new).1 n)

pub returns-clause-bound : goal.returns-clause-bound
returns-clause-bound c = λ y. record { known = known.Exception c.args.argument; is = c.in_ok-new.ensures.bound y; stands = refl }
