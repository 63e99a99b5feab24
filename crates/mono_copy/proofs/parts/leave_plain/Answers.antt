use Rattle.mono_parts.specs.of_tests_check.Reads.{reading}
use Rattle.mono_parts.proofs.of_tests_check.Rolls.{exception-is, name-is}
use Rattle.mono_copy.specs.Changes.{plainly_left}
use Rattle.mono_copy.proofs.Changing.{puts-as, puts-nothing}
use Rattle.mono_copy.proofs.Leaves.{exception-left, name-left}
use Rattle.mono_copy.proofs.Shapes.{none-left}
use Rattle.mono_copy.proofs.parts.leave_plain.Goals as goal

pub returns-in_ok-leave_exception-in-Exception-clause-put : goal.returns-in_ok-leave_exception-in-Exception-clause-put
returns-in_ok-leave_exception-in-Exception-clause-put c =
    exception-left c.args.step.now c.in-Exception.variable c.in-Exception.identifier c.in-Exception.argument
    (exception-is (reading c.args.tables.now) c.args.step.now c.in-Exception.variable c.in-Exception.identifier c.in-Exception.argument c.in-Exception.is)
    c.in_ok-leave_exception-in-Exception.ensures.goes c.in_ok-leave_exception-in-Exception.ensures.left

pub returns-in_ok-leave_name-in-Name-clause-put : goal.returns-in_ok-leave_name-in-Name-clause-put
returns-in_ok-leave_name-in-Name-clause-put c =
    name-left c.args.step.now c.in-Name.variable c.in-Name.exception
    (name-is (reading c.args.tables.now) c.args.step.now c.in-Name.variable c.in-Name.exception c.in-Name.is)
    c.in_ok-leave_name-in-Name.ensures.goes c.in_ok-leave_name-in-Name.ensures.left

pub returns-in_default : goal.returns-in_default
returns-in_default c = record {
  put = puts-as (plainly_left c.args.tables.now c.args.step.now)
      (λ H g s n. none-left c.args.tables.now c.args.step.now c.in_default.not-Exception c.in_default.not-Name c.in_default.not-Test c.in_default.not-Counted g s n)
      (puts-nothing c.requires);
  too_large = tt;
}
