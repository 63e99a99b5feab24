use Rattle.std.proofs.Common.{ap}
use Rattle.mono_parts.specs.of_tests_check.Reads.{reading}
use Rattle.mono_parts.proofs.of_tests_check.Rolls.{exception-is, name-is, group-is}
use Rattle.mono_parts.proofs.of_mono_state.Going.{if-both}
use Rattle.mono_copy.specs.Changes.{opened, step_opened}
use Rattle.mono_copy.proofs.Changing.{puts-as, puts-nothing}
use Rattle.mono_copy.proofs.Leaves.{opens-variable, opens-binding, opens-group}
use Rattle.mono_copy.proofs.Shapes.{none-opened}
use Rattle.mono_copy.proofs.parts.open_step.Goals as goal

pub returns-in-Exception : goal.returns-in-Exception
returns-in-Exception c =
    if-both c.enter_variable.result
    (λ x g p. opens-variable c.args.step.now c.in-Exception.variable
    (λ n. ap (λ z. opened z n) (exception-is (reading c.args.tables.now) c.args.step.now c.in-Exception.variable c.in-Exception.identifier c.in-Exception.argument c.in-Exception.is)) g p)
    c.enter_variable.ensures.goes c.enter_variable.ensures.entered

pub returns-in-Name : goal.returns-in-Name
returns-in-Name c =
    if-both c.enter_variable-in-Name.result
    (λ x g p. opens-variable c.args.step.now c.in-Name.variable (λ n. ap (λ z. opened z n) (name-is (reading c.args.tables.now) c.args.step.now c.in-Name.variable c.in-Name.field-1 c.in-Name.is)) g p)
    c.enter_variable-in-Name.ensures.goes c.enter_variable-in-Name.ensures.entered

pub returns-in-Group : goal.returns-in-Group
returns-in-Group c =
    if-both c.enter_group.result
    (λ x g p. opens-group c.args.step.now c.in-Group.parameters c.deref.result.now
    (group-is (reading c.args.tables.now) c.args.step.now c.in-Group.parameters c.in-Group.functions c.deref.result.now c.in-Group.is c.deref.ensures.value) g p)
    c.enter_group.ensures.goes c.enter_group.ensures.entered

pub returns-in-Some : goal.returns-in-Some
returns-in-Some c =
    if-both c.enter_binding.result (λ x g p. opens-binding c.args.step.now c.in-Some.binding (c.in-Some.ensures c.args.tables.now) g p)
    c.enter_binding.ensures.goes c.enter_binding.ensures.entered

pub returns-in-None : goal.returns-in-None
returns-in-None c =
    puts-as (step_opened c.args.tables.now c.args.step.now)
    (λ H g s n. none-opened c.args.tables.now c.args.step.now c.in_default.not-Exception c.in_default.not-Name c.in_default.not-Group (c.in-None.ensures c.args.tables.now) n)
    (puts-nothing c.requires)
