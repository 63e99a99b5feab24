use Rattle.mono_close.specs.Closing.{standing}
use Rattle.mono_state.proofs.Going.{goes-nowhere}
use Rattle.mono_parts.proofs.Putting.{argument-is, argument-none}
use Rattle.mono_parts.proofs.steps.argument_of.Goals as goal

pub returns-in_ok-closed-in-Some-clause-is : goal.returns-in_ok-closed-in-Some-clause-is
returns-in_ok-closed-in-Some-clause-is c = λ H l.
    argument-is H (standing H.types c.args.copier.now.slots) c.args.tables.now c.args.argument c.in-Some.ty c.in_ok-closed-in-Some.closed c.in-Some.is (c.in_ok-closed-in-Some.ensures.is H l)

pub returns-in-None-clause-goes : goal.returns-in-None-clause-goes
returns-in-None-clause-goes c = goes-nowhere c.args.tables.now.types c.args.copier.now c.requires.is_open

pub returns-in-None-clause-is : goal.returns-in-None-clause-is
returns-in-None-clause-is c = λ H l. argument-none H (standing H.types c.args.copier.now.slots) c.args.tables.now c.args.argument c.in-None.is
