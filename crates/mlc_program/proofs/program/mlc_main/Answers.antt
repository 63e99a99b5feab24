use Rattle.mlc_program.specs.Exits.{line_of}
use Rattle.mlc_program.specs.Statuses.{says_usage}
use Rattle.mlc_program.specs.declared.command.TheConstants.{USAGE}
use Rattle.mlc_program.proofs.Carried.{says, is_command, when_ended, when_uncaught, when_limited, when_out_of_heap, when_out_of_stack, when_failed, when_no_memory, when_before_write, when_before_run, when_ready}
use Rattle.mlc_program.proofs.program.mlc_main.Goals as goal

pub returns-in-None-clause-line : goal.returns-in-None-clause-line
returns-in-None-clause-line g c = (USAGE.now, says_usage c.in-None.ensures.is_none, c.say.ensures)

pub returns-in-None-clause-complete : goal.returns-in-None-clause-complete
returns-in-None-clause-complete g c ready r w o = absurd (c.in-None.ensures.is_none ready.command ready.is_command)

pub returns-in-Some-clause-line : goal.returns-in-Some-clause-line
returns-in-Some-clause-line g c = rw c.tell.ensures.status (line_of c.exec-exit.result, says _ _ c.in-Some.ensures.is _ _ _ _ USAGE.now _ c.exec-exit.ensures, c.tell.ensures.line)

pub returns-in-Some-clause-usage : goal.returns-in-Some-clause-usage
returns-in-Some-clause-usage g c =
    rw c.tell.ensures.status (λ e. absurd (is_command _ _ c.in-Some.ensures.is _ _ _ _ _ c.exec-exit.ensures e), λ none. absurd (none _ c.in-Some.ensures.is))

pub returns-in-Some-clause-ended : goal.returns-in-Some-clause-ended
returns-in-Some-clause-ended g c = rw c.tell.ensures.status (when_ended _ _ c.in-Some.ensures.is _ _ _ _ _ c.exec-exit.ensures)

pub returns-in-Some-clause-uncaught : goal.returns-in-Some-clause-uncaught
returns-in-Some-clause-uncaught g c = rw c.tell.ensures.status (when_uncaught _ _ c.in-Some.ensures.is _ _ _ _ _ c.exec-exit.ensures _ _ _ _ c.tell.ensures.line)

pub returns-in-Some-clause-step_limit : goal.returns-in-Some-clause-step_limit
returns-in-Some-clause-step_limit g c = rw c.tell.ensures.status (when_limited _ _ c.in-Some.ensures.is _ _ _ _ _ c.exec-exit.ensures)

pub returns-in-Some-clause-out_of_heap : goal.returns-in-Some-clause-out_of_heap
returns-in-Some-clause-out_of_heap g c = rw c.tell.ensures.status (when_out_of_heap _ _ c.in-Some.ensures.is _ _ _ _ _ c.exec-exit.ensures)

pub returns-in-Some-clause-out_of_stack : goal.returns-in-Some-clause-out_of_stack
returns-in-Some-clause-out_of_stack g c = rw c.tell.ensures.status (when_out_of_stack _ _ c.in-Some.ensures.is _ _ _ _ _ c.exec-exit.ensures)

pub returns-in-Some-clause-write_failed : goal.returns-in-Some-clause-write_failed
returns-in-Some-clause-write_failed g c = rw c.tell.ensures.status (when_failed _ _ c.in-Some.ensures.is _ _ _ _ _ c.exec-exit.ensures)

pub returns-in-Some-clause-out_of_memory : goal.returns-in-Some-clause-out_of_memory
returns-in-Some-clause-out_of_memory g c = rw c.tell.ensures.status (when_no_memory _ _ c.in-Some.ensures.is _ _ _ _ _ c.exec-exit.ensures)

pub returns-in-Some-clause-files_stay : goal.returns-in-Some-clause-files_stay
returns-in-Some-clause-files_stay g c = rw c.tell.ensures.status (when_before_write _ _ c.in-Some.ensures.is _ _ _ _ _ c.exec-exit.ensures)

pub returns-in-Some-clause-nothing_written : goal.returns-in-Some-clause-nothing_written
returns-in-Some-clause-nothing_written g c = rw c.tell.ensures.status (when_before_run _ _ c.in-Some.ensures.is _ _ _ _ _ c.exec-exit.ensures)

pub returns-in-Some-clause-complete : goal.returns-in-Some-clause-complete
returns-in-Some-clause-complete g c = rw c.tell.ensures.status (when_ready _ _ c.in-Some.ensures.is _ _ _ _ _ c.exec-exit.ensures)
