use Rattle.mlc_program.specs.CommandOf.{command_of}
use Rattle.mlc_program.proofs.Exiting.{run-exit}
use Rattle.mlc_program.proofs.exec.exec.Goals as goal

pub run-requires-clause-goes : goal.run-requires-clause-goes
run-requires-clause-goes g c =
    let compiles = c.in-Ok.ensures.compiled in
    let runs = compiles.same c.args.command.now.heap c.args.command.now.stack c.requires.heap_least c.requires.heap_most c.requires.stack_least c.requires.stack_most in
    runs.never_stuck c.args.command.now.steps

pub returns-in-Ok : goal.returns-in-Ok
returns-in-Ok g c = run-exit _ _ _ _ (command_of c.args.command.now) c.in-Ok.image c.in-Ok.ensures.program c.in-Ok.ensures.compiled c.in-Ok.ensures.written c.run.result c.run.ensures
