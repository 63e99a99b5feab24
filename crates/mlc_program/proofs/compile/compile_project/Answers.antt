use Rattle.std.proofs.Common.{subst, sym}
use Rattle.mlc_faults.specs.Files.{LiesIn}
use Rattle.mlc_program.specs.CommandOf.{command_of}
use Rattle.mlc_program.proofs.Compiling.{compiled-project, refused-project}
use Rattle.mlc_program.proofs.compile.compile_project.Goals as goal

pub returns-in-NoFile-clause-exit : goal.returns-in-NoFile-clause-exit
returns-in-NoFile-clause-exit g c = (c.in-Err.ensures.files_same, rw c.in-NoFile.is at c.in-Err.ensures.missing)

pub returns-in-ReadFault-clause-exit : goal.returns-in-ReadFault-clause-exit
returns-in-ReadFault-clause-exit g c =
    (c.in-Err.ensures.files_same, rw c.in-ReadFault.is at c.in-Err.ensures.read_failed, rw c.in-ReadFault.is at c.in-Err.ensures.read_fault)

pub refusal_line-requires-in-Fault-refused-clause-place : goal.refusal_line-requires-in-Fault-refused-clause-place
refusal_line-requires-in-Fault-refused-clause-place g c =
    let is = rw c.in-Fault-refused.is at c.in-Err-compile.ensures.place in
    subst (λ p. LiesIn p c.check_project.new.files) (sym is) c.in-Ok.ensures.some

pub returns-in-Fault-refused-clause-exit : goal.returns-in-Fault-refused-clause-exit
returns-in-Fault-refused-clause-exit g c =
    let refused = rw c.in-Fault-refused.is at c.in-Err-compile.ensures.refused in
    (c.in-Ok.ensures.files_same, refused-project _ (command_of c.args.command.now) _ _ _ _ _ c.in-Ok.ensures.project refused c.in_ok-line-in-Fault-refused.ensures)

pub returns-clause-compiled : goal.returns-clause-compiled
returns-clause-compiled g c = compiled-project _ (command_of c.args.command.now) _ _ _ _ c.in-Ok.ensures.project c.in-Ok-compile.ensures.same
