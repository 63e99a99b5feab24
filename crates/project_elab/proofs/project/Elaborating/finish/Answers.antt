use Rattle.std.proofs.Common.{subst, ◌∙◌}
use Rattle.elab_finish.specs.of_final_types.Programs.{IsProgramWith}
use Rattle.project_elab.proofs.Finishing.{finished-right}
use Rattle.project_elab.proofs.project.Elaborating.finish.Goals as goal

pub returns-clause-program : goal.returns-clause-program
returns-clause-program c = λ prelude parts h.
    (finished-right c.args.self.now prelude parts h c.in_ok-ended.ensures c.in_ok-program.program c.with_exceptions.result c.in_ok-exceptions.exceptions c.deref.result.now
    c.in_ok-exceptions.ensures c.with_exceptions.ensures (c.deref.ensures.value ∙ c.in_ok-put_count.ensures)
    (subst (λ s. IsProgramWith s c.deref.result.now c.in_ok-program.program) c.replace-state.ensures.value c.in_ok-program.ensures)).program

pub returns-clause-counted : goal.returns-clause-counted
returns-clause-counted c = λ prelude parts h.
    (finished-right c.args.self.now prelude parts h c.in_ok-ended.ensures c.in_ok-program.program c.with_exceptions.result c.in_ok-exceptions.exceptions c.deref.result.now
    c.in_ok-exceptions.ensures c.with_exceptions.ensures (c.deref.ensures.value ∙ c.in_ok-put_count.ensures)
    (subst (λ s. IsProgramWith s c.deref.result.now c.in_ok-program.program) c.replace-state.ensures.value c.in_ok-program.ensures)).counted

pub returns-clause-well_typed : goal.returns-clause-well_typed
returns-clause-well_typed c = λ prelude parts h.
    (finished-right c.args.self.now prelude parts h c.in_ok-ended.ensures c.in_ok-program.program c.with_exceptions.result c.in_ok-exceptions.exceptions c.deref.result.now
    c.in_ok-exceptions.ensures c.with_exceptions.ensures (c.deref.ensures.value ∙ c.in_ok-put_count.ensures)
    (subst (λ s. IsProgramWith s c.deref.result.now c.in_ok-program.program) c.replace-state.ensures.value c.in_ok-program.ensures)).well
