use Rattle.final_types.proofs.Stepping.{on-ok}
use Rattle.elab_finish.proofs.Right.{made-right}
use Rattle.elab_finish.proofs.elaborated.elaborated_program.Goals as goal

pub returns-clause-right : goal.returns-clause-right
returns-clause-right c = on-ok c.program_of.result (λ p ok w S C D ds l tells is last k o. made-right S c.args.state C D ds c.args.body.now l tells is last k o p w) c.program_of.ensures
