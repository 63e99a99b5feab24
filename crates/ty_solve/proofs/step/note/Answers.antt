use Rattle.ty_solve.proofs.Comparing.{pair-new, pair-old}
use Rattle.ty_solve.proofs.step.note.Goals as goal

pub returns-clause-new : goal.returns-clause-new
returns-clause-new c = λ e. pair-new c.args.compared.now.keys c.insert.new.self.keys c.args.a c.args.b c.in_ok-new.new c.in_ok-new.ensures.added c.in_ok-new.ensures.keys e

pub returns-clause-old : goal.returns-clause-old
returns-clause-old c = λ e. pair-old c.args.compared.now.keys c.insert.new.self.keys c.args.a c.args.b c.in_ok-new.new c.in_ok-new.ensures.added c.in_ok-new.ensures.keys e
