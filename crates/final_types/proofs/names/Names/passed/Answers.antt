use Rattle.final_types.proofs.Numbering.{before-there, same-before}
use Rattle.final_types.proofs.names.Names.passed.Goals as goal

pub returns-else-is_late-clause-earlier : goal.returns-else-is_late-clause-earlier
returns-else-is_late-clause-earlier c = before-there c.args.self.now.namings.now c.args.k c.requires.names.ordered c.requires.there

pub returns-else-is_late-clause-same : goal.returns-else-is_late-clause-same
returns-else-is_late-clause-same c = λ x l. same-before c.args.self.now.namings.now c.args.k c.args.bound x c.requires.names.ordered c.requires.there c.requires.late l

pub returns-in-None-clause-earlier : goal.returns-in-None-clause-earlier
returns-in-None-clause-earlier c = before-there c.args.self.now.namings.now c.args.k c.requires.names.ordered c.requires.there

pub returns-in-None-clause-same : goal.returns-in-None-clause-same
returns-in-None-clause-same c = λ x l. same-before c.args.self.now.namings.now c.args.k c.args.bound x c.requires.names.ordered c.requires.there c.requires.late l
