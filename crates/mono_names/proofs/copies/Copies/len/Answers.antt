use Rattle.mono_names.proofs.Numbering.{copies-once}
use Rattle.mono_names.proofs.copies.Copies.len.Goals as goal

pub returns-clause-once : goal.returns-clause-once
returns-clause-once c = copies-once c.self.inside.copies.keys c.args.self.now c.self.view_is c.len.ensures.unique
