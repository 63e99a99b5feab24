use Rattle.mono_names.proofs.Numbering.{lists-once}
use Rattle.mono_names.proofs.lists.Lists.len.Goals as goal

pub returns-clause-once : goal.returns-clause-once
returns-clause-once c = lists-once c.self.inside.lists.keys c.args.self.now c.self.view_is c.len.ensures.unique
