use Rattle.prog_binders.proofs.Counting.{extended}
use Rattle.prog_binders.proofs.exps.push_variables.Goals as goal

pub returns : goal.returns
returns c = extended c.args.variables.now c.args.found.now.items c.extend_from_slice.new.self.items c.in_ok-extend_from_slice.ensures.items
