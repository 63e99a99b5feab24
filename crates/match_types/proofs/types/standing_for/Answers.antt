use Rattle.std.proofs.Common.{sym, ◌∙◌}
use Rattle.match_types.proofs.Standing.{standing-found, standing-none}
use Rattle.match_types.proofs.types.standing_for.Goals as goal

pub returns-in_ok-k-in-Some-clause-is : goal.returns-in_ok-k-in-Some-clause-is
returns-in_ok-k-in-Some-clause-is c = c.in_ok-k-in-Some.ensures.is ∙ standing-found c.args.work.now.scope c.args.v _ (sym c.in-Some.is ∙ c.get.ensures)

pub returns-in_ok-k-in-None-clause-is : goal.returns-in_ok-k-in-None-clause-is
returns-in_ok-k-in-None-clause-is c = c.in_ok-k-in-None.ensures.is ∙ standing-none c.args.work.now.scope c.args.v (sym c.in-None.is ∙ c.get.ensures)
