use Rattle.core_rules.proofs.LookUps.{later-wins}
use Rattle.core_rules.proofs.law.later_wins.Goals as goal

pub returns : goal.returns
returns c = later-wins
