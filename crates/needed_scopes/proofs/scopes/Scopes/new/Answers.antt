use Rattle.needed_scopes.proofs.Holding.{none-holds}
use Rattle.needed_scopes.proofs.scopes.Scopes.new.Goals as goal

pub returns-clause-kept : goal.returns-clause-kept
returns-clause-kept c = record { sets = c.new-3.ensures.kept; holds = none-holds _ _ _ c.new.ensures c.new-2.ensures.items c.new-3.ensures.none }
