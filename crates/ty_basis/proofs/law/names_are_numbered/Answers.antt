use Rattle.ty_basis.proofs.NameLemmas.{names-are-numbered, overloaded-come-first}
use Rattle.ty_basis.proofs.law.names_are_numbered.Goals as goal

pub returns-clause-numbered : goal.returns-clause-numbered
returns-clause-numbered c = names-are-numbered

pub returns-clause-overloaded : goal.returns-clause-overloaded
returns-clause-overloaded c = overloaded-come-first
