use Rattle.first_values.proofs.Lemmas.{plain-never-raises}
use Rattle.first_values.proofs.RaisingLemmas.{only-these-raise}
use Rattle.first_values.proofs.law.plain_operations_have_one_way_on.Goals as goal

pub returns-clause-primitives : goal.returns-clause-primitives
returns-clause-primitives c = only-these-raise

pub returns-clause-plain : goal.returns-clause-plain
returns-clause-plain c = plain-never-raises
