use Rattle.mono_needed.proofs.Counts.{all-counted, more-past}
use Rattle.mono_needed.proofs.law.any_order_counts.Goals as goal

pub returns-clause-all : goal.returns-clause-all
returns-clause-all c = all-counted

pub returns-clause-past : goal.returns-clause-past
returns-clause-past c = more-past
