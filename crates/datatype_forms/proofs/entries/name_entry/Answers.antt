use Rattle.std.proofs.Common.{refl}
use Rattle.datatype_forms.proofs.entries.name_entry.Goals as goal

pub returns-clause-is : goal.returns-clause-is
returns-clause-is c = record { arity = refl; body = c.in_ok-body.ensures.is }
