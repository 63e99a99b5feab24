use Rattle.core_rules.proofs.BoundProperly.{typed-binds-properly}
use Rattle.core_rules.proofs.law.typed_binds_properly.Goals as goal

pub returns : goal.returns
returns c = typed-binds-properly
