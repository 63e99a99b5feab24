use Rattle.core_rules.proofs.Expansive.{expansive-binds-no-parameter}
use Rattle.core_rules.proofs.law.expansive_binds_no_parameter.Goals as goal

pub returns : goal.returns
returns c = expansive-binds-no-parameter
