use Rattle.std.proofs.Common.{nat_eq, sym, ap, ◌∙◌}
use Rattle.core_rules.specs.Restrictions.{distinct}
use Rattle.datatype_decs.proofs.declare.check_tycons.Goals as goal

pub returns : goal.returns
returns c = sym (ap (distinct nat_eq) (c.deref.ensures.value ∙ c.in_ok-tycons.ensures)) ∙ c.in_ok-check_names.ensures.once
