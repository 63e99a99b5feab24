use Rattle.std.proofs.Common.{nat_eq, ap, ◌∙◌}
use Rattle.core_rules.specs.Restrictions.{distinct}
use Rattle.restrictions.proofs.Standing.{if-ok}
use Rattle.restrictions.proofs.binds.are_tyvars_once.Goals as goal

pub returns : goal.returns
returns c = if-ok c.are_once.result (λ b k. k ∙ ap (distinct nat_eq) (c.deref.ensures.value ∙ c.in_ok-keys.ensures)) c.are_once.ensures
