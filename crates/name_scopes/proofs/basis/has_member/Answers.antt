use Rattle.std.proofs.Common.{ap, is_some, sym, ◌∙◌}
use Rattle.name_scopes.specs.Entries.{member_entries}
use Rattle.name_scopes.specs.Scopes.{value_found}
use Rattle.name_scopes.proofs.basis.has_member.Goals as goal

pub returns-in-Hidden : goal.returns-in-Hidden
returns-in-Hidden c = c.has_value-in-Hidden.ensures ∙ ap (λ s. is_some (value_found (member_entries s) c.args.vid)) (sym c.in-Hidden.is)
