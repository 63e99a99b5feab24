use Rattle.std.proofs.Common.{ap, nat_eq, ◌∙◌}
use Rattle.std.specs.Prelude.{is_some}
use Rattle.std.specs.Map.{lookup}
use Rattle.name_scopes.proofs.Declaring.{named-are}
use Rattle.name_scopes.proofs.FromEnd.{reaches-last}
use Rattle.name_scopes.proofs.datas.names_of.Goals as goal

pub returns : goal.returns
returns c x = ap (λ l. is_some (lookup (nat_eq x) l)) (reaches-last _ _ _ _ c.loop-i.invariant c.loop-i-test.false) ∙ named-are c.args.types.now x
