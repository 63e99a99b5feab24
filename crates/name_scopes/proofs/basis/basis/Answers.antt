use Rattle.std.proofs.Common.{rules, subst, sym, ◌≡◌}
use Rattle.core_rules.specs.Initial.{initial_env}
use Rattle.name_scopes.specs.Basis.{initial_bounds}
use Rattle.name_scopes.specs.Covering.{Covers}
use Rattle.name_scopes.proofs.Initially.{initially-covers}
use Rattle.name_scopes.proofs.basis.basis.Goals as goal

pub returns-clause-covers : goal.returns-clause-covers
returns-clause-covers c =
    let e : c.bind_rows.new.scope ≡ initial_bounds = search rules in
    subst (λ bs. Covers bs initial_env) (sym e) initially-covers
