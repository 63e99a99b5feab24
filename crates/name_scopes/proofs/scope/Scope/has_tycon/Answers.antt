use Rattle.std.proofs.Common.{ap, is_some, reverse, ◌∙◌}
use Rattle.name_scopes.specs.Scopes.{tycon_found}
use Rattle.name_scopes.proofs.Finding.{count-is-found, found-count}
use Rattle.name_scopes.proofs.scope.Scope.has_tycon.Goals as goal

pub returns : goal.returns
returns c =
    c.is_some.ensures
    ∙ count-is-found (reverse c.self.inside.bound.items) c.args.name c.count_of.result
    (found-count c.self.inside.bound.items c.self.inside.latest c.self.invariant c.args.name c.tycon_key.result c.find.result c.count_of.result c.tycon_key.ensures c.find.ensures c.count_of.ensures)
    ∙ ap (λ bs. is_some (tycon_found bs c.args.name)) c.self.view_is
