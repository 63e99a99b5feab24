use Rattle.std.proofs.Common.{ap, ◌∙◌}
use Rattle.name_scopes.specs.Scopes.{structure_found}
use Rattle.name_scopes.proofs.Finding.{found-structure}
use Rattle.name_scopes.proofs.scope.Scope.structure.Goals as goal

pub returns : goal.returns
returns c =
    found-structure c.self.inside.bound.items c.self.inside.latest c.self.invariant c.args.name c.structure_key.result c.find.result c.members_of.result c.structure_key.ensures c.find.ensures
    c.members_of.ensures ∙ ap (λ bs. structure_found bs c.args.name) c.self.view_is
