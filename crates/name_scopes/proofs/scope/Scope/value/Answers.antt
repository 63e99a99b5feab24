use Rattle.std.proofs.Common.{ap, ◌∙◌}
use Rattle.name_scopes.specs.Scopes.{value_found}
use Rattle.name_scopes.proofs.Finding.{found-value}
use Rattle.name_scopes.proofs.scope.Scope.value.Goals as goal

pub returns : goal.returns
returns c =
    found-value c.self.inside.bound.items c.self.inside.latest c.self.invariant c.args.vid c.vid_key.result c.find.result c.variable_of.result c.vid_key.ensures c.find.ensures
    c.variable_of.ensures ∙ ap (λ bs. value_found bs c.args.vid) c.self.view_is
