use Rattle.name_scopes.proofs.Finding.{left-keyed, left-view}
use Rattle.name_scopes.proofs.scope.Scope.leave.Goals as goal

pub invariant_of-self : goal.invariant_of-self
invariant_of-self c =
    left-keyed c.self.inside.bound.items c.truncate.new.self.items c.self.inside.latest c.truncate-2.new.self c.args.len c.self.invariant c.truncate.ensures.items c.truncate-2.ensures

pub returns : goal.returns
returns c = left-view c.self.inside.bound.items c.truncate.new.self.items c.args.self.now c.args.len c.self.view_is c.truncate.ensures.items
