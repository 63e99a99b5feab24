use Rattle.std.proofs.Common.{ap, length, sym, ◌∙◌}
use Rattle.name_scopes.proofs.Finding.{since-view}
use Rattle.name_scopes.proofs.scope.Scope.since.Goals as goal

pub returns : goal.returns
returns c =
    since-view c.self.inside.bound.items c.deref.result.now c.in_ok-from_slice.field-0.items c.args.self.now c.args.first c.min-first.result c.len.result c.self.view_is c.deref.ensures.value (c.len.ensures ∙ sym c.deref.ensures.len ∙ ap length c.deref.ensures.value)
    c.min-first.ensures c.in_ok-from_slice.ensures.items
