use Rattle.std.proofs.Common.{ap, length, reverse, sym, ◌∙◌}
use Rattle.name_scopes.proofs.Finding.{constructors-found, found-count, none-found}
use Rattle.name_scopes.proofs.scope.Scope.constructors.Goals as goal

pub returns-in_ok-from_slice-in-Some : goal.returns-in_ok-from_slice-in-Some
returns-in_ok-from_slice-in-Some c =
    constructors-found c.self.inside.bound.items c.deref.result.now c.in_ok-from_slice-in-Some.field-0.items c.args.self.now c.args.name c.in-Some.count c.in-Some.before
    c.saturating_sub-first.result c.min-last.result c.len.result c.count_of.result
    (found-count c.self.inside.bound.items c.self.inside.latest c.self.invariant c.args.name c.tycon_key.result c.find.result c.count_of.result c.tycon_key.ensures c.find.ensures c.count_of.ensures)
    c.in-Some.is c.self.view_is c.deref.ensures.value (c.len.ensures ∙ sym c.deref.ensures.len ∙ ap length c.deref.ensures.value) c.min-last.ensures c.saturating_sub-first.ensures c.in_ok-from_slice-in-Some.ensures.items

pub returns-in-None : goal.returns-in-None
returns-in-None c =
    none-found (reverse c.self.inside.bound.items) c.args.self.now c.args.name c.count_of.result
    (found-count c.self.inside.bound.items c.self.inside.latest c.self.invariant c.args.name c.tycon_key.result c.find.result c.count_of.result c.tycon_key.ensures c.find.ensures c.count_of.ensures)
    c.in-None.is c.self.view_is
