use Rattle.std.proofs.Common.{◌≡◌, ◌↔◌, true, false, IsTrue, sym, ◌∙◌, subst}
use Rattle.first_values.specs.WellFormed.{IsCallee}
use Rattle.first_tables.specs.TablesOf.{tables_of, callee_of}
use Rattle.first_known.proofs.CallLemmas.{set-called, no-set-called}
use Rattle.first_known.proofs.calls.is_callee.Goals as goal

pub returns-then-set-takings : goal.returns-then-set-takings
returns-then-set-takings c =
    subst (λ k. IsTrue c.both.result ↔ IsCallee (tables_of c.args.tables.now) c.args.arities.now c.args.scope.now (callee_of k) c.args.count) (sym c.in-OneOf.is)
    (set-called (tables_of c.args.tables.now) c.args.arities.now c.args.scope.now c.args.takings.now c.in-OneOf.set c.in-OneOf.closure c.args.count _ c.has.result c.fits.result c.both.result
    c.requires c.if-set-takings.true ((λ t. sym c.has.ensures ∙ t), (λ e. c.has.ensures ∙ e)) c.fits.ensures c.both.ensures)

pub returns-else-set-takings : goal.returns-else-set-takings
returns-else-set-takings c =
    subst (λ k. IsTrue false ↔ IsCallee (tables_of c.args.tables.now) c.args.arities.now c.args.scope.now (callee_of k) c.args.count) (sym c.in-OneOf.is)
    (no-set-called (tables_of c.args.tables.now) c.args.arities.now c.args.scope.now c.args.takings.now c.in-OneOf.set c.in-OneOf.closure c.args.count c.requires c.if-set-takings.false)
