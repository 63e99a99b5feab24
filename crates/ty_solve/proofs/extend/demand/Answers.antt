use Rattle.std.proofs.Common.{◌≡◌, true, length, sym, subst}
use Rattle.std.proofs.lemmas.Bool.{ltb-true}
use Rattle.ty_solve.specs.Substitution.{is_below}
use Rattle.ty_solve.specs.SlotsOf.{row_in}
use Rattle.ty_solve.specs.Said.{said}
use Rattle.ty_solve.specs.Finding.{IsWalked}
use Rattle.ty_solve.proofs.RowResults.{refuses-type, refuses-at, demands-type, closes-demands}
use Rattle.ty_solve.proofs.extend.demand.Goals as goal

pub extend-requires-clause-in_range : goal.extend-requires-clause-in_range
extend-requires-clause-in_range c = let n = length c.args.s.now.slots.items in ltb-true c.in-Var.y n (subst (λ z. is_below n z ≡ true) c.in-Var.ensures c.requires.in_bounds)

pub extend-requires-clause-open : goal.extend-requires-clause-open
extend-requires-clause-open c = subst (IsWalked (said c.args.s.now)) c.in-Var.ensures c.requires.walked

pub returns-in-Var-clause-demands : goal.returns-in-Var-clause-demands
returns-in-Var-clause-demands c = demands-type _ _ _ _ _ _ _ c.extend.result (sym c.in-Var.ensures) c.extend.ensures.demands

pub returns-in-Var-clause-cause : goal.returns-in-Var-clause-cause
returns-in-Var-clause-cause c = refuses-type (said c.args.s.now) (row_in c.args.s.now.types c.args.row.now) _ _ c.extend.result (sym c.in-Var.ensures) c.extend.ensures.cause

pub close-requires : goal.close-requires
close-requires c = c.requires.row_fits.proper

pub returns-in-Apply-clause-demands : goal.returns-in-Apply-clause-demands
returns-in-Apply-clause-demands c = closes-demands c.args.s.now.types c.args.s.now.slots.items _ _ (row_in c.args.s.now.types c.args.row.now) _ _ c.close.result c.requires.row_fits c.requires.in_bounds (sym c.in-Apply.ensures.0) c.close.ensures.closes

pub returns-in-Apply-clause-cause : goal.returns-in-Apply-clause-cause
returns-in-Apply-clause-cause c = refuses-at (said c.args.s.now) (row_in c.args.s.now.types c.args.row.now) _ _ c.close.result (sym c.in-Apply.ensures.0) c.close.ensures.cause
