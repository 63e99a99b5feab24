use Rattle.std.proofs.Common.{length, ap, sym, ◌∙◌}
use Rattle.ty_solve.specs.SlotsOf.{row_of}
use Rattle.ty_solve.proofs.RowResults.{copied, below-as}
use Rattle.ty_solve.proofs.bind.own_row.Goals as goal

pub returns-in_ok-copy_row-in-Some-clause-own : goal.returns-in_ok-copy_row-in-Some-clause-own
returns-in_ok-copy_row-in-Some-clause-own c = c.in-Some.ensures.is ∙ ap row_of (sym (copied c.args.s.now.types _ _ _ c.in-Some.row.now c.in_ok-copy_row-in-Some.ensures.equality c.in_ok-copy_row-in-Some.ensures.labels c.in_ok-copy_row-in-Some.ensures.types))

pub returns-in_ok-copy_row-in-Some-clause-held : goal.returns-in_ok-copy_row-in-Some-clause-held
returns-in_ok-copy_row-in-Some-clause-held c = below-as (length c.args.s.now.types) _ _ c.in_ok-copy_row-in-Some.ensures.types c.in-Some.ensures.held
