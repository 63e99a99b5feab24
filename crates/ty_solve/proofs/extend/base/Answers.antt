use Rattle.std.proofs.Common.{length, ap, sym, ◌∙◌}
use Rattle.ty_table.specs.TypeAt.{types_at}
use Rattle.ty_solve.specs.SlotsOf.{row_of}
use Rattle.ty_solve.specs.Said.{said}
use Rattle.ty_solve.proofs.RowResults.{copied, below-as}
use Rattle.ty_solve.proofs.Bases.{base-none, base-any, base-class, base-row, marked}
use Rattle.ty_solve.proofs.extend.base.Goals as goal

pub returns-in_ok-copy_row-in-Some-clause-base : goal.returns-in_ok-copy_row-in-Some-clause-base
returns-in_ok-copy_row-in-Some-clause-base c =
    let s = c.args.s.now in
    base-row _ (said s) c.args.y _ s.below s.inhabited (c.in-Some.ensures.is ∙ ap row_of (sym (copied s.types _ _ _ c.in-Some.row.now c.in_ok-copy_row-in-Some.ensures.equality c.in_ok-copy_row-in-Some.ensures.labels c.in_ok-copy_row-in-Some.ensures.types)))

pub returns-in_ok-copy_row-in-Some-clause-held : goal.returns-in_ok-copy_row-in-Some-clause-held
returns-in_ok-copy_row-in-Some-clause-held c = below-as (length c.args.s.now.types) _ _ c.in_ok-copy_row-in-Some.ensures.types c.in-Some.ensures.held

pub returns-in-Any-clause-base : goal.returns-in-Any-clause-base
returns-in-Any-clause-base c = base-any _ (said c.args.s.now) c.args.y _ (marked _ _ _ (c.in-None.ensures.is c.requires) c.mark_of.ensures c.in-Any.is) c.empty.ensures.equality c.empty.ensures.labels (ap (types_at c.args.s.now.types) c.empty.ensures.types)

pub returns-in-Any-clause-held : goal.returns-in-Any-clause-held
returns-in-Any-clause-held c = below-as (length c.args.s.now.types) _ _ c.empty.ensures.types tt

pub returns-in-Equality-clause-base : goal.returns-in-Equality-clause-base
returns-in-Equality-clause-base c = base-none _ (said c.args.s.now) c.args.y _ (marked _ _ _ (c.in-None.ensures.is c.requires) c.mark_of.ensures c.in-Equality.is) c.empty-in-Equality.ensures.equality c.empty-in-Equality.ensures.labels (ap (types_at c.args.s.now.types) c.empty-in-Equality.ensures.types)

pub returns-in-Equality-clause-held : goal.returns-in-Equality-clause-held
returns-in-Equality-clause-held c = below-as (length c.args.s.now.types) _ _ c.empty-in-Equality.ensures.types tt

pub returns-in-Class-clause-cause : goal.returns-in-Class-clause-cause
returns-in-Class-clause-cause c = λ r. base-class (said c.args.s.now) c.args.y r _ (marked _ _ _ (c.in-None.ensures.is c.requires) c.mark_of.ensures c.in-Class.is)
