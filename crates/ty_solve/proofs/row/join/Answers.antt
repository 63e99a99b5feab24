use Rattle.std.proofs.Common.{length, sym, ◌∙◌}
use Rattle.ty_solve.specs.SlotsOf.{row_in}
use Rattle.ty_solve.proofs.RowResults.{lengths-as, others-as, meet-as, union-as, below-as}
use Rattle.ty_solve.proofs.Joining.{joins, or-then, or-else}
use Rattle.ty_solve.proofs.row.join.Goals.{then-all, else-all}
use Rattle.ty_solve.proofs.row.join.Goals as goal

pub admit_others-requires : goal.admit_others-requires
admit_others-requires c = lengths-as c.args.table.now _ _ _ _ c.deref.ensures.value c.deref-2.ensures.value c.requires.other_proper

pub admit_others-requires-2 : goal.admit_others-requires-2
admit_others-requires-2 c = lengths-as c.args.table.now _ _ _ _ c.deref-4.ensures.value c.deref-5.ensures.value c.requires.proper

pub equal_common-requires-clause-same_length : goal.equal_common-requires-clause-same_length
equal_common-requires-clause-same_length c = lengths-as c.args.table.now _ _ _ _ c.deref-7.ensures.value c.deref-8.ensures.value c.requires.proper

pub equal_common-requires-clause-other_length : goal.equal_common-requires-clause-other_length
equal_common-requires-clause-other_length c = lengths-as c.args.table.now _ _ _ _ c.deref-9.ensures.value c.deref-10.ensures.value c.requires.other_proper

pub unite-requires-clause-other_length : goal.unite-requires-clause-other_length
unite-requires-clause-other_length c = lengths-as c.args.table.now _ _ _ _ c.deref-11.ensures.value c.deref-12.ensures.value c.requires.other_proper

pub returns-clause-joins : goal.returns-clause-joins
returns-clause-joins c =
    let ts = c.args.table.now in
    joins _ _ _ _ (row_in ts c.args.row) (row_in ts c.args.other.now) _ c.requires.proper c.requires.other_proper
    (others-as ts _ _ _ _ _ _ _ _ _ c.deref.ensures.value c.deref-2.ensures.value c.deref-3.ensures.value c.in_ok-admit_others.ensures.admit)
    (others-as ts _ _ _ _ _ _ _ _ _ c.deref-4.ensures.value c.deref-5.ensures.value c.deref-6.ensures.value c.in_ok-admit_others-2.ensures.admit)
    (meet-as ts _ _ _ _ _ _ _ _ _ _ c.deref-7.ensures.value c.deref-8.ensures.value c.deref-9.ensures.value c.deref-10.ensures.value c.in_ok-equal_common.ensures.meet)
    (elim c.if-all.branch [
      | then-all w ↦ or-then _ _ _ (sym c.in_ok-unite.ensures.equality ∙ w.if-all.true) (w.all-is ∙ w.if-all.true)
      | else-all w ↦ or-else _ _ _ (sym c.in_ok-unite.ensures.equality ∙ w.if-all.false) w.all-is
    ])
    (union-as _ _ _ _ ts _ _ _ _ c.deref-11.ensures.value c.deref-12.ensures.value c.in_ok-unite.ensures.union)

pub returns-clause-held : goal.returns-clause-held
returns-clause-held c = λ a b. c.in_ok-unite.ensures.held a (below-as (length c.args.table.now) _ _ c.deref-12.ensures.value b)

pub returns-clause-held_tasks : goal.returns-clause-held_tasks
returns-clause-held_tasks c =
    let n = length c.args.table.now in
    λ a b h. c.in_ok-equal_common.ensures.held (below-as n _ _ c.deref-8.ensures.value a) (below-as n _ _ c.deref-10.ensures.value b)
    (c.in_ok-admit_others-2.ensures.held (below-as n _ _ c.deref-5.ensures.value a) (c.in_ok-admit_others.ensures.held (below-as n _ _ c.deref-2.ensures.value b) h))
