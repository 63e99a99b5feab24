use Rattle.std.proofs.Common.{map, length, MatchOption, subst, ◌∙◌, refl}
use Rattle.mlc_names.specs.declared.label.Label.{Label}
use Rattle.ty_table.specs.TypeAt.{type_at, types_at}
use Rattle.ty_solve.specs.Rows.{Among, IsProper}
use Rattle.ty_solve.specs.Fields.{IsLacking}
use Rattle.ty_solve.specs.SlotsOf.{row_in}
use Rattle.ty_solve.proofs.Arms.{all-length}
use Rattle.ty_solve.proofs.Labels.{proper-lengths}
use Rattle.ty_solve.proofs.RowResults.{lengths-as, others-as, meet-as, lacking-as, within-as, below-as, improper-as}
use Rattle.ty_solve.proofs.Joining.{improper-clash, lacking-clash, closes}
use Rattle.ty_solve.proofs.close.close_record.Goals as goal

pub returns-then-not-proper-clause-cause : goal.returns-then-not-proper-clause-cause
returns-then-not-proper-clause-cause c =
    let ts = c.args.table.now in
    λ s. improper-clash s (row_in ts c.args.row.now) c.args.labels.now _ (improper-as _ (IsProper c.args.labels.now (types_at ts c.args.types.now)) (c.in_ok-proper.ensures ts).1 c.if-not-proper.true)

pub equal_common-requires-clause-same_length : goal.equal_common-requires-clause-same_length
equal_common-requires-clause-same_length c = let ts = c.args.table.now in proper-lengths c.args.labels.now (map (type_at ts) c.args.types.now) ((c.in_ok-proper.ensures ts).0 c.if-not-proper.false) ∙ all-length ts c.args.types.now

pub equal_common-requires-clause-other_length : goal.equal_common-requires-clause-other_length
equal_common-requires-clause-other_length c = lengths-as c.args.table.now _ _ _ _ c.deref-in-None.ensures.value c.deref-in-None-2.ensures.value c.requires

pub admit_others-requires : goal.admit_others-requires
admit_others-requires c = let ts = c.args.table.now in proper-lengths c.args.labels.now (map (type_at ts) c.args.types.now) ((c.in_ok-proper.ensures ts).0 c.if-not-proper.false) ∙ all-length ts c.args.types.now

pub returns-in-Some-clause-cause : goal.returns-in-Some-clause-cause
returns-in-Some-clause-cause c = λ s. lacking-clash s (row_in c.args.table.now c.args.row.now) c.args.labels.now _ _ c.requires (lacking-as _ _ _ _ c.deref.ensures.value (subst (λ o. MatchOption o ((l : Label) → Among l c.deref.result.now → Among l c.args.labels.now) (IsLacking c.deref.result.now c.args.labels.now)) c.in-Some.is c.in_ok-missing.ensures))

pub returns-in_ok-admit_others-in-None-clause-closes : goal.returns-in_ok-admit_others-in-None-clause-closes
returns-in_ok-admit_others-in-None-clause-closes c =
    let ts = c.args.table.now in
    closes _ _ _ (row_in ts c.args.row.now) c.args.labels.now _ ((c.in_ok-proper.ensures ts).0 c.if-not-proper.false) (within-as _ _ _ c.deref.ensures.value (subst (λ o. MatchOption o ((l : Label) → Among l c.deref.result.now → Among l c.args.labels.now) (IsLacking c.deref.result.now c.args.labels.now)) c.in-None.is c.in_ok-missing.ensures))
    (meet-as ts _ _ _ _ _ _ _ _ _ _ refl refl c.deref-in-None.ensures.value c.deref-in-None-2.ensures.value c.in_ok-equal_common-in-None.ensures.meet)
    (others-as ts _ _ _ _ _ _ _ _ _ refl refl c.deref-in-None-3.ensures.value c.in_ok-admit_others-in-None.ensures.admit)

pub returns-in_ok-admit_others-in-None-clause-held : goal.returns-in_ok-admit_others-in-None-clause-held
returns-in_ok-admit_others-in-None-clause-held c = λ a b h. c.in_ok-admit_others-in-None.ensures.held a (c.in_ok-equal_common-in-None.ensures.held a (below-as (length c.args.table.now) _ _ c.deref-in-None-2.ensures.value b) h)
