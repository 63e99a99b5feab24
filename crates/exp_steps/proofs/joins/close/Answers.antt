use Rattle.std.proofs.Common.{refl, subst, ◌∙◌}
use Rattle.mlc_names.specs.declared.label.Label.TheVariants.{Number}
use Rattle.exp_steps.specs.Made.{recorded}
use Rattle.exp_steps.specs.Joining.{Opens, pair_fields}
use Rattle.exp_steps.proofs.Fields.{all-none, all-more, all-made-as, tuple-of-all}
use Rattle.exp_steps.proofs.joins.close.Goals as goal

pub returns-in_ok-a-in-Call : goal.returns-in_ok-a-in-Call
returns-in_ok-a-in-Call c = λ w v u ss us ms f d e opens left right.
    let o = subst (Opens w v ss us f) c.in-Call.is opens in
    let k = c.args.join.pair in
    c.in_ok-a-in-Call.ensures w v ss us f (recorded k (pair_fields d e)) (λ R. o.goes R (R.type k) (d R) (e R)) o.makes (c.in_ok-pair-in-Call.ensures v u us ms d e left right)

pub returns-in_ok-a-in-Building : goal.returns-in_ok-a-in-Building
returns-in_ok-a-in-Building c = λ w v u ss us ms f d e opens left right.
    let o = subst (Opens w v ss us f) c.in-Building.is opens in
    let k = c.args.join.pair in
    c.in_ok-a-in-Building.ensures w v ss us f (recorded k (pair_fields d e)) (λ R. o.goes R (R.type k) (d R) (e R)) (λ R. refl) o.begun (c.in_ok-pair-in-Building.ensures v u us ms d e left right)

pub returns-in_ok-a-in-Performing : goal.returns-in_ok-a-in-Performing
returns-in_ok-a-in-Performing c = λ w v u ss us ms f d e opens left right.
    let o = subst (Opens w v ss us f) c.in-Performing.is opens in
    let k = c.args.join.pair in
    c.in_ok-a-in-Performing.ensures w v ss us f (recorded k (pair_fields d e)) (λ R. o.goes R (R.type k) (d R) (e R)) o.weighs
    (tuple-of-all k (all-made-as _ _ (c.deref.ensures.value ∙ c.in_ok-fields-in-Performing.ensures) (all-more (Number 2) (all-more (Number 1) (all-none v us) left) right)))
