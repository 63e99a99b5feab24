use Rattle.mlc_names.specs.declared.label.Label.TheVariants.{Number}
use Rattle.exp_steps.specs.Joining.{pair_fields}
use Rattle.exp_steps.proofs.Fields.{all-none, all-more, all-made-as}
use Rattle.exp_steps.proofs.joins.push_pair.Goals as goal

pub returns : goal.returns
returns c = λ w v ss us d e left right.
    c.in_ok-a.ensures w ss (pair_fields d e) (all-made-as _ c.in_ok-fields.fields.items c.in_ok-fields.ensures (all-more (Number 2) (all-more (Number 1) (all-none w ss) left) right))
