use Rattle.exp_steps.proofs.Building.{built-makes}
use Rattle.exp_steps.proofs.calls.push_built.Goals as goal

pub returns : goal.returns
returns c = λ w v ss us f d goes type begun makes. built-makes c.args.built c.args.place c.args.argument goes type begun makes c.in_ok-a.ensures
