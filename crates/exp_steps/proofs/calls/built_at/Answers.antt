use Rattle.std.proofs.Common.{sym, ap}
use Rattle.exp_steps.specs.Ways.{built_of, made_at}
use Rattle.exp_steps.proofs.calls.built_at.Goals as goal

pub returns-in-Constructor : goal.returns-in-Constructor
returns-in-Constructor c = λ R. ap (λ y. made_at (built_of y R) (R.type c.args.u) (R.type c.args.argument)) (sym c.in-Constructor.is)

pub returns-in-Reference : goal.returns-in-Reference
returns-in-Reference c = λ R. ap (λ y. made_at (built_of y R) (R.type c.args.u) (R.type c.args.argument)) (sym c.in-Reference.is)

pub returns-in-Exception : goal.returns-in-Exception
returns-in-Exception c = λ R. ap (λ y. made_at (built_of y R) (R.type c.args.u) (R.type c.args.argument)) (sym c.in-Exception.is)
