use Rattle.mono_needed.proofs.Arguments.{own-yes, own-no}
use Rattle.mono_needed.proofs.open.own_argument.Goals as goal

pub returns-then-same_name : goal.returns-then-same_name
returns-then-same_name c = λ types. own-yes types c.args.row c.args.name (c.same_name.ensures.0 c.if-same_name.true)

pub returns-else-same_name : goal.returns-else-same_name
returns-else-same_name c = λ types. own-no types c.args.row c.args.name (λ e. let p = c.same_name.ensures.1 e in let q = c.if-same_name.false in absurd (cc))
