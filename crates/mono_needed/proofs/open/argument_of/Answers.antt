use Rattle.std.proofs.Common.{sym, ap, ◌∙◌}
use Rattle.mono_needed.specs.Gathering.{own_argument}
use Rattle.mono_needed.proofs.open.argument_of.Goals as goal

pub returns-in-Some : goal.returns-in-Some
returns-in-Some c = λ types. c.own_argument.ensures types ∙ ap (own_argument c.args.name) (sym (c.in-Some.ensures.found types))

pub returns-in-None : goal.returns-in-None
returns-in-None c = λ types. ap (own_argument c.args.name) (sym (c.in-None.ensures.found types))
