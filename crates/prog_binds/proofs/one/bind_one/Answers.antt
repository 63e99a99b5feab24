use Rattle.prog_known.proofs.OntoLemmas.{one-onto}
use Rattle.prog_binds.proofs.one.bind_one.Goals as goal

pub returns : goal.returns
returns c = one-onto c.args.tables.now c.args.variables.now c.bind.new.self c.args.variable c.make_known-known.result _ c.in_ok-bind.ensures c.make_known-known.ensures
