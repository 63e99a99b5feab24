use Rattle.std.proofs.Common.{◌++◌}
use Rattle.mono_check.proofs.Names.{found-none}
use Rattle.mono_check.proofs.opening.bring.Goals as goal

pub returns-clause-new : goal.returns-clause-new
returns-clause-new c = found-none (c.args.scope.now.0 ++ c.args.scope.now.1) c.args.variable c.in_ok-new.new c.in_ok-new.ensures.new
