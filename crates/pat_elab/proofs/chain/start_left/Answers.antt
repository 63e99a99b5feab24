use Rattle.std.proofs.Common.{refl}
use Rattle.pat_elab.proofs.Chains.{left_starts}
use Rattle.pat_elab.proofs.chain.start_left.Goals as goal

pub returns-clause-is : goal.returns-clause-is
returns-clause-is c S T C place a before after h = left_starts S T C place a before after c.args.first _ refl refl c.new.ensures.items h
