use Rattle.std.proofs.Common.{refl}
use Rattle.exp_forms.proofs.Chains.{left_starts}
use Rattle.exp_forms.proofs.chain.start_left.Goals as goal

pub returns-clause-is : goal.returns-clause-is
returns-clause-is c S T C place a h = left_starts S T C place a c.args.first _ refl refl c.new.ensures.items h
