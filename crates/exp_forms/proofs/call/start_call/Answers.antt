use Rattle.std.proofs.Common.{refl}
use Rattle.exp_forms.proofs.Calling.{call_starts}
use Rattle.exp_forms.proofs.call.start_call.Goals as goal

pub returns : goal.returns
returns c S T C place e h = call_starts S T C place e c.args.function _ h c.in_ok-function.ensures c.new.ensures.items refl
