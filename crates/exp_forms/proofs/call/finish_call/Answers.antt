use Rattle.std.proofs.Common.{refl}
use Rattle.exp_forms.proofs.Calling.{call_ends}
use Rattle.exp_forms.proofs.call.finish_call.Goals as goal

pub returns : goal.returns
returns c S T C e h = call_ends S T C c.args.place e c.args.made _ h refl refl
