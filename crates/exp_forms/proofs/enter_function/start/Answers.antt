use Rattle.std.proofs.Common.{refl}
use Rattle.exp_forms.proofs.EnteringFunctions.{start_is}
use Rattle.exp_forms.proofs.enter_function.start.Goals as goal

pub returns : goal.returns
returns c S T C D a h = start_is S T C D a c.args.parameter _ c.args.ty _ _ h c.new.ensures.items refl c.in_ok-types.ensures
