use Rattle.std.proofs.Common.{refl}
use Rattle.exp_forms.proofs.FinishingFunctions.{expression_is}
use Rattle.exp_forms.proofs.finish_function.function.Goals as goal

pub returns : goal.returns
returns c S p rs h =
    expression_is S c.args.state.now c.write.new.state c.args.context.now p rs c.args.made c.in_ok-written.written _ h c.in_ok-written.ensures.grows c.in_ok-written.ensures.is refl refl
