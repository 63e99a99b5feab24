use Rattle.std.proofs.Common.{refl}
use Rattle.exp_forms.proofs.Finishing.{case_is}
use Rattle.exp_forms.proofs.finish.case_of.Goals as goal

pub returns : goal.returns
returns c S M p q e rs i h d =
    case_is S M c.args.state.now c.write.new.state c.args.context.now c.args.place p q e rs c.args.taken _ c.args.made c.in_ok-written.written c.in_ok-exp.exp i h d
    c.in_ok-written.ensures.grows c.in_ok-written.ensures.is c.in_ok-exp.ensures refl refl
