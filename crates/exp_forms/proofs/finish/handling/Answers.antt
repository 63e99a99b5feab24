use Rattle.std.proofs.Common.{refl}
use Rattle.exp_forms.proofs.Finishing.{handle_is}
use Rattle.exp_forms.proofs.finish.handling.Goals as goal

pub returns : goal.returns
returns c S M p e rs i h x r =
    handle_is S M c.args.state.now c.write.new.state c.args.context.now p e rs c.args.body _ c.args.made c.in_ok-written.written c.in_ok-exp.exp i h x r
    c.in_ok-written.ensures.grows c.in_ok-written.ensures.is c.in_ok-exp.ensures refl refl
