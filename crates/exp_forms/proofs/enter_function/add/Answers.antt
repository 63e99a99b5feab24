use Rattle.std.proofs.Common.{refl}
use Rattle.exp_forms.proofs.EnteringFunctions.{add_is}
use Rattle.exp_forms.proofs.enter_function.add.Goals as goal

pub returns : goal.returns
returns c S M T C D E as_ a h k =
    add_is S M T C D E as_ a c.args.parameter c.args.made.now.last _ c.args.ty c.args.made.now.before.items _ c.args.made.now.types.items _ h k c.in_ok-push.ensures.items refl
    c.in_ok-push-2.ensures.items
