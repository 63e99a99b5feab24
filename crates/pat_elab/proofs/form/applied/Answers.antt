use Rattle.std.proofs.Common.{refl}
use Rattle.pat_elab.proofs.Matching.{applied_is}
use Rattle.pat_elab.proofs.form.applied.Goals as goal

pub returns : goal.returns
returns c S M T C source a before after =
    applied_is S M T C source a before after c.args.inner _ c.args.headed c.in_ok-argument.argument refl c.in_ok-argument.ensures refl
