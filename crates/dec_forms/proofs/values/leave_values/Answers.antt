use Rattle.std.proofs.Common.{ap, ap₂}
use Rattle.vid_scope.specs.declared.vids.VidScope.{VidScope}
use Rattle.exp_forms.specs.of_elab_context.declared.context.Context.{Context}
use Rattle.exp_forms.specs.of_elab_context.declared.entry.Entry.{Entry}
use Rattle.dec_forms.proofs.values.leave_values.Goals as goal

pub returns : goal.returns
returns c C m h =
    ap₂ (λ (k : Context) (v : VidScope Entry). record k { values = v }) h.is (c.leave.ensures.undone C.values h.entries m (ap (λ (k : Context). k.values) h.is))
