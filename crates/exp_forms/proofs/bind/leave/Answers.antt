use Rattle.std.proofs.Common.{ap, ap₂}
use Rattle.pat_elab.specs.of_elab_context.declared.context.Context.{Context}
use Rattle.pat_elab.specs.of_elab_context.declared.entry.Entry.{Entry}
use Rattle.vid_scope.specs.declared.vids.VidScope.{VidScope}
use Rattle.exp_forms.specs.Within.{entries_of}
use Rattle.exp_forms.proofs.bind.leave.Goals as goal

pub returns : goal.returns
returns c C bs m e =
    ap₂ (λ (k : Context) (v : VidScope Entry). record k { values = v }) e (c.leave.ensures.undone C.values (entries_of bs) m (ap (λ (k : Context). k.values) e))
