use Rattle.std.proofs.Common.{ap, ap₂}
use Rattle.elab_context.specs.declared.context.Context.{Context}
use Rattle.elab_context.specs.declared.entry.Entry.{Entry}
use Rattle.vid_scope.specs.declared.vids.VidScope.{VidScope}
use Rattle.rec_groups.specs.Heads.{own_entries, rising}
use Rattle.rec_groups.proofs.enter.leave_heads.Goals as goal

pub returns : goal.returns
returns c C hs m e =
    ap₂ (λ (k : Context) (v : VidScope Entry). record k { values = v }) e (c.leave.ensures.undone C.values (own_entries (rising hs)) m (ap (λ (k : Context). k.values) e))
