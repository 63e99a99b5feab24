use Rattle.std.proofs.Common.{refl}
use Rattle.needed_scopes.proofs.Holding.{opens-binding, on-both}
use Rattle.needed_scopes.proofs.scopes.Scopes.open_binding.Goals as goal

pub returns-clause-kept : goal.returns-clause-kept
returns-clause-kept c = on-both c.push-2.result
    (λ k e. record {
      sets = k;
      holds = (opens-binding c.args.unit c.len-bound.result _ _ c.push.new.self.items _ _ _ _ c.requires.holds c.len-bound.ensures c.in_ok-push.ensures.items refl e).holds;
    })
    c.push-2.ensures.kept c.push-2.ensures.pushed
