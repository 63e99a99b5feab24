use Rattle.std.proofs.Common.{arith, refl}
use Rattle.std.proofs.lemmas.Result.{on_ok_weaker}
use Rattle.needed_scopes.proofs.Holding.{opens-variable}
use Rattle.needed_scopes.proofs.scopes.Scopes.open_variable.Goals as goal

pub returns-clause-kept : goal.returns-clause-kept
returns-clause-kept c = on_ok_weaker c.bind.result
    (λ e. record {
      sets = c.in_ok-push-2.ensures.kept;
      holds = (opens-variable c.args.variable c.len-number.result c.len-bound.result _ c.bind.new.self _ c.push.new.self.items _ _ _ _ c.requires.holds (omega (arith, c.args.self.now.scopes.ok.0)) c.len-bound.ensures e c.in_ok-push.ensures.items refl c.in_ok-push-2.ensures.pushed).holds;
    })
    c.bind.ensures.bound
