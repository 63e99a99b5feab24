use Rattle.std.proofs.Common.{arith, ◌-◌}
use Rattle.std.proofs.lemmas.Result.{on_ok_weaker}
use Rattle.needed_scopes.proofs.Holding.{adds}
use Rattle.needed_scopes.proofs.scopes.Scopes.add.Goals as goal

pub returns-clause-kept : goal.returns-clause-kept
returns-clause-kept c = on_ok_weaker c.bind.result
    (λ e. record { sets = c.requires.kept.sets; holds = (adds c.args.variable (c.len-number.result - 1) c.bind.new.self c.requires.kept.holds c.requires.binding (omega (arith, c.args.self.now.scopes.ok.0)) e).holds })
    c.bind.ensures.bound

pub returns-clause-added : goal.returns-clause-added
returns-clause-added c = on_ok_weaker c.bind.result
    (λ e. (adds c.args.variable (c.len-number.result - 1) c.bind.new.self c.requires.kept.holds c.requires.binding (omega (arith, c.args.self.now.scopes.ok.0)) e).is)
    c.bind.ensures.bound
