use Rattle.std.proofs.Common.{◌-◌, length, drop, reverse, ap, sym, ◌∙◌, subst}
use Rattle.ir_known.specs.Once.{IsOnce}
use Rattle.ir_known.proofs.Reversed.{once-taken, reversed-taken}
use Rattle.ir_known.proofs.stack.Stack.truncate.Goals as goal

pub invariant_of-self : goal.invariant_of-self
invariant_of-self g c = subst IsOnce (sym c.truncate.ensures.entries) (once-taken c.args.len c.self.inside.entries.entries c.self.invariant)

pub returns : goal.returns
returns g c = ap reverse c.truncate.ensures.entries ∙ reversed-taken c.args.len c.self.inside.entries.entries ∙ ap (λ s. drop (length s - c.args.len) s) c.self.view_is
