use Rattle.std.proofs.Common.{◌≡◌, ◌-◌, take, drop}
use Rattle.elab_context.specs.Entries.{constructors_in}
use Rattle.elab_context.proofs.context.Context.constructors.Given as goal

abbrev pub invariant-loop-number : goal.invariant-loop-number
invariant-loop-number l = l.made.items ≡ constructors_in l.first (take (l.number - l.first) (drop l.first l.self.schemes.items))
