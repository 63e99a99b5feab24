use Rattle.exp_blocks.proofs.Binding.{BoundTo}
use Rattle.exp_blocks.proofs.scopes.bind_parameters.Given as goal

abbrev pub invariant-loop-i : goal.invariant-loop-i
invariant-loop-i l = BoundTo l.fn.work l.work l.named l.i l.made.items
