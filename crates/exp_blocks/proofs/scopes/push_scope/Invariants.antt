use Rattle.std.proofs.Common.{take}
use Rattle.exp_blocks.specs.Binding.{InScope}
use Rattle.exp_blocks.proofs.scopes.push_scope.Given as goal

abbrev pub invariant-loop-i : goal.invariant-loop-i
invariant-loop-i l = InScope l.fn.scope l.scope (take l.i l.all)
