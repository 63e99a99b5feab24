use Rattle.std.proofs.Common.{◌≡◌, ◌++◌, take}
use Rattle.ty_instance.specs.Steps.{visits}
use Rattle.ty_instance.proofs.made.visit_all.Given as goal

abbrev pub invariant-loop-part : goal.invariant-loop-part
invariant-loop-part l = l.steps.items ≡ l.fn.steps.items ++ visits (take l.part-index l.parts)
