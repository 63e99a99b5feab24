use Rattle.std.proofs.Common.{◌≡◌, ◌++◌, take}
use Rattle.mono_close.specs.Closing.{visits}
use Rattle.mono_close.proofs.close.visit_all.Given as goal

abbrev pub invariant-loop-part : goal.invariant-loop-part
invariant-loop-part l = l.steps.items ≡ l.fn.steps.items ++ visits (take l.part-index l.parts)
