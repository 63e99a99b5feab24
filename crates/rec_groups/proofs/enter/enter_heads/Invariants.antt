use Rattle.std.proofs.Common.{◌≡◌, take}
use Rattle.std.specs.Prelude.{reverse}
use Rattle.rec_groups.specs.Heads.{with_own}
use Rattle.rec_groups.proofs.enter.enter_heads.Given as goal

abbrev pub invariant-loop-i : goal.invariant-loop-i
invariant-loop-i l = l.context ≡ with_own l.fn.context (reverse (take l.i l.heads))
