use Rattle.std.proofs.Common.{◌<◌, All, take}
use Rattle.back_end.proofs.named.are_below.Given as goal

abbrev pub invariant-loop-i : goal.invariant-loop-i
invariant-loop-i l = All (λ i. i < l.limit) (take l.i l.identifiers)
