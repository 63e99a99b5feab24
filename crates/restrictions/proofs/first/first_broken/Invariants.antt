use Rattle.std.proofs.Common.{◌≡◌, drop}
use Rattle.restrictions.proofs.Firsts.{of-all}
use Rattle.restrictions.proofs.first.first_broken.Given as goal

abbrev pub invariant-loop-i : goal.invariant-loop-i
invariant-loop-i l = of-all (drop l.i l.declarations) ≡ of-all l.declarations
