use Rattle.std.proofs.Common.{◌≡◌, map, nat_eq, take}
use Rattle.std.specs.Prelude.{is_some}
use Rattle.std.specs.Map.{lookup}
use Rattle.restrictions.proofs.written.are_used.Given as goal

abbrev pub invariant-loop-i : goal.invariant-loop-i
invariant-loop-i l = l.used.items ≡ map (λ a. is_some (lookup (nat_eq a.name) l.noted)) (take l.i l.tyvars)
