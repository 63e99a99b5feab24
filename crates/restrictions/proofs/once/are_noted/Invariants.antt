use Rattle.std.proofs.Common.{◌≡◌, drop, nat_eq}
use Rattle.std.specs.List.{list_all}
use Rattle.core_rules.specs.Words.{is_in}
use Rattle.restrictions.specs.Found.{names_in}
use Rattle.restrictions.proofs.once.are_noted.Given as goal

abbrev pub invariant-loop-i : goal.invariant-loop-i
invariant-loop-i l = list_all (λ k. is_in nat_eq k (names_in l.noted)) (drop l.i l.keys) ≡ list_all (λ k. is_in nat_eq k (names_in l.noted)) l.keys
