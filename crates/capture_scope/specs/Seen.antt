-- The scope of a body, of the variables that it sees in order: what was captured, the group, and what it binds.
use Rattle.std.specs.Prelude.{◌≡◌, ◌≤◌, ◌+◌, ℕ, List, map, take, drop, length, reverse}
use Rattle.closure_convert.specs.Scope.{Scope, Member, names}
use Rattle.capture_scope.specs.declared.scope.Member as code

abbrev pub member_of : code.Member → Member
member_of m = record { name = m.name; number = m.number }

abbrev pub members_of : List code.Member → List Member
members_of = map member_of

-- the first c were captured, and after them stand the names of the group
abbrev pub scope_in : List ℕ → (c : ℕ) → List Member → Scope
scope_in xs c ms = record { locals = reverse (drop (c + length ms) xs); group = ms; captured = take c xs }

pub record IsSeen (xs : List ℕ) (c : ℕ) (ms : List Member) : Type 0 where
  pub within : c + length ms ≤ length xs
  pub names_stand : take (length ms) (drop c xs) ≡ names ms
