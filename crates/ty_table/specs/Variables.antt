-- The variables of a type, where they are few.
use Rattle.std.specs.Prelude.{ℕ, Bool, true, false, ◌||◌, if◌then◌else◌, nat_eq}
use Rattle.ty_core.specs.Types.{Typ, var, con, Typs, none, more}
use Rattle.ty_table.specs.declared.variables.Few.{Few}
use Rattle.ty_table.specs.declared.variables.Few.TheVariants.{Empty, One, Two, Three, Four, Many}

-- a variable is one of these; of many, each is
abbrev pub has : Few → ℕ → Bool
has Empty v = false
has (One a) v = nat_eq v a
has (Two a b) v = nat_eq v a || nat_eq v b
has (Three a b c) v = nat_eq v a || nat_eq v b || nat_eq v c
has (Four a b c d) v = nat_eq v a || nat_eq v b || nat_eq v c || nat_eq v d
has Many v = true

-- one more, which isn't one of these
abbrev pub longer : Few → ℕ → Few
longer Empty v = One v
longer (One a) v = Two a v
longer (Two a b) v = Three a b v
longer (Three a b c) v = Four a b c v
longer (Four a b c d) v = Many
longer Many v = Many

abbrev pub with_one : Few → ℕ → Few
with_one few v = if has few v then few else longer few v

abbrev pub with_few : Few → Few → Few
with_few few Empty = few
with_few few (One a) = with_one few a
with_few few (Two a b) = with_one (with_one few a) b
with_few few (Three a b c) = with_one (with_one (with_one few a) b) c
with_few few (Four a b c d) = with_one (with_one (with_one (with_one few a) b) c) d
with_few few Many = Many

-- the variables of a type, in the order in which they come, if they are at most four
abbrev mutual
  pub few_of : Typ → Few
  few_of (var v) = One v
  few_of (con h ts) = few_with Empty ts

  -- and those of further types
  pub few_with : Few → Typs → Few
  few_with few none = few
  few_with few (more t ts) = few_with (with_few few (few_of t)) ts
