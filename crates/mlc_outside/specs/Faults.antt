-- Counts of calls and of faults. They never fall, and stand still at 2^64 - 1.
use Rattle.std.specs.Prelude.{ℕ, ◌+◌, ◌-◌, ◌^◌, ◌≤◌, min}

-- the count after one more
abbrev pub counted : ℕ → ℕ
counted count = min (count + 1) (2 ^ 64 - 1)

-- a fault was counted: a count that stands at its top counts as risen
abbrev pub Rose : ℕ → ℕ → Type 0
Rose before after = counted before ≤ after
