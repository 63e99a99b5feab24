-- What division rounded down is, without an algorithm.
use Rattle.std.specs.Prelude.{◌≡◌, ◌≢◌, ℤ, pos, ◌+ℤ◌, ◌*ℤ◌, ◌<ℤ◌, ◌≤ℤ◌}
use Rattle.word_arithmetic.specs.Arithmetic.{floor_div, floor_mod}

-- q times the divisor and r are the dividend, where r lies from 0 to the divisor: below it, or above it if it is negative
pub record IsFloored (a d q r : ℤ) : Type 0 where
  pub whole : q *ℤ d +ℤ r ≡ a
  pub above : pos 0 <ℤ d → (pos 0 ≤ℤ r) × (r <ℤ d)
  pub below : d <ℤ pos 0 → (d <ℤ r) × (r ≤ℤ pos 0)

abbrev pub DivisionIsFloored : Type 0
DivisionIsFloored = (a d : ℤ) → d ≢ pos 0 → IsFloored a d (floor_div a d) (floor_mod a d)
