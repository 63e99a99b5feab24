-- With more turns a run does the same, or goes on from where it was cut short.
use Rattle.std.specs.Prelude.{◌≡◌, ◌≢◌, ℕ, ◌≤◌, List, ◌++◌}
use Rattle.mlc_runs.specs.Outcome.{Outcome, going}
use Rattle.mlc_runs.specs.Run.{World, out_of_turns, went_wrong, Answer, gives, raises, stops}

-- a is a prefix of b
abbrev pub IsPrefix : List ℕ → List ℕ → Type 0
IsPrefix a b = (rest : List ℕ) × (b ≡ a ++ rest)

-- with more turns the output goes on from what it was, and an end other than going stays, with its output
pub record GrowsTo (few many : Outcome) : Type 0 where
  pub output : IsPrefix few.output many.output
  pub end : few.end ≢ going → (many.end ≡ few.end) × (many.output ≡ few.output)

-- what is written when a phrase ends
abbrev pub output_in : {V A : Type 0} → Answer V A → List ℕ
output_in (gives a w) = w.output
output_in (raises packet w) = w.output
output_in (stops cut w) = w.output

module _ {V : Type 0} where
  -- the same world, with no fewer turns left
  pub record HasMoreTurns (w w' : World V) : Type 0 where
    pub same : w' ≡ record w { left = w'.left }
    pub more : w.left ≤ w'.left

  module _ {A : Type 0} where
    -- the same answer, or any that has more output than where the turns ran out
    pub data Continues : Answer V A → Answer V A → Type 0 where
      gives_same : (a : A) {w w' : World V} → HasMoreTurns w w' → Continues (gives a w) (gives a w')
      raises_same : (packet : V) {w w' : World V} → HasMoreTurns w w' → Continues (raises packet w) (raises packet w')
      wrong_same : {w w' : World V} → HasMoreTurns w w' → Continues (stops went_wrong w) (stops went_wrong w')
      was_cut : (w : World V) (r : Answer V A) → IsPrefix w.output (output_in r) → Continues (stops out_of_turns w) r

    -- what was written stays written
    abbrev pub OnlyWrites : (World V → Answer V A) → Type 0
    OnlyWrites run = (w : World V) → IsPrefix w.output (output_in (run w))

    -- a phrase in a world with few turns, and in one with more (and perhaps with more fuel: so there are two runs)
    pub record GoesOn (few many : World V → Answer V A) : Type 0 where
      pub writes : OnlyWrites many
      pub continues : (w w' : World V) → HasMoreTurns w w' → Continues (few w) (many w')
