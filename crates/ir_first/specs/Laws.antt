-- What is claimed of the two meanings.
use Rattle.std.specs.Prelude.{◌≡◌, ℕ}
use Rattle.mlc_runs.specs.Outcome.{wrong}
use Rattle.ir_first.specs.Tree.{Program}
use Rattle.ir_first.specs.Meaning.{meaning}
use Rattle.ir_first.specs.Continued as continued
use Rattle.ir_first.specs.Whole.{AreWhole}

-- they are one where nothing misses that is not to: blocks, bodies, what is handled, handlers
abbrev pub MeaningsAreOne : Type 0
MeaningsAreOne = (p : Program) → AreWhole p → (m : ℕ) → meaning p m ≡ continued.meaning p m

-- and in any program where the continued one isn't wrong
abbrev pub MeaningsAreOneUnlessWrong : Type 0
MeaningsAreOneUnlessWrong = (p : Program) (m : ℕ) → ((continued.meaning p m).end ≡ wrong → ⊥) → meaning p m ≡ continued.meaning p m
