-- The second run does what the first does, unless the first goes wrong.
use Rattle.mlc_runs.specs.Run.{World, Cut, went_wrong, Answer, gives, raises, stops}
use Rattle.mlc_runs.specs.Agreement.{SameWorlds}

module _ {V W : Type 0} (R : V → W → Type 0) {A B : Type 0} (S : A → B → Type 0) where
  -- answers that agree, or any answer beside one that went wrong
  pub data Refines : Answer V A → Answer W B → Type 0 where
    both_give : {a : A} {b : B} {w : World V} {u : World W} → S a b → SameWorlds R w u → Refines (gives a w) (gives b u)
    both_raise : {p : V} {q : W} {w : World V} {u : World W} → R p q → SameWorlds R w u → Refines (raises p w) (raises q u)
    both_stop : (cut : Cut) {w : World V} {u : World W} → SameWorlds R w u → Refines (stops cut w) (stops cut u)
    first_wrong : {w : World V} (r : Answer W B) → Refines (stops went_wrong w) r
