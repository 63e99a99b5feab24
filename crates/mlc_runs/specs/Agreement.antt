-- Two runs, perhaps of two forms, that do the same, where their values are related by R.
use Rattle.std.specs.Prelude.{◌≡◌, List, [], ◌∷◌, Option, Some, None}
use Rattle.mlc_runs.specs.Run.{World, Cut, Answer, gives, raises, stops}

module _ {V W : Type 0} (R : V → W → Type 0) where
  -- values one by one
  pub data AllRelated : List V → List W → Type 0 where
    none : AllRelated [] []
    more : {v : V} {w : W} {vs : List V} {ws : List W} → R v w → AllRelated vs ws → AllRelated (v ∷ vs) (w ∷ ws)

  -- two optional values
  pub data BothOrNeither : Option V → Option W → Type 0 where
    neither : BothOrNeither None None
    both : {v : V} {w : W} → R v w → BothOrNeither (Some v) (Some w)

  -- two worlds that are alike, but for the stored values, which are related
  pub record SameWorlds (w : World V) (u : World W) : Type 0 where
    pub output : u.output ≡ w.output
    pub left : u.left ≡ w.left
    pub taken : u.taken ≡ w.taken
    pub store : AllRelated w.store u.store
    pub exceptions : u.exceptions ≡ w.exceptions

  module _ {A B : Type 0} (S : A → B → Type 0) where
    -- two answers of one kind, with results related by S, in worlds that are alike
    pub data Agree : Answer V A → Answer W B → Type 0 where
      both_give : {a : A} {b : B} {w : World V} {u : World W} → S a b → SameWorlds w u → Agree (gives a w) (gives b u)
      both_raise : {p : V} {q : W} {w : World V} {u : World W} → R p q → SameWorlds w u → Agree (raises p w) (raises q u)
      both_stop : (cut : Cut) {w : World V} {u : World W} → SameWorlds w u → Agree (stops cut w) (stops cut u)
