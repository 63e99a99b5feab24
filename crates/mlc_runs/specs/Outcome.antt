-- What a program does in so many turns.
use Rattle.std.specs.Prelude.{ℕ, List}
use Rattle.mlc_base.specs.declared.place.Place.{Place}

-- how it ends: by itself, by an exception that nothing handled (with the identifier of its binding), not within the turns, or with a value of the wrong kind
pub data End : Type 0 where
  ended : End
  uncaught : ℕ → End
  going : End
  wrong : End

-- what it wrote, how it ended, and where the turns were taken, in order
pub record Outcome : Type 0 where
  pub output : List ℕ
  pub end : End
  pub turns : List Place
