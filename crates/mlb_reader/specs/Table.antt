-- Tables of names.
use Rattle.std.specs.Prelude.{◌≡◌, ◌≢◌, ℕ, List, length, take, AllPairs}
use Rattle.mlc_names.specs.StandardWords.{standard_words}

-- a table of names: it begins with the standard words, and no two texts are the same
pub record IsTable (texts : List (List ℕ)) : Type 0 where
  pub apart : AllPairs (λ text other. text ≢ other) texts
  pub begins : take (length standard_words) texts ≡ standard_words
