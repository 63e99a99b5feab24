-- Names that stay held.
use Rattle.std.specs.Prelude.{◌≡◌, ◌≢◌, ℕ, List, length, take, AllPairs}

-- the names held before are held as they were, and texts that were apart are
pub record Keeps (before after : List (List ℕ)) : Type 0 where
  pub held : take (length before) after ≡ before
  pub apart : AllPairs (λ text other. text ≢ other) before → AllPairs (λ text other. text ≢ other) after
