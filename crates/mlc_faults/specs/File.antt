-- A file that was read.
use Rattle.std.specs.Prelude.{ℕ, List}

pub record File : Type 0 where
  pub path : List ℕ
  pub bytes : List ℕ
