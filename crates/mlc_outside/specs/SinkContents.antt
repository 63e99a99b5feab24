-- What a sink in memory holds: the bytes taken, its room, the numbers of the calls that are to fail, and the calls and faults so far.
use Rattle.std.specs.Prelude.{ℕ, List}

pub record SinkContents : Type 0 where
  pub bytes : List ℕ
  pub room : ℕ
  pub fails : List ℕ
  pub calls : ℕ
  pub faults : ℕ
