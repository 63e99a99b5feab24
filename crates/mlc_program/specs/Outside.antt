-- What stands outside, as far as clauses speak of it.
use Rattle.std.specs.Prelude.{ℕ, List, Option}
use Rattle.mlc_outside.specs.Files.{Files}

-- a store: the files, where it tells them, and the faults of reading and of writing
pub record Disk : Type 0 where
  pub files : Option Files
  pub read_faults : ℕ
  pub write_faults : ℕ

abbrev pub disk : Option Files → ℕ → ℕ → Disk
disk files reads writes = record { files = files; read_faults = reads; write_faults = writes }

-- a sink: the bytes taken, where it tells them, and its faults
pub record Stream : Type 0 where
  pub bytes : Option (List ℕ)
  pub faults : ℕ

abbrev pub stream : Option (List ℕ) → ℕ → Stream
stream bytes faults = record { bytes = bytes; faults = faults }
