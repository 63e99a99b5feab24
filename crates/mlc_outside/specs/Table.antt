-- The files that a map of std holds.
use Rattle.std.specs.Prelude.{ℕ, String, map}
use Rattle.std.specs.Global.{Global, Vec}
use Rattle.std.specs.String.{string_bytes}
use Rattle.std.specs.BTreeMap.{BTreeMap}
use Rattle.std.specs.FinMap.{from_entries}
use Rattle.mlc_outside.specs.Files.{Files}

abbrev pub files_of : BTreeMap (String Global) (Vec ℕ) → Files
files_of table = from_entries (map (λ e. (string_bytes e.0, e.1.items)) table.entries)
