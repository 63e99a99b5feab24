-- Words between white space.
use Rattle.std.specs.Prelude.{ℕ, Bool, not}
use Rattle.mlb_reader.specs.Mlb.{is_blank}

abbrev pub is_no_blank : ℕ → Bool
is_no_blank b = not (is_blank b)
