-- What a sink in memory does: it refuses a listed call, and a piece that doesn't fit its room.
use Rattle.std.specs.Prelude.{ℕ, ◌+◌, Bool, ◌||◌, List, ◌++◌, length, Option, Some, nat_lt, ◌==◌, if◌then◌else◌}
use Rattle.std.specs.List.{list_any}
use Rattle.mlc_outside.specs.Faults.{counted}
use Rattle.mlc_outside.specs.SinkContents.{SinkContents}
use Rattle.mlc_outside.specs.declared.sink.Put.{Put}
use Rattle.mlc_outside.specs.declared.sink.Put.TheVariants.{Done, Failed}

-- everything that was taken is told
abbrev pub taken : SinkContents → Option (List ℕ)
taken s = Some s.bytes

abbrev pub is_listed : List ℕ → ℕ → Bool
is_listed fails call = list_any (λ listed. listed == call) fails

abbrev pub refuses : SinkContents → List ℕ → Bool
refuses s piece = is_listed s.fails (counted s.calls) || nat_lt s.room (length s.bytes + length piece)

abbrev pub put_answer : SinkContents → List ℕ → Put
put_answer s piece = if refuses s piece then Failed else Done

-- what it refuses it counts, and takes nothing of it
abbrev pub after_put : SinkContents → List ℕ → SinkContents
after_put s piece =
    if refuses s piece then record s { calls = counted s.calls; faults = counted s.faults }
    else record s { calls = counted s.calls; bytes = s.bytes ++ piece }
