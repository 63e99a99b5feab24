use Rattle.std.proofs.Common.{◌≡◌, take}
use Rattle.std.specs.String.{string_bytes}
use Rattle.mlb_reader.specs.Path.{joined}
use Rattle.mlb_reader.specs.Segments.{texts_of}
use Rattle.mlb_reader.proofs.path.join.Given as goal

abbrev pub invariant-loop-index : goal.invariant-loop-index
invariant-loop-index l = string_bytes l.path ≡ joined (texts_of (take l.index l.segments))
