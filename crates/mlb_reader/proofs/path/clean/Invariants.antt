use Rattle.std.proofs.Common.{◌≡◌, [], reverse, drop, length}
use Rattle.mlb_reader.specs.Path.{segments, kept_segments}
use Rattle.mlb_reader.specs.Segments.{texts_of}
use Rattle.mlb_reader.proofs.path.clean.Given as goal

abbrev pub invariant-loop-segment : goal.invariant-loop-segment
invariant-loop-segment l = kept_segments (reverse (texts_of l.kept.items)) (drop (length l.yielded) (segments l.path)) ≡ kept_segments [] (segments l.path)
