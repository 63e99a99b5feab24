use Rattle.std.proofs.Common.{◌≡◌, drop}
use Rattle.std.specs.Prelude.{max}
use Rattle.emit_code.specs.Tags.{end_of}
use Rattle.emit_code.proofs.choice.tags_end.Given as goal

abbrev pub invariant-loop-tag : goal.invariant-loop-tag
invariant-loop-tag l = max l.end (end_of (drop l.tag-index l.tags)) ≡ end_of l.tags
