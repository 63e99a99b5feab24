use Rattle.std.proofs.Common.{◌≡◌, ◌&&◌, drop}
use Rattle.emit_code.specs.Tags.{rise_from}
use Rattle.emit_code.proofs.choice.rise.Given as goal

abbrev pub invariant-loop-tag : goal.invariant-loop-tag
invariant-loop-tag l = (l.all && rise_from l.least (drop l.tag-index l.tags)) ≡ rise_from 0 l.tags
