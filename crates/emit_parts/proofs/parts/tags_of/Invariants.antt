use Rattle.std.proofs.Common.{◌≡◌, ◌++◌, map, drop}
use Rattle.emit_parts.specs.Labels.{list_of, tag_of}
use Rattle.emit_parts.proofs.parts.tags_of.Given as goal

abbrev pub invariant-loop-i : goal.invariant-loop-i
invariant-loop-i l = l.tags.items ++ map tag_of (drop l.i l.arms) ≡ list_of l.fn.first ++ map tag_of l.arms
