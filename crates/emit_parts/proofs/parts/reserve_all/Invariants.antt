use Rattle.std.proofs.Common.{◌≡◌, ◌++◌, map, drop}
use Rattle.walk_labels.specs.Labels.{blank}
use Rattle.emit_code.specs.Tags.{target_of}
use Rattle.emit_parts.specs.Labels.{label_in, numbered}
use Rattle.emit_parts.proofs.parts.reserve_all.Given as goal

abbrev pub invariant-loop-i : goal.invariant-loop-i
invariant-loop-i l = record {
  targets : map target_of l.targets.items ++ numbered (label_in l.at) l.number (drop l.i l.tags) ≡ numbered (label_in l.at) l.first l.tags;
  found : l.found.items ≡ l.fn.found.items ++ blank l.i;
}
