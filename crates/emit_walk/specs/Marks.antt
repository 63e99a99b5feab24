-- How far a walk is.
use Rattle.std.specs.Prelude.{length}
use Rattle.machine_code.specs.Code.{exits_of}
use Rattle.emit_parts.specs.Labels.{spots_of}
use Rattle.walk_labels.specs.Labels.{Frame}
use Rattle.walk_labels.specs.Marks.{Mark}
use Rattle.emit_walk.specs.declared.body.Pass.{Pass}

abbrev pub frame_of : Pass → Frame
frame_of p = record { depth = p.depth; scope = p.slots; exits = exits_of (spots_of p.spots.items) }

abbrev pub mark_of : Pass → Mark
mark_of p = record { place = length p.code.items; frame = frame_of p; found = p.found.items }
