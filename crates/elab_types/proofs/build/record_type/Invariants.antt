use Rattle.std.proofs.Common.{◌≡◌, take}
use Rattle.elab_types.specs.Building.{labels_of, parts_of}
use Rattle.elab_types.proofs.build.record_type.Given as goal

abbrev pub invariant-loop-i : goal.invariant-loop-i
invariant-loop-i l = (l.names.items ≡ labels_of (take l.i l.fields.items)) × (l.parts.items ≡ parts_of (take l.i l.fields.items))
