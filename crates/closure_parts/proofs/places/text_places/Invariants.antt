use Rattle.std.proofs.Common.{◌≡◌, map, take}
use Rattle.flow_types.specs.of_closure_whole.Converted.{text_index}
use Rattle.closure_parts.specs.Indexed.{texts_of}
use Rattle.closure_parts.proofs.places.text_places.Given as goal

abbrev pub invariant-loop-i : goal.invariant-loop-i
invariant-loop-i l = l.texts.items ≡ map (λ s. text_index s (texts_of l.strings)) (texts_of (take l.i l.strings))
