use Rattle.std.proofs.Common.{◌≡◌, map, drop}
use Rattle.first_tables.specs.TablesOf.{items_of}
use Rattle.emit_constants.proofs.Texts.{TextsSoFar}
use Rattle.emit_constants.proofs.constants.put_texts.Given as goal

abbrev pub invariant-loop-i : goal.invariant-loop-i
invariant-loop-i l = TextsSoFar (map items_of l.texts) l.fn.words.items (map items_of (drop l.i l.texts)) l.words.items l.places.items
