use Rattle.std.proofs.Common.{◌≡◌, ℕ, map, take}
use Rattle.first_tables.specs.TablesOf.{items_of}
use Rattle.machine_code.specs.Image.{text_of}
use Rattle.image_law.specs.ImageOf.{text_in}
use Rattle.emit_known.proofs.texts.texts_of.Given as goal

abbrev pub invariant-loop-i : goal.invariant-loop-i
invariant-loop-i l = (i : ℕ) → text_of (map items_of l.texts.items) i ≡ text_in l.names (take l.i l.found) i
