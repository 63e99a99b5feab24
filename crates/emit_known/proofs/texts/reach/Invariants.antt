use Rattle.std.proofs.Common.{◌≡◌, ℕ, ◌+◌, ◌-◌, length, map}
use Rattle.first_tables.specs.TablesOf.{items_of}
use Rattle.machine_code.specs.Image.{text_of}
use Rattle.emit_known.proofs.texts.reach.Given as goal

abbrev pub invariant-loop-alloc : goal.invariant-loop-alloc
invariant-loop-alloc l = (i : ℕ) → text_of (map items_of l.texts.items) i ≡ text_of (map items_of l.fn.texts.items) i

abbrev pub decreases-loop-alloc : goal.decreases-loop-alloc
decreases-loop-alloc l = l.number + 1 - length l.texts.items
