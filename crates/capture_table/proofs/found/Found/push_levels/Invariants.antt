use Rattle.std.proofs.Common.{◌≡◌, ◌+◌, ◌≤◌, ℕ, List, drop, length}
use Rattle.plain_tree.specs.Sums.{variables_of}
use Rattle.capture_table.specs.Levels.{used}
use Rattle.capture_table.specs.Parts.{part, entries_in, AreWithin}
use Rattle.capture_table.proofs.Levels.{LevelsSoFar}
use Rattle.capture_table.proofs.found.Found.push_levels.Given as goal

abbrev pub invariant-loop-i : goal.invariant-loop-i
invariant-loop-i l = record {
  within : AreWithin (length l.self-inside.variables.items) (length l.self-inside.pieces.items) l.self-inside.entries.items;
  stands : part l.self-inside.variables.items (record { from = l.from; to = l.from + length l.innermost }) ≡ l.innermost;
  fits : l.from + length l.innermost ≤ length l.self-inside.variables.items;
  counted : l.count ≤ length l.innermost;
  levels : (uses : List ℕ) → drop l.first l.innermost ≡ used uses (variables_of l.parameters)
      → LevelsSoFar l.innermost uses l.parameters l.last l.first l.fn.self l.i l.count (entries_in l.self-inside.variables.items l.self-inside.pieces.items l.self-inside.entries.items);
}
