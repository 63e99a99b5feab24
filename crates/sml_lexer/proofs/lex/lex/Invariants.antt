use Rattle.std.proofs.Common.{◌≡◌, ◌≤◌, ◌-◌, drop, length, map}
use Rattle.std.specs.Prelude.{All}
use Rattle.sml_lexer.specs.Lexes.{HoldsAllNames, IsSlice, Reads, Rises, lexed_of, names_after}
use Rattle.sml_lexer.specs.NameTable.{Keeps}
use Rattle.sml_lexer.proofs.lex.lex.Given as goal

abbrev pub invariant-items : goal.invariant-items
invariant-items l = record {
  kept : Keeps l.fn.names l.names;
  table : l.names ≡ names_after l.fn.names (map (lexed_of l.names) l.tokens.items);
  reads : Reads (length l.bytes) l.bytes (map (lexed_of l.names) l.tokens.items) (drop l.at l.bytes);
  held : HoldsAllNames l.names l.tokens.items;
  slices : All (IsSlice l.bytes l.names) l.tokens.items;
  spans : Rises 0 l.tokens.items l.at;
  within : l.at ≤ length l.bytes;
}

abbrev pub decreases-items : goal.decreases-items
decreases-items l = length l.bytes - l.at
