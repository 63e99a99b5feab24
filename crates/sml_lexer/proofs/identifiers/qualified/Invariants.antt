use Rattle.std.proofs.Common.{◌≡◌, ◌<◌, ◌≤◌, ◌-◌, [], ◌∷◌, ◌++◌, drop, take, length, map}
use Rattle.std.specs.Prelude.{All}
use Rattle.mlc_names.specs.Names.{with_texts}
use Rattle.sml_lexer.specs.Identifiers.{qualified}
use Rattle.sml_lexer.specs.Lexeme.{text_of}
use Rattle.sml_lexer.specs.NameTable.{Keeps}
use Rattle.sml_lexer.proofs.identifiers.qualified.Given as goal

abbrev pub invariant-parts : goal.invariant-parts
invariant-parts l = record {
  kept : Keeps l.fn.names l.names;
  same : qualified 0 [] (take l.len l.text) (drop l.len l.text) ≡ qualified 0 (map (text_of l.names) l.qualifiers.items) (text_of l.names l.name) (drop l.at l.text);
  table : l.names ≡ with_texts l.fn.names (map (text_of l.names) l.qualifiers.items ++ text_of l.names l.name ∷ []);
  held : l.name < length l.names;
  all_held : All (λ q. q < length l.names) l.qualifiers.items;
  within : l.at ≤ length l.text;
  some : 0 < l.at;
}

abbrev pub decreases-parts : goal.decreases-parts
decreases-parts l = length l.text - l.at
