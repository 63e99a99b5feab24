-- What a text begins with.
use Rattle.std.specs.Prelude.{ℕ, List, []}
use Rattle.mlc_faults.specs.declared.code.Code.{Code}
use Rattle.sml_lexer.specs.Lexeme.{Lexeme, words_in}

-- white space or a whole comment, and what follows it; a token, and what follows it; or why there is no item
pub data Item : Type 0 where
  blank : List ℕ → Item
  found : Lexeme → List ℕ → Item
  refused : Code → Item

-- the identifiers of an item
abbrev pub words_of : Item → List (List ℕ)
words_of (blank rest) = []
words_of (found lexeme rest) = words_in lexeme
words_of (refused code) = []
