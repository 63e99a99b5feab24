-- What the code's answers say of a text.
use Rattle.std.specs.Prelude.{◌≡◌, ℕ, ◌<◌, ◌≤◌, List, length, drop}
use Rattle.sml_lexer.specs.declared.item.Item.TheVariants as code
use Rattle.sml_lexer.specs.declared.item.Item as code_item
use Rattle.sml_lexer.specs.declared.identifiers.Part.{Part}
use Rattle.sml_lexer.specs.declared.identifiers.Part.TheVariants.{Letters, Symbols, Nothing}
use Rattle.sml_lexer.specs.Lexeme.{lexeme_of, HoldsNames}
use Rattle.sml_lexer.specs.Item.{Item, blank, found, refused}

abbrev pub item_of : List (List ℕ) → List ℕ → code_item.Item → Item
item_of names text (code.Blank n) = blank (drop n text)
item_of names text (code.Token kind n) = found (lexeme_of names kind) (drop n text)
item_of names text (code.Refused c) = refused c

-- an item has a byte at least and lies in the text, and its names are held
abbrev pub FitsItem : List (List ℕ) → List ℕ → code_item.Item → Type 0
FitsItem names text (code.Blank n) = (0 < n) × (n ≤ length text)
FitsItem names text (code.Token kind n) = (0 < n) × (n ≤ length text) × HoldsNames names kind
FitsItem names text (code.Refused c) = Unit {0}

-- what the code answers is the item that the text begins with
pub record IsItem (names : List (List ℕ)) (text : List ℕ) (answer : code_item.Item) (item : Item) : Type 0 where
  pub same : item_of names text answer ≡ item
  pub fits : FitsItem names text answer

-- the same of an answer that holds no names
abbrev pub IsConstant : List ℕ → code_item.Item → Item → Type 0
IsConstant text answer item = (names : List (List ℕ)) → IsItem names text answer item

abbrev pub FitsPart : List ℕ → Part → Type 0
FitsPart text (Letters len) = len ≤ length text
FitsPart text (Symbols len) = len ≤ length text
FitsPart text Nothing = Unit {0}
