-- Items are the longest that begin at their places.
use Rattle.std.specs.Prelude.{◌≡◌, ℕ, false, ◌<◌, ◌≤◌, ◌⊎◌, List, [], length, take, drop}
use Rattle.mlc_faults.specs.declared.code.Code.TheVariants.{NoToken}
use Rattle.sml_lexer.specs.Comments.{begins_comment}
use Rattle.sml_lexer.specs.Item.{Item, blank, found, refused}
use Rattle.sml_lexer.specs.Items.{begins_char, item_at}
use Rattle.sml_lexer.specs.Lexeme.{Lexeme}

-- the whole text is white space, a comment or a token; a constant that is refused counts as none
abbrev pub IsOneItem : List ℕ → Type 0
IsOneItem text = (item_at text ≡ blank []) ⊎ ((lexeme : Lexeme) × (item_at text ≡ found lexeme []))

-- the first bytes of a text, so many, are by themselves the item with which it begins, and no longer front of it is one item
pub record IsLongest (text : List ℕ) (item : List ℕ → Item) (rest : List ℕ) (len : ℕ) : Type 0 where
  pub some : 0 < len
  pub within : len ≤ length text
  pub rest_is : rest ≡ drop len text
  pub by_itself : item_at (take len text) ≡ item []
  pub none_longer : (longer : ℕ) → len < longer → longer ≤ length text → IsOneItem (take longer text) → ⊥

-- each item is the longest that begins at its place; and where no item is found, none begins, unless # and a quote
-- or a comment's opening bracket do, which must begin a character constant or a whole comment
pub record ItemsAreLongest : Type 0 where
  pub tokens : (text rest : List ℕ) (lexeme : Lexeme) → item_at text ≡ found lexeme rest → (len : ℕ) × IsLongest text (found lexeme) rest len
  pub blanks : (text rest : List ℕ) → item_at text ≡ blank rest → (len : ℕ) × IsLongest text blank rest len
  pub none_there : (text : List ℕ) → item_at text ≡ refused NoToken → begins_char text ≡ false → begins_comment text ≡ false → (len : ℕ) → len ≤ length text
      → IsOneItem (take len text) → ⊥
