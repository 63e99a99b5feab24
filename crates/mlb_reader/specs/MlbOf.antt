-- The paths of an ML Basis file, as the code has them.
use Rattle.std.specs.Prelude.{◌≡◌, true, ℕ, ◌+◌, ◌<◌, ◌≤◌, List, ◌++◌, length, map, All}
use Rattle.mlb_reader.specs.Mlb.{Item, IsMlb, IsPath, is_parted}
use Rattle.mlb_reader.specs.declared.mlb.Item as code
use Rattle.mlb_reader.specs.declared.mlb.Mlb.{Mlb}

abbrev pub item_of : code.Item → Item
item_of item = record { byte = item.byte; word = item.word.items }

abbrev pub items_of : Mlb → List Item
items_of mlb = map item_of mlb.items.items

-- the word of a path is ASCII, and stands in a file of so many bytes
pub record IsWord (size : ℕ) (item : Item) : Type 0 where
  pub ascii : All (λ b. b < 128) item.word
  pub inside : item.byte + length item.word ≤ size

-- the bytes are no ML Basis file
abbrev pub IsNoMlb : List ℕ → Type 0
IsNoMlb bytes = (items : List Item) → ¬ (IsMlb bytes items)

-- the text begins with this path, and nothing or white space stands after it
pub record BeginsPath (text word : List ℕ) : Type 0 where
  pub rest : List ℕ
  pub stands : text ≡ word ++ rest
  pub is : IsPath word
  pub parted : is_parted rest ≡ true
