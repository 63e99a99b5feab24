-- Comments: section 2.3.
use Rattle.std.specs.Prelude.{ℕ, ◌+◌, ◌-◌, Bool, ◌&&◌, ◌==◌, if◌then◌else◌, List, [], ◌∷◌, Option, Some, None, drop}
use Rattle.mlc_faults.specs.declared.code.Code.TheVariants.{NoToken}
use Rattle.sml_lexer.specs.Chars.{byte}
use Rattle.sml_lexer.specs.Item.{Item, blank, refused}

-- the comment brackets
abbrev pub opens : ℕ → ℕ → Bool
opens c d = c == 40 && d == 42

abbrev pub closes : ℕ → ℕ → Bool
closes c d = c == 42 && d == 41

-- what follows the bracket that closes the last of so many open comments
abbrev pub after_comments : ℕ → List ℕ → Option (List ℕ)
after_comments open_ones [] = None
after_comments open_ones (c ∷ []) = None
after_comments open_ones (c ∷ d ∷ text) =
    if opens c d then after_comments (open_ones + 1) text
    else (if closes c d then (if open_ones == 1 then Some text else after_comments (open_ones - 1) text)
    else after_comments open_ones (d ∷ text))

abbrev pub comment_of : Option (List ℕ) → Item
comment_of None = refused NoToken
comment_of (Some rest) = blank rest

abbrev pub begins_comment : List ℕ → Bool
begins_comment text = opens (byte text 0) (byte text 1)

-- a text that begins with a comment's opening bracket
abbrev pub comment_item : List ℕ → Item
comment_item text = comment_of (after_comments 1 (drop 2 text))
