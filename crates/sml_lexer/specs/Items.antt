-- The item that a text begins with: white space, a comment or a token.
use Rattle.std.specs.Prelude.{ℕ, Bool, ◌&&◌, ◌==◌, if◌then◌else◌, List, Option, Some, None, take, drop}
use Rattle.mlc_faults.specs.declared.code.Code.TheVariants.{NoToken}
use Rattle.mlc_names.specs.declared.token.Reserved.{Reserved}
use Rattle.mlc_names.specs.declared.token.Reserved.TheVariants.{Dots}
use Rattle.sml_lexer.specs.declared.chars.Class.TheVariants.{Space}
use Rattle.sml_lexer.specs.Chars.{byte, is_letter, is_space, is_symbol_char, after_run}
use Rattle.sml_lexer.specs.Comments.{begins_comment, comment_item}
use Rattle.sml_lexer.specs.Identifiers.{name_item, symbol_item, type_var_item}
use Rattle.sml_lexer.specs.Item.{Item, blank, found, refused}
use Rattle.sml_lexer.specs.Lexeme.{reserved}
use Rattle.sml_lexer.specs.Numbers.{begins_number, number_item}
use Rattle.sml_lexer.specs.ReservedWords.{marks, spelt}
use Rattle.sml_lexer.specs.Strings.{char_item, string_item}

-- # and a quote
abbrev pub begins_char : List ℕ → Bool
begins_char text = byte text 0 == 35 && byte text 1 == 34

-- three dots
abbrev pub begins_dots : List ℕ → Bool
begins_dots text = byte text 0 == 46 && byte text 1 == 46 && byte text 2 == 46

abbrev pub mark_or_none : Option Reserved → List ℕ → Item
mark_or_none None rest = refused NoToken
mark_or_none (Some mark) rest = found (reserved mark) rest

abbrev pub mark_item : List ℕ → Item
mark_item text = if begins_dots text then found (reserved Dots) (drop 3 text) else mark_or_none (spelt marks (take 1 text)) (drop 1 text)

-- by the bytes that an item begins with, which tell its kind; ~ begins a number where a digit follows,
-- # a character where a quote follows, and an opening bracket a comment where a star follows
unfoldable pub item_at : List ℕ → Item
item_at text =
    if is_space (byte text 0) then blank (after_run Space text)
    else (if is_letter (byte text 0) then name_item text
    else (if begins_number text then number_item text
    else (if byte text 0 == 39 then type_var_item text
    else (if byte text 0 == 34 then string_item text
    else (if begins_char text then char_item text
    else (if begins_comment text then comment_item text
    else (if is_symbol_char (byte text 0) then symbol_item text
    else mark_item text)))))))
