-- The item that a text begins with, by its first bytes.
use Rattle.std.proofs.Common.{◌≡◌, ◌==◌, true, false, List, ℕ, refl}
use Rattle.sml_lexer.specs.Chars.{after_run, byte, is_letter, is_space, is_symbol_char}
use Rattle.sml_lexer.specs.declared.chars.Class.TheVariants.{Space}
use Rattle.sml_lexer.specs.Item.{blank}
use Rattle.sml_lexer.specs.Identifiers.{name_item, symbol_item, type_var_item}
use Rattle.sml_lexer.specs.Comments.{begins_comment, comment_item}
use Rattle.sml_lexer.specs.Items.{begins_char, item_at, mark_item}
use Rattle.sml_lexer.specs.Numbers.{begins_number, number_item}
use Rattle.sml_lexer.specs.Strings.{char_item, string_item}

module _ (text : List ℕ) (no_space : is_space (byte text 0) ≡ false) (no_letter : is_letter (byte text 0) ≡ false) where
  pub is_number : begins_number text ≡ true → item_at text ≡ number_item text
  unfolding item_at
  is_number e = rw (no_space, no_letter, e) refl

  pub is_string : begins_number text ≡ false → (byte text 0 == 39) ≡ false → (byte text 0 == 34) ≡ true → item_at text ≡ string_item text
  unfolding item_at
  is_string no_number no_prime e = rw (no_space, no_letter, no_number, no_prime, e) refl

  pub is_char : begins_number text ≡ false → (byte text 0 == 39) ≡ false → (byte text 0 == 34) ≡ false → begins_char text ≡ true → item_at text ≡ char_item text
  unfolding item_at
  is_char no_number no_prime no_quote e = rw (no_space, no_letter, no_number, no_prime, no_quote, e) refl

  pub is_comment : begins_number text ≡ false → (byte text 0 == 39) ≡ false → (byte text 0 == 34) ≡ false → begins_char text ≡ false → begins_comment text ≡ true → item_at text ≡ comment_item text
  unfolding item_at
  is_comment no_number no_prime no_quote no_char e = rw (no_space, no_letter, no_number, no_prime, no_quote, no_char, e) refl

  pub is_mark : begins_number text ≡ false → (byte text 0 == 39) ≡ false → (byte text 0 == 34) ≡ false → begins_char text ≡ false → begins_comment text ≡ false → is_symbol_char (byte text 0) ≡ false → item_at text ≡ mark_item text
  unfolding item_at
  is_mark no_number no_prime no_quote no_char no_comment no_symbol = rw (no_space, no_letter, no_number, no_prime, no_quote, no_char, no_comment, no_symbol) refl

  pub is_type_var : begins_number text ≡ false → (byte text 0 == 39) ≡ true → item_at text ≡ type_var_item text
  unfolding item_at
  is_type_var no_number e = rw (no_space, no_letter, no_number, e) refl

  pub is_symbol : begins_number text ≡ false → (byte text 0 == 39) ≡ false → (byte text 0 == 34) ≡ false → begins_char text ≡ false → begins_comment text ≡ false → is_symbol_char (byte text 0) ≡ true → item_at text ≡ symbol_item text
  unfolding item_at
  is_symbol no_number no_prime no_quote no_char no_comment e = rw (no_space, no_letter, no_number, no_prime, no_quote, no_char, no_comment, e) refl

pub is_blank : (text : List ℕ) → is_space (byte text 0) ≡ true → item_at text ≡ blank (after_run Space text)
unfolding item_at
is_blank text e = rw e refl

pub is_name : (text : List ℕ) → is_space (byte text 0) ≡ false → is_letter (byte text 0) ≡ true → item_at text ≡ name_item text
unfolding item_at
is_name text no_space e = rw (no_space, e) refl
