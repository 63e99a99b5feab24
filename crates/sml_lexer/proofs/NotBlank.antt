-- What items of each class are not.
use Rattle.std.proofs.Common.{◌≡◌, ℕ, zero, suc, ◌^◌, Bool, true, false, ◌==◌, nat_le, nat_lt, cond, List, [], ◌∷◌, ◌++◌, take, drop, Option, Some, None, refl}
use Rattle.std.specs.Str.Parse.{digits_value}
use Rattle.mlc_faults.specs.declared.code.Code.TheVariants.{ConstantRange, RealConstant}
use Rattle.mlc_names.specs.declared.token.Reserved.{Reserved}
use Rattle.sml_lexer.specs.declared.chars.Class.TheVariants.{Digit, HexDigit, NameChar, SymbolChar}
use Rattle.sml_lexer.specs.declared.identifiers.Part.{Part}
use Rattle.sml_lexer.specs.declared.identifiers.Part.TheVariants.{Letters, Symbols, Nothing}
use Rattle.sml_lexer.specs.Chars.{after_run, run}
use Rattle.sml_lexer.specs.Comments.{comment_of}
use Rattle.sml_lexer.specs.Identifiers.{by_part, name_item, next_part, qualified, symbol_item, type_var_item, word_or}
use Rattle.sml_lexer.specs.Item.{Item, blank, found, refused}
use Rattle.sml_lexer.specs.Items.{begins_dots, mark_item, mark_or_none}
use Rattle.sml_lexer.specs.Lexeme.{Lexeme}
use Rattle.sml_lexer.specs.Numbers.{begins_hex, begins_hex_word, begins_negative, begins_word, goes_on_as_real, int_item, int_limit, is_plain, number_item, unsigned_item, word_item}
use Rattle.sml_lexer.specs.ReservedWords.{marks, spelt, symbolic, words}
use Rattle.sml_lexer.specs.Strings.{char_item, char_of, char_of_value, quoted, Quoted, string_item, string_of}

abbrev pub is_blank_item : Item → Bool
is_blank_item (blank r) = true
is_blank_item (found l r) = false
is_blank_item (refused c) = false

abbrev pub NoBlank : Item → Type 0
NoBlank item = is_blank_item item ≡ false

-- a test that no token passes, nor a refusal of a constant
module _ (t : Item → Bool) (no_found : (l : Lexeme) (r : List ℕ) → t (found l r) ≡ false) (no_range : t (refused ConstantRange) ≡ false) (no_real : t (refused RealConstant) ≡ false) where
  choice : (b : Bool) (x y : Item) → t x ≡ false → t y ≡ false → t (cond b x y) ≡ false
  choice true x y h k = h
  choice false x y h k = k

  int_fails : (neg plain : Bool) (value : ℕ) (rest : List ℕ) → t (int_item neg plain value rest) ≡ false
  int_fails neg plain value rest = choice (nat_le value (int_limit neg)) _ _ (no_found _ _) no_range

  word_fails : (value : ℕ) (rest : List ℕ) → t (word_item value rest) ≡ false
  word_fails value rest = choice (nat_lt value (2 ^ 32)) _ _ (no_found _ _) no_range

  unsigned_fails : (neg : Bool) (text : List ℕ) → t (unsigned_item neg text) ≡ false
  unsigned_fails neg text =
      choice (begins_hex text) _ _ (int_fails neg false (digits_value 16 (run HexDigit (drop 2 text))) (after_run HexDigit (drop 2 text))) (choice (goes_on_as_real (after_run Digit text)) _ _ no_real (int_fails neg (is_plain neg text) (digits_value 10 (run Digit text)) (after_run Digit text)))

  pub number_fails : (text : List ℕ) → t (number_item text) ≡ false
  number_fails text =
      choice (begins_hex_word text) _ _ (word_fails (digits_value 16 (run HexDigit (drop 3 text))) (after_run HexDigit (drop 3 text))) (choice (begins_word text) _ _ (word_fails (digits_value 10 (run Digit (drop 2 text))) (after_run Digit (drop 2 text))) (choice (begins_negative text) _ _ (unsigned_fails true (drop 1 text)) (unsigned_fails false text)))

  part_fails : (letters symbols : ℕ → Item) (none : Item) (p : Part) → ((n : ℕ) → t (letters n) ≡ false) → ((n : ℕ) → t (symbols n) ≡ false) → t none ≡ false → t (by_part letters symbols none p) ≡ false
  part_fails letters symbols none (Letters n) h k m = h n
  part_fails letters symbols none (Symbols n) h k m = k n
  part_fails letters symbols none Nothing h k m = m

  qualified_fails : (text : List ℕ) (skipped : ℕ) (qs : List (List ℕ)) (name : List ℕ) → t (qualified skipped qs name text) ≡ false
  qualified_fails [] zero qs name = no_found _ _
  qualified_fails [] (suc skipped) qs name = no_found _ _
  qualified_fails (c ∷ text) (suc skipped) qs name = qualified_fails text skipped qs name
  qualified_fails (c ∷ text) zero qs name =
      choice (c == 46) _ _ (part_fails _ _ _ (next_part text) (λ n. qualified_fails text n (qs ++ name ∷ []) (take n text)) (λ n. no_found _ _) (no_found _ _)) (no_found _ _)

  or_word : (o : Option Reserved) (rest : List ℕ) (item : Item) → t item ≡ false → t (word_or o rest item) ≡ false
  or_word None rest item h = h
  or_word (Some w) rest item h = no_found _ _

  pub name_fails : (text : List ℕ) → t (name_item text) ≡ false
  name_fails text = or_word (spelt words (run NameChar text)) (after_run NameChar text) _ (qualified_fails (after_run NameChar text) 0 [] (run NameChar text))

  pub symbol_fails : (text : List ℕ) → t (symbol_item text) ≡ false
  symbol_fails text = or_word (spelt symbolic (run SymbolChar text)) (after_run SymbolChar text) _ (no_found _ _)

pub number_no_blank : (text : List ℕ) → NoBlank (number_item text)
number_no_blank text = number_fails is_blank_item (λ _ _. refl) refl refl text

pub name_no_blank : (text : List ℕ) → NoBlank (name_item text)
name_no_blank text = name_fails is_blank_item (λ _ _. refl) refl refl text

pub symbol_no_blank : (text : List ℕ) → NoBlank (symbol_item text)
symbol_no_blank text = symbol_fails is_blank_item (λ _ _. refl) refl refl text

pub type_var_no_blank : (text : List ℕ) → NoBlank (type_var_item text)
type_var_no_blank text = refl

string_of_no_blank : (o : Option Quoted) → NoBlank (string_of o)
string_of_no_blank None = refl
string_of_no_blank (Some q) = refl

pub string_no_blank : (text : List ℕ) → NoBlank (string_item text)
string_no_blank text = string_of_no_blank (quoted 0 [] (drop 1 text))

value_no_blank : (value rest : List ℕ) → NoBlank (char_of_value value rest)
value_no_blank [] rest = refl
value_no_blank (c ∷ []) rest = refl
value_no_blank (c ∷ d ∷ cs) rest = refl

char_of_no_blank : (o : Option Quoted) → NoBlank (char_of o)
char_of_no_blank None = refl
char_of_no_blank (Some q) = value_no_blank q.value q.rest

pub char_no_blank : (text : List ℕ) → NoBlank (char_item text)
char_no_blank text = char_of_no_blank (quoted 0 [] (drop 2 text))

mark_or_no_blank : (o : Option Reserved) (rest : List ℕ) → NoBlank (mark_or_none o rest)
mark_or_no_blank None rest = refl
mark_or_no_blank (Some m) rest = refl

pub mark_no_blank : (text : List ℕ) → NoBlank (mark_item text)
mark_no_blank text = choice is_blank_item (λ _ _. refl) refl refl (begins_dots text) _ _ refl (mark_or_no_blank (spelt marks (take 1 text)) (drop 1 text))

pub no_token : (o : Option (List ℕ)) (l : Lexeme) (r : List ℕ) → comment_of o ≡ found l r → ⊥
no_token None l r e = cc
no_token (Some t) l r e = cc
