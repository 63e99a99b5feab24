-- Identifiers: section 2.4.
use Rattle.std.specs.Prelude.{ℕ, zero, suc, ◌==◌, if◌then◌else◌, List, [], ◌∷◌, ◌++◌, Option, Some, None, take, drop}
use Rattle.mlc_names.specs.declared.token.Reserved.{Reserved}
use Rattle.sml_lexer.specs.declared.chars.Class.TheVariants.{NameChar, SymbolChar}
use Rattle.sml_lexer.specs.declared.identifiers.Part.{Part}
use Rattle.sml_lexer.specs.declared.identifiers.Part.TheVariants.{Letters, Symbols, Nothing}
use Rattle.sml_lexer.specs.Chars.{byte, is_letter, is_symbol_char, run_len, run, after_run}
use Rattle.sml_lexer.specs.Lexeme.{Lexeme, reserved, ident, symbol, long_ident, long_symbol, type_var, eq_type_var}
use Rattle.sml_lexer.specs.Item.{Item, found}
use Rattle.sml_lexer.specs.ReservedWords.{free_len, spelt, symbolic, words}

-- an identifier has a byte
abbrev pub unless_empty : (ℕ → Part) → ℕ → Part
unless_empty sort len = if len == 0 then Nothing else sort len

-- the longest identifier that a text begins with; reserved words are none
abbrev pub next_part : List ℕ → Part
next_part text =
    if is_letter (byte text 0) then unless_empty Letters (free_len words (run_len NameChar text) text)
    else (if is_symbol_char (byte text 0) then unless_empty Symbols (free_len symbolic (run_len SymbolChar text) text)
    else Nothing)

-- an alphanumeric identifier with these structure identifiers before it
abbrev pub named : List (List ℕ) → List ℕ → Lexeme
named [] name = ident name
named (q ∷ qualifiers) name = long_ident (q ∷ qualifiers) name

abbrev pub by_part : (ℕ → Item) → (ℕ → Item) → Item → Part → Item
by_part letters symbols nothing (Letters len) = letters len
by_part letters symbols nothing (Symbols len) = symbols len
by_part letters symbols nothing Nothing = nothing

-- an identifier was read, and structure identifiers before it; so many bytes belong to it still;
-- with a dot and a further identifier after it, it's a structure identifier too
abbrev pub qualified : ℕ → List (List ℕ) → List ℕ → List ℕ → Item
qualified skipped qualifiers name [] = found (named qualifiers name) []
qualified (suc skipped) qualifiers name (c ∷ text) = qualified skipped qualifiers name text
qualified zero qualifiers name (c ∷ text) =
    if c == 46
    then by_part
    (λ len. qualified len (qualifiers ++ name ∷ []) (take len text) text)
    (λ len. found (long_symbol (qualifiers ++ name ∷ []) (take len text)) (drop len text))
    (found (named qualifiers name) (c ∷ text))
    (next_part text)
    else found (named qualifiers name) (c ∷ text)

abbrev pub word_or : Option Reserved → List ℕ → Item → Item
word_or None rest item = item
word_or (Some word) rest item = found (reserved word) rest

-- a text that begins with a letter
abbrev pub name_item : List ℕ → Item
name_item text =
    word_or (spelt words (run NameChar text)) (after_run NameChar text) (qualified 0 [] (run NameChar text) (after_run NameChar text))

-- a text that begins with a symbolic character
abbrev pub symbol_item : List ℕ → Item
symbol_item text =
    word_or (spelt symbolic (run SymbolChar text)) (after_run SymbolChar text) (found (symbol (run SymbolChar text)) (after_run SymbolChar text))

-- two primes make an equality type variable
abbrev pub type_variable : List ℕ → Lexeme
type_variable name = if byte name 1 == 39 then eq_type_var name else type_var name

-- a text that begins with a prime
abbrev pub type_var_item : List ℕ → Item
type_var_item text = found (type_variable (run NameChar text)) (after_run NameChar text)
