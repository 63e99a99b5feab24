-- What a token is, with the texts of its identifiers.
use Rattle.std.specs.Prelude.{ℕ, ℤ, ◌<◌, Bool, List, [], ◌∷◌, ◌++◌, length, map, slice_index_or, All}
use Rattle.mlc_names.specs.declared.token.Reserved.{Reserved}
use Rattle.mlc_names.specs.declared.token.TokenKind.{TokenKind}
use Rattle.mlc_names.specs.declared.token.TokenKind.TheVariants as kind

pub data Lexeme : Type 0 where
  reserved : Reserved → Lexeme
  int : ℤ → Bool → Lexeme
  word : ℕ → Lexeme
  char : ℕ → Lexeme
  string : List ℕ → Lexeme
  ident : List ℕ → Lexeme
  symbol : List ℕ → Lexeme
  long_ident : List (List ℕ) → List ℕ → Lexeme
  long_symbol : List (List ℕ) → List ℕ → Lexeme
  type_var : List ℕ → Lexeme
  eq_type_var : List ℕ → Lexeme

-- the text of a name, which is empty only where it isn't held
abbrev pub text_of : List (List ℕ) → ℕ → List ℕ
text_of names name = slice_index_or names name []

abbrev pub lexeme_of : List (List ℕ) → TokenKind → Lexeme
lexeme_of names (kind.Reserved r) = reserved r
lexeme_of names (kind.Int value plain) = int value plain
lexeme_of names (kind.Word w) = word w
lexeme_of names (kind.Char c) = char c
lexeme_of names (kind.Str s) = string s.items
lexeme_of names (kind.Ident name) = ident (text_of names name)
lexeme_of names (kind.Symbol name) = symbol (text_of names name)
lexeme_of names (kind.LongIdent qualifiers name) = long_ident (map (text_of names) qualifiers.items) (text_of names name)
lexeme_of names (kind.LongSymbol qualifiers name) = long_symbol (map (text_of names) qualifiers.items) (text_of names name)
lexeme_of names (kind.TypeVar name) = type_var (text_of names name)
lexeme_of names (kind.EqTypeVar name) = eq_type_var (text_of names name)

-- the names of a token are held
abbrev pub HoldsNames : List (List ℕ) → TokenKind → Type 0
HoldsNames names (kind.Ident name) = name < length names
HoldsNames names (kind.Symbol name) = name < length names
HoldsNames names (kind.LongIdent qualifiers name) = All (λ q. q < length names) qualifiers.items × (name < length names)
HoldsNames names (kind.LongSymbol qualifiers name) = All (λ q. q < length names) qualifiers.items × (name < length names)
HoldsNames names (kind.TypeVar name) = name < length names
HoldsNames names (kind.EqTypeVar name) = name < length names
HoldsNames names _ = Unit {0}

-- the identifiers of a token, as they are written
abbrev pub words_in : Lexeme → List (List ℕ)
words_in (ident name) = name ∷ []
words_in (symbol name) = name ∷ []
words_in (long_ident qualifiers name) = qualifiers ++ name ∷ []
words_in (long_symbol qualifiers name) = qualifiers ++ name ∷ []
words_in (type_var name) = name ∷ []
words_in (eq_type_var name) = name ∷ []
words_in (reserved r) = []
words_in (int value plain) = []
words_in (word w) = []
words_in (char c) = []
words_in (string s) = []
