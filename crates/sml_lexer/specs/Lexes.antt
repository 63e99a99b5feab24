-- The tokens of a text: section 2.5.
use Rattle.std.specs.Prelude.{◌≡◌, ℕ, ◌-◌, ◌<◌, ◌≤◌, List, [], ◌∷◌, length, drop, All, None, Result, Ok, Err, ⊤}
use Rattle.std.specs.List.{flat_map}
use Rattle.mlc_names.specs.Names.{with_texts}
use Rattle.mlc_faults.specs.declared.fault.Fault as base
use Rattle.mlc_faults.specs.declared.refused.Refused.{Refused}
use Rattle.mlc_faults.specs.declared.refused.Refused.TheVariants as refusal
use Rattle.mlc_names.specs.declared.token.Token.{Token}
use Rattle.mlc_names.specs.declared.token.Span.{Span}
use Rattle.sml_lexer.specs.Item.{blank, found, refused}
use Rattle.sml_lexer.specs.Items.{item_at}
use Rattle.sml_lexer.specs.Lexeme.{Lexeme, lexeme_of, HoldsNames, words_in}

-- a token: what it is, and its span
pub record Lexed : Type 0 where
  pub lexeme : Lexeme
  pub span : Span

-- of a file of so many bytes, the token that begins where `text` is left and ends where `rest` is left
abbrev pub lexed : ℕ → Lexeme → List ℕ → List ℕ → Lexed
lexed size lexeme text rest = record { lexeme = lexeme; span = record { first = size - length text; end = size - length rest } }

-- `text`, the end of a file of so many bytes, begins with items of which these are the tokens, and `left` follows them
pub data Reads (size : ℕ) : List ℕ → List Lexed → List ℕ → Type 0 where
  nothing : (text : List ℕ) → Reads size text [] text
  a_blank : (text rest left : List ℕ) (tokens : List Lexed) → item_at text ≡ blank rest → Reads size rest tokens left → Reads size text tokens left
  a_token : (text rest left : List ℕ) (lexeme : Lexeme) (tokens : List Lexed) → item_at text ≡ found lexeme rest → Reads size rest tokens left
      → Reads size text (lexed size lexeme text rest ∷ tokens) left

-- the file is a sequence of items of which these are the tokens
abbrev pub Lexes : List ℕ → List Lexed → Type 0
Lexes bytes tokens = Reads (length bytes) bytes tokens []

-- no file has two lists of tokens
abbrev pub OneReading : Type 0
OneReading = (bytes : List ℕ) (tokens others : List Lexed) → Lexes bytes tokens → Lexes bytes others → tokens ≡ others

-- the code's tokens, with the texts of their names
abbrev pub lexed_of : List (List ℕ) → Token → Lexed
lexed_of names token = record { lexeme = lexeme_of names token.kind; span = token.span }

abbrev pub HoldsAllNames : List (List ℕ) → List Token → Type 0
HoldsAllNames names tokens = All (λ token. HoldsNames names token.kind) tokens

-- the token is what the file has in its span
abbrev pub IsSlice : List ℕ → List (List ℕ) → Token → Type 0
IsSlice bytes names token = item_at (drop token.span.first bytes) ≡ found (lexeme_of names token.kind) (drop token.span.end bytes)

-- the spans have bytes and lie one after another between these places
abbrev pub Rises : ℕ → List Token → ℕ → Type 0
Rises from [] to = from ≤ to
Rises from (token ∷ tokens) to = (from ≤ token.span.first) × (token.span.first < token.span.end) × Rises token.span.end tokens to

-- a refusal of a file: no item begins at its place, for its code, and items stand before it
pub record IsRefused (bytes : List ℕ) (file : ℕ) (fault : base.Fault) : Type 0 where
  pub file_is : fault.place.file ≡ file
  pub no_name : fault.name ≡ None
  pub within : fault.place.byte < length bytes
  pub no_item : item_at (drop fault.place.byte bytes) ≡ refused fault.code
  pub items_before : (tokens : List Lexed) × Reads (length bytes) bytes tokens (drop fault.place.byte bytes)

abbrev pub IfFault : {T : Type 0} → Result T Refused → (base.Fault → Type 0) → Type 0
IfFault (Ok x) P = ⊤
IfFault (Err (refusal.Fault fault)) P = P fault
IfFault (Err refusal.Memory) P = ⊤

-- the table of names once these tokens were read: the identifiers that it doesn't hold yet go last, in the order of their first tokens
abbrev pub names_after : List (List ℕ) → List Lexed → List (List ℕ)
names_after names tokens = with_texts names (flat_map (λ token. words_in token.lexeme) tokens)
