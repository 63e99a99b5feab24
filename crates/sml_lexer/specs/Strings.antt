-- Character and string constants: section 2.2.
use Rattle.std.specs.Prelude.{ℕ, Vec, zero, suc, ◌+◌, ◌-◌, Bool, not, ◌&&◌, ◌==◌, nat_le, nat_lt, if◌then◌else◌, List, [], ◌∷◌, ◌++◌, Option, Some, None, take, drop, option_map, option_and_then, option_to_list}
use Rattle.std.specs.Global.{Global}
use Rattle.std.specs.Str.Parse.{digits_value}
use Rattle.mlc_faults.specs.declared.code.Code.TheVariants.{NoToken}
use Rattle.sml_lexer.specs.declared.chars.Class.TheVariants.{Space}
use Rattle.sml_lexer.specs.declared.strings.Piece.{Piece}
use Rattle.sml_lexer.specs.Chars.{byte, is_between, is_digit, is_hex_digit, is_space, run_len}
use Rattle.sml_lexer.specs.Lexeme.{char, string}
use Rattle.sml_lexer.specs.Item.{Item, found, refused}

-- a, b, t, n, v, f, r, the quote and the backslash
abbrev pub letter_escape : ℕ → Option ℕ
letter_escape c =
    if c == 97 then Some 7
    else (if c == 98 then Some 8
    else (if c == 116 then Some 9
    else (if c == 110 then Some 10
    else (if c == 118 then Some 11
    else (if c == 102 then Some 12
    else (if c == 114 then Some 13
    else (if c == 34 then Some 34
    else (if c == 92 then Some 92
    else None))))))))

-- the control character that ^ and this one stand for
abbrev pub control_escape : ℕ → Option ℕ
control_escape c = if is_between 64 95 c then Some (c - 64) else None

-- a character has 8 bits
abbrev pub of_one_byte : ℕ → Option ℕ
of_one_byte c = if nat_lt c 256 then Some c else None

-- three decimal digits
abbrev pub decimal_escape : List ℕ → Option ℕ
decimal_escape text =
    if is_digit (byte text 0) && is_digit (byte text 1) && is_digit (byte text 2) then of_one_byte (digits_value 10 (take 3 text)) else None

-- four hexadecimal digits
abbrev pub hex_escape : List ℕ → Option ℕ
hex_escape text =
    if is_hex_digit (byte text 0) && is_hex_digit (byte text 1) && is_hex_digit (byte text 2) && is_hex_digit (byte text 3)
    then of_one_byte (digits_value 16 (take 4 text))
    else None

-- a character that is written in so many bytes
abbrev pub written_in : ℕ → Option ℕ → Option Piece
written_in len c = option_map (λ value. record { value = Some value; len = len }) c

-- white space and a backslash, which stand for nothing
abbrev pub gap : List ℕ → Option Piece
gap text =
    if byte text (run_len Space text) == 92 then Some (record { value = None; len = run_len Space text + 2 }) else None

-- what stands after a backslash; the backslash counts in the piece's length
abbrev pub escape : List ℕ → Option Piece
escape text =
    if is_space (byte text 0) then gap text
    else (if is_digit (byte text 0) then written_in 4 (decimal_escape text)
    else (if byte text 0 == 117 then written_in 6 (hex_escape (drop 1 text))
    else (if byte text 0 == 94 then written_in 3 (control_escape (byte text 1))
    else written_in 2 (letter_escape (byte text 0)))))

-- a byte that stands for itself, where it's neither a quote nor a backslash
abbrev pub is_printable : ℕ → Bool
is_printable c = nat_le 32 c && not (c == 127)

-- one character of a string constant, or a gap
abbrev pub next_piece : List ℕ → Option Piece
next_piece text =
    if byte text 0 == 92 then escape (drop 1 text)
    else (if is_printable (byte text 0) then Some (record { value = Some (byte text 0); len = 1 }) else None)

-- the characters of a string constant, and what follows its closing quote
pub record Quoted : Type 0 where
  pub value : List ℕ
  pub rest : List ℕ

-- the rest of a string constant of which the characters so far were read; so many bytes belong to the piece before
abbrev pub quoted : ℕ → List ℕ → List ℕ → Option Quoted
quoted skipped so_far [] = None
quoted (suc skipped) so_far (c ∷ text) = quoted skipped so_far text
quoted zero so_far (c ∷ text) =
    if c == 34
    then Some (record { value = so_far; rest = text })
    else option_and_then (λ p. quoted (p.len - 1) (so_far ++ option_to_list p.value) text) (next_piece (c ∷ text))

abbrev pub string_of : Option Quoted → Item
string_of None = refused NoToken
string_of (Some q) = found (string q.value) q.rest

-- a text that begins with a quote
abbrev pub string_item : List ℕ → Item
string_item text = string_of (quoted 0 [] (drop 1 text))

-- a character constant has one character
abbrev pub char_of_value : List ℕ → List ℕ → Item
char_of_value (c ∷ []) rest = found (char c) rest
char_of_value _ rest = refused NoToken

abbrev pub char_of : Option Quoted → Item
char_of None = refused NoToken
char_of (Some q) = char_of_value q.value q.rest

-- a text that begins with # and a quote
abbrev pub char_item : List ℕ → Item
char_item text = char_of (quoted 0 [] (drop 2 text))

-- what the code read: the characters, and the index of what follows
abbrev pub quoted_of : List ℕ → Vec ℕ Global × ℕ → Quoted
quoted_of text q = record { value = q.0.items; rest = drop q.1 text }
