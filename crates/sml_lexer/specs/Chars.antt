-- Classes of characters, and the runs that they make.
use Rattle.std.specs.Prelude.{ℕ, Bool, ◌&&◌, ◌||◌, ◌==◌, nat_le, List, take, drop, codes, slice_index}
use Rattle.std.specs.List.{prefix_len, list_any}
use Rattle.sml_lexer.specs.declared.chars.Class.{Class}
use Rattle.sml_lexer.specs.declared.chars.Class.TheVariants.{Space, Digit, HexDigit, NameChar, SymbolChar}

-- the byte at this index, or 0, which no rule speaks of, past the end
abbrev pub byte : List ℕ → ℕ → ℕ
byte text i = slice_index text i

abbrev pub is_between : ℕ → ℕ → ℕ → Bool
is_between low high c = nat_le low c && nat_le c high

-- section 2.5, and carriage return: space, tab, newline, form feed
abbrev pub is_space : ℕ → Bool
is_space c = c == 32 || c == 9 || c == 10 || c == 12 || c == 13

-- section 2.2
abbrev pub is_digit : ℕ → Bool
is_digit c = is_between 48 57 c

abbrev pub is_hex_digit : ℕ → Bool
is_hex_digit c = is_digit c || is_between 65 70 c || is_between 97 102 c

-- section 2.4
abbrev pub is_letter : ℕ → Bool
is_letter c = is_between 65 90 c || is_between 97 122 c

-- letters, digits, primes and underbars
abbrev pub is_name_char : ℕ → Bool
is_name_char c = is_letter c || is_digit c || c == 39 || c == 95

abbrev pub symbols : List ℕ
symbols = codes "!%&$#+-/:<=>?@\\~`^|*"

abbrev pub is_symbol_char : ℕ → Bool
is_symbol_char c = list_any (λ s. s == c) symbols

abbrev pub is_in : Class → ℕ → Bool
is_in Space c = is_space c
is_in Digit c = is_digit c
is_in HexDigit c = is_hex_digit c
is_in NameChar c = is_name_char c
is_in SymbolChar c = is_symbol_char c

-- how many bytes of a class a text begins with
abbrev pub run_len : Class → List ℕ → ℕ
run_len class text = prefix_len (is_in class) text

-- the longest run of a class that a text begins with, and what follows it
abbrev pub run : Class → List ℕ → List ℕ
run class text = take (run_len class text) text

abbrev pub after_run : Class → List ℕ → List ℕ
after_run class text = drop (run_len class text) text
