-- Integer, word and real constants: section 2.2.
use Rattle.std.specs.Prelude.{ℕ, ◌-◌, ◌^◌, ℤ, pos, neg_ℤ, Bool, true, false, not, ◌&&◌, ◌||◌, ◌==◌, nat_le, nat_lt, if◌then◌else◌, List, drop}
use Rattle.std.specs.Str.Parse.{digits_value}
use Rattle.mlc_faults.specs.declared.code.Code.TheVariants.{ConstantRange, RealConstant}
use Rattle.sml_lexer.specs.declared.chars.Class.TheVariants.{Digit, HexDigit}
use Rattle.sml_lexer.specs.Chars.{byte, is_digit, is_hex_digit, run, run_len, after_run}
use Rattle.sml_lexer.specs.Lexeme.{int, word}
use Rattle.sml_lexer.specs.Item.{Item, found, refused}

-- 0x and a hexadecimal digit
abbrev pub begins_hex : List ℕ → Bool
begins_hex text = byte text 0 == 48 && byte text 1 == 120 && is_hex_digit (byte text 2)

-- 0w and a digit
abbrev pub begins_word : List ℕ → Bool
begins_word text = byte text 0 == 48 && byte text 1 == 119 && is_digit (byte text 2)

-- 0wx and a hexadecimal digit
abbrev pub begins_hex_word : List ℕ → Bool
begins_hex_word text = byte text 0 == 48 && byte text 1 == 119 && byte text 2 == 120 && is_hex_digit (byte text 3)

-- ~ and a digit
abbrev pub begins_negative : List ℕ → Bool
begins_negative text = byte text 0 == 126 && is_digit (byte text 1)

abbrev pub begins_number : List ℕ → Bool
begins_number text = is_digit (byte text 0) || begins_negative text

-- . and a digit
abbrev pub begins_fraction : List ℕ → Bool
begins_fraction text = byte text 0 == 46 && is_digit (byte text 1)

-- e or E, and an integer constant in decimal notation
abbrev pub begins_exponent : List ℕ → Bool
begins_exponent text = (byte text 0 == 101 || byte text 0 == 69) && begins_number (drop 1 text)

-- after the digits of an integer constant: it's the beginning of a real constant
abbrev pub goes_on_as_real : List ℕ → Bool
goes_on_as_real text = begins_fraction text || begins_exponent text

-- the least integer is -2^31, the greatest 2^31 - 1
abbrev pub int_limit : Bool → ℕ
int_limit is_negative = if is_negative then 2 ^ 31 else 2 ^ 31 - 1

abbrev pub int_value : Bool → ℕ → ℤ
int_value is_negative magnitude = if is_negative then neg_ℤ (pos magnitude) else pos magnitude

abbrev pub int_item : Bool → Bool → ℕ → List ℕ → Item
int_item is_negative plain magnitude rest =
    if nat_le magnitude (int_limit is_negative) then found (int (int_value is_negative magnitude) plain) rest else refused ConstantRange

abbrev pub word_item : ℕ → List ℕ → Item
word_item value rest = if nat_lt value (2 ^ 32) then found (word value) rest else refused ConstantRange

-- decimal digits alone with no zero in front
abbrev pub is_plain : Bool → List ℕ → Bool
is_plain is_negative digits = not is_negative && (not (byte digits 0 == 48) || run_len Digit digits == 1)

-- the integer constant whose sign was read
abbrev pub decimal_item : Bool → List ℕ → Item
decimal_item is_negative text =
    if goes_on_as_real (after_run Digit text)
    then refused RealConstant
    else int_item is_negative (is_plain is_negative text) (digits_value 10 (run Digit text)) (after_run Digit text)

abbrev pub hex_item : Bool → List ℕ → Item
hex_item is_negative digits = int_item is_negative false (digits_value 16 (run HexDigit digits)) (after_run HexDigit digits)

abbrev pub unsigned_item : Bool → List ℕ → Item
unsigned_item is_negative text = if begins_hex text then hex_item is_negative (drop 2 text) else decimal_item is_negative text

-- the constant that a text begins with
abbrev pub number_item : List ℕ → Item
number_item text =
    if begins_hex_word text then word_item (digits_value 16 (run HexDigit (drop 3 text))) (after_run HexDigit (drop 3 text))
    else (if begins_word text then word_item (digits_value 10 (run Digit (drop 2 text))) (after_run Digit (drop 2 text))
    else (if begins_negative text then unsigned_item true (drop 1 text)
    else unsigned_item false text))
