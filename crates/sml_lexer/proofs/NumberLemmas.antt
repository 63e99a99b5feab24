-- Numbers that digits write.
use Rattle.std.proofs.Common.{◌≡◌, ℕ, ◌+◌, ◌*◌, ◌<◌, ◌≤◌, Bool, false, List, [], ◌∷◌, length, get_or, take, drop, arith, sym, ap, ◌∙◌}
use Rattle.std.specs.Char.{digit_value}
use Rattle.std.specs.Str.Parse.{digits_value, digits_value_after}
use Rattle.std.proofs.lemmas.List.{at_drop_more, drop-drop}
use Rattle.sml_lexer.specs.Chars.{run, run_len, after_run}
use Rattle.sml_lexer.specs.Numbers.{decimal_item, goes_on_as_real, int_item, is_plain, word_item}
use Rattle.sml_lexer.specs.ItemOf.{IsConstant}
use Rattle.sml_lexer.specs.declared.chars.Class.{Class}
use Rattle.sml_lexer.specs.declared.chars.Class.TheVariants.{Digit}
use Rattle.sml_lexer.specs.declared.item.Item.{Item}
use Rattle.std.proofs.Math.Nat.{mul-le-mul_left}

-- more digits write no smaller number
pub at_least : (base n : ℕ) (cs : List ℕ) → 0 < base → n ≤ digits_value_after base n cs
at_least base n [] h = omega arith
at_least base n (c ∷ cs) h =
    let more : n * 1 ≤ n * base = mul-le-mul_left n h in
    let ih = at_least base (n * base + digit_value c) cs h in
    omega (arith, more, ih)

-- one digit more
pub one_more : (base n : ℕ) (cs : List ℕ) (i : ℕ) → i < length cs → digits_value_after base n (drop i cs) ≡ digits_value_after base (n * base + digit_value (get_or cs i 0)) (drop (i + 1) cs)
one_more base n cs i h = at_drop_more (digits_value_after base n) cs i 0 h

-- the digits of a constant are the run that begins where they begin
pub digits_are_run : (is_negative plain : Bool) (base : ℕ) (class : Class) (text digits used : List ℕ) (from len : ℕ) (answer : Item) → digits ≡ drop from text → len ≡ run_len class digits → used ≡ take len digits → IsConstant text answer (int_item is_negative plain (digits_value base used) (drop (from + len) text)) → IsConstant text answer (int_item is_negative plain (digits_value base (run class (drop from text))) (after_run class (drop from text)))
digits_are_run is_negative plain base class text digits used from len answer d e u h names =
    let n : len ≡ run_len class (drop from text) = e ∙ ap (run_len class) d in
    let used_is : used ≡ run class (drop from text) = u ∙ cc in
    let left : drop (from + len) text ≡ after_run class (drop from text) = sym (drop-drop len from text) ∙ ap (λ m. drop m (drop from text)) n in
    rw (← used_is, ← left) (h names)

pub word_is_run : (base : ℕ) (class : Class) (text digits used : List ℕ) (from len : ℕ) (answer : Item) → digits ≡ drop from text → len ≡ run_len class digits → used ≡ take len digits → IsConstant text answer (word_item (digits_value base used) (drop (from + len) text)) → IsConstant text answer (word_item (digits_value base (run class (drop from text))) (after_run class (drop from text)))
word_is_run base class text digits used from len answer d e u h names =
    let n : len ≡ run_len class (drop from text) = e ∙ ap (run_len class) d in
    let used_is : used ≡ run class (drop from text) = u ∙ cc in
    let left : drop (from + len) text ≡ after_run class (drop from text) = sym (drop-drop len from text) ∙ ap (λ m. drop m (drop from text)) n in
    rw (← used_is, ← left) (h names)

-- a decimal constant that isn't real
pub decimal_is_run : (is_negative plain real : Bool) (text digits used left : List ℕ) (from len : ℕ) (answer : Item) → digits ≡ drop from text → len ≡ run_len Digit digits → used ≡ take len digits → left ≡ drop len digits → real ≡ goes_on_as_real left → real ≡ false → plain ≡ is_plain is_negative digits → IsConstant text answer (int_item is_negative plain (digits_value 10 used) (drop (from + len) text)) → IsConstant text answer (decimal_item is_negative (drop from text))
decimal_is_run is_negative plain real text digits used left from len answer d e u l r false_is p h names =
    let made = digits_are_run is_negative plain 10 Digit text digits used from len answer d e u h names in
    let n : len ≡ run_len Digit (drop from text) = e ∙ ap (run_len Digit) d in
    let not_real : goes_on_as_real (after_run Digit (drop from text)) ≡ false = (let left_is : left ≡ after_run Digit (drop from text) = l ∙ cc in ap goes_on_as_real (sym left_is) ∙ sym r ∙ false_is) in
    let plain_is : plain ≡ is_plain is_negative (drop from text) = p ∙ ap (is_plain is_negative) d in
    rw (not_real, ← plain_is) made
