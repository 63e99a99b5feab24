-- Number constants in texts that are cut off.
use Rattle.std.proofs.Common.{◌≡◌, ℕ, zero, suc, ◌+◌, ◌-◌, ◌^◌, ◌<◌, ◌≤◌, inl, inr, Bool, true, false, not, ◌&&◌, ◌||◌, ◌==◌, nat_le, nat_lt, List, [], take, drop, refl, arith, sym, ap, ◌∙◌}
use Rattle.std.specs.Str.Parse.{digits_value}
use Rattle.std.proofs.lemmas.List.{get_or-drop}
use Rattle.std.proofs.lemmas.Bool.{and_parts, both_ways, cases_Bool, or_cases, or_left}
use Rattle.mlc_faults.specs.declared.code.Code.{Code}
use Rattle.mlc_faults.specs.declared.code.Code.TheVariants.{ConstantRange, RealConstant}
use Rattle.sml_lexer.specs.declared.chars.Class.{Class}
use Rattle.sml_lexer.specs.declared.chars.Class.TheVariants.{Digit, HexDigit}
use Rattle.sml_lexer.specs.Chars.{after_run, byte, is_digit, is_hex_digit, run, run_len}
use Rattle.sml_lexer.specs.Item.{Item, found, refused}
use Rattle.sml_lexer.specs.Lexeme.{Lexeme, int, word}
use Rattle.sml_lexer.specs.Numbers.{begins_hex, begins_hex_word, begins_negative, begins_number, begins_word, decimal_item, goes_on_as_real, hex_item, int_item, int_limit, int_value, is_plain, number_item, unsigned_item, word_item}
use Rattle.sml_lexer.proofs.CutLemmas.{after_run_cut, byte_cut, drop_cut, false_from, Implies, implies_and, implies_byte, implies_or, run_len_same, run_same, run_some, run_within}
use Rattle.sml_lexer.proofs.Cuts.{Cuts, shift, as_other}

-- tests of the first bytes
pub number_implies : (text : List ℕ) (s : ℕ) → Implies (begins_number (take s text)) (begins_number text)
number_implies text s =
    implies_or _ _ _ _ (implies_byte is_digit text s 0 refl) (implies_and _ _ _ _ (implies_byte (λ c. c == 126) text s 0 refl) (implies_byte is_digit text s 1 refl))

nothing : begins_number [] ≡ true → ⊥
nothing e = cc

after_one : (text : List ℕ) (s : ℕ) → Implies (begins_number (drop 1 (take s text))) (begins_number (drop 1 text))
after_one text zero e = absurd (nothing e)
after_one text (suc s) e = number_implies (drop 1 text) (suc s - 1) (ap begins_number (sym (drop_cut text (suc s) 1 (omega arith))) ∙ e)

real_implies : (text : List ℕ) (s : ℕ) → Implies (goes_on_as_real (take s text)) (goes_on_as_real text)
real_implies text s =
    let fraction = implies_and _ _ _ _ (implies_byte (λ c. c == 46) text s 0 refl) (implies_byte is_digit text s 1 refl) in
    let letter = implies_or _ _ _ _ (implies_byte (λ c. c == 101) text s 0 refl) (implies_byte (λ c. c == 69) text s 0 refl) in
    implies_or _ _ _ _ fraction (implies_and _ _ _ _ letter (after_one text s))

hex_implies : (text : List ℕ) (s : ℕ) → Implies (begins_hex (take s text)) (begins_hex text)
hex_implies text s =
    implies_and _ _ _ _ (implies_and _ _ _ _ (implies_byte (λ c. c == 48) text s 0 refl) (implies_byte (λ c. c == 120) text s 1 refl)) (implies_byte is_hex_digit text s 2 refl)

word_implies : (text : List ℕ) (s : ℕ) → Implies (begins_word (take s text)) (begins_word text)
word_implies text s =
    implies_and _ _ _ _ (implies_and _ _ _ _ (implies_byte (λ c. c == 48) text s 0 refl) (implies_byte (λ c. c == 119) text s 1 refl)) (implies_byte is_digit text s 2 refl)

hex_word_implies : (text : List ℕ) (s : ℕ) → Implies (begins_hex_word (take s text)) (begins_hex_word text)
hex_word_implies text s =
    implies_and _ _ _ _ (implies_and _ _ _ _ (implies_and _ _ _ _ (implies_byte (λ c. c == 48) text s 0 refl) (implies_byte (λ c. c == 119) text s 1 refl)) (implies_byte (λ c. c == 120) text s 2 refl)) (implies_byte is_hex_digit text s 3 refl)

negative_implies : (text : List ℕ) (s : ℕ) → Implies (begins_negative (take s text)) (begins_negative text)
negative_implies text s = implies_and _ _ _ _ (implies_byte (λ c. c == 126) text s 0 refl) (implies_byte is_digit text s 1 refl)

-- a constant doesn't depend on what follows it
record Same (item : List ℕ → Item) (lexeme : Lexeme) (after rest : List ℕ) : Type 0 where
  after_is : rest ≡ after
  others : (other : List ℕ) → item other ≡ found lexeme other

refused_found : (c : Code) (l : Lexeme) (r : List ℕ) → refused c ≡ found l r → ⊥
refused_found c l r e = cc

found_same : (k l : Lexeme) (r s : List ℕ) → found k r ≡ found l s → (s ≡ r) × (k ≡ l)
found_same k l r s e = (cc, cc)

made : (item : List ℕ → Item) (k lexeme : Lexeme) (after rest : List ℕ) → ((other : List ℕ) → item other ≡ found k other) → found k after ≡ found lexeme rest → Same item lexeme after rest
made item k lexeme after rest all e =
    let parts = found_same k lexeme after rest e in
    record { after_is = parts.0; others = λ other. all other ∙ ap (λ l. found l other) parts.1 }

int_same : (neg plain : Bool) (value : ℕ) (lexeme : Lexeme) (after rest : List ℕ) → int_item neg plain value after ≡ found lexeme rest → Same (int_item neg plain value) lexeme after rest
int_same neg plain value lexeme after rest e =
    elim (cases_Bool (nat_le value (int_limit neg))) as (λ _. Same (int_item neg plain value) lexeme after rest) [
      | inl is ↦ made _ (int (int_value neg value) plain) lexeme after rest (λ other. rw is refl) (rw is at e)
      | inr isnt ↦ absurd (refused_found ConstantRange lexeme rest (rw isnt at e))
    ]

word_same : (value : ℕ) (lexeme : Lexeme) (after rest : List ℕ) → word_item value after ≡ found lexeme rest → Same (word_item value) lexeme after rest
word_same value lexeme after rest e =
    elim (cases_Bool (nat_lt value (2 ^ 32))) as (λ _. Same (word_item value) lexeme after rest) [
      | inl is ↦ made _ (word value) lexeme after rest (λ other. rw is refl) (rw is at e)
      | inr isnt ↦ absurd (refused_found ConstantRange lexeme rest (rw isnt at e))
    ]

-- a run of digits
abbrev word_run : ℕ → Class → List ℕ → Item
word_run base class text = word_item (digits_value base (run class text)) (after_run class text)

word_run_cut : (base : ℕ) (class : Class) (text : List ℕ) (lexeme : Lexeme) (rest : List ℕ) → 0 < run_len class text → word_run base class text ≡ found lexeme rest → Cuts (word_run base class) (found lexeme) text rest
word_run_cut base class text lexeme rest some e =
    let i = word_same (digits_value base (run class text)) lexeme (after_run class text) rest e in
    record {
      len = run_len class text;
      some = some;
      within = run_within class text;
      rest_is = i.after_is;
      same = λ s h.
          let front = run_same class text s h in
          let after = after_run_cut class text s h in
          (λ j. word_item (digits_value base (front j)) (after j)) ∙ i.others (drop (run_len class text) (take s text));
    }

hex_run_cut : (neg : Bool) (text : List ℕ) (lexeme : Lexeme) (rest : List ℕ) → 0 < run_len HexDigit text → hex_item neg text ≡ found lexeme rest → Cuts (hex_item neg) (found lexeme) text rest
hex_run_cut neg text lexeme rest some e =
    let i = int_same neg false (digits_value 16 (run HexDigit text)) lexeme (after_run HexDigit text) rest e in
    record {
      len = run_len HexDigit text;
      some = some;
      within = run_within HexDigit text;
      rest_is = i.after_is;
      same = λ s h.
          let front = run_same HexDigit text s h in
          let after = after_run_cut HexDigit text s h in
          (λ j. int_item neg false (digits_value 16 (front j)) (after j)) ∙ i.others (drop (run_len HexDigit text) (take s text));
    }

not_real : (neg : Bool) (text : List ℕ) → goes_on_as_real (after_run Digit text) ≡ false → decimal_item neg text ≡ int_item neg (is_plain neg text) (digits_value 10 (run Digit text)) (after_run Digit text)
not_real neg text isnt = rw isnt refl

real : (neg : Bool) (text : List ℕ) → goes_on_as_real (after_run Digit text) ≡ true → decimal_item neg text ≡ refused RealConstant
real neg text is = rw is refl

plain_same : (neg : Bool) (cut text : List ℕ) → byte cut 0 ≡ byte text 0 → run_len Digit cut ≡ run_len Digit text → is_plain neg cut ≡ is_plain neg text
plain_same neg cut text e f = λ j. not neg && (not (e j == 48) || f j == 1)

decimal_run_cut : (neg : Bool) (text : List ℕ) (lexeme : Lexeme) (rest : List ℕ) → 0 < run_len Digit text → decimal_item neg text ≡ found lexeme rest → Cuts (decimal_item neg) (found lexeme) text rest
decimal_run_cut neg text lexeme rest some e =
    elim (cases_Bool (goes_on_as_real (after_run Digit text))) as (λ _. Cuts (decimal_item neg) (found lexeme) text rest) [
      | inl is ↦ absurd (refused_found RealConstant lexeme rest (sym (real neg text is) ∙ e))
      | inr isnt ↦
          let n = run_len Digit text in
          let i = int_same neg (is_plain neg text) (digits_value 10 (run Digit text)) lexeme (after_run Digit text) rest (sym (not_real neg text isnt) ∙ e) in
          record {
            len = n;
            some = some;
            within = run_within Digit text;
            rest_is = i.after_is;
            same = λ s h.
                let cut = take s text in
                let len_same = run_len_same Digit text s h in
                let front = run_same Digit text s h in
                let after = after_run_cut Digit text s h in
                let end : after_run Digit cut ≡ take (s - n) (drop n text) = after ∙ drop_cut text s n h in
                let still : goes_on_as_real (after_run Digit cut) ≡ false = ap goes_on_as_real end ∙ false_from _ _ (real_implies (drop n text) (s - n)) isnt in
                let first = byte_cut text s 0 (omega (arith, some)) in
                let plain : is_plain neg cut ≡ is_plain neg text = plain_same neg cut text first len_same in
                not_real neg cut still ∙ (λ j. int_item neg (plain j) (digits_value 10 (front j)) (after j)) ∙ i.others (drop n cut);
          }
    ]

byte_drop : (text : List ℕ) (k i : ℕ) → byte (drop k text) i ≡ byte text (k + i)
byte_drop text k i = get_or-drop k text i 0

hex_case : (neg : Bool) (text : List ℕ) → begins_hex text ≡ true → unsigned_item neg text ≡ hex_item neg (drop 2 text)
hex_case neg text is = rw is refl

decimal_case : (neg : Bool) (text : List ℕ) → begins_hex text ≡ false → unsigned_item neg text ≡ decimal_item neg text
decimal_case neg text isnt = rw isnt refl

three_same : (text : List ℕ) (s : ℕ) → 3 ≤ s → begins_hex (take s text) ≡ begins_hex text
three_same text s h =
    let a = byte_cut text s 0 (omega arith) in
    let b = byte_cut text s 1 (omega arith) in
    let c = byte_cut text s 2 (omega arith) in
    λ j. a j == 48 && b j == 120 && is_hex_digit (c j)

unsigned_cut : (neg : Bool) (text : List ℕ) (lexeme : Lexeme) (rest : List ℕ) → is_digit (byte text 0) ≡ true → unsigned_item neg text ≡ found lexeme rest → Cuts (unsigned_item neg) (found lexeme) text rest
unsigned_cut neg text lexeme rest digit e =
    elim (cases_Bool (begins_hex text)) as (λ _. Cuts (unsigned_item neg) (found lexeme) text rest) [
      | inl is ↦
          let third : is_hex_digit (byte text 2) ≡ true = (and_parts (byte text 0 == 48 && byte text 1 == 120) (is_hex_digit (byte text 2)) is).1 in
          let some = run_some HexDigit (drop 2 text) refl (ap is_hex_digit (byte_drop text 2 0) ∙ third) in
          let i = hex_run_cut neg (drop 2 text) lexeme rest some (sym (hex_case neg text is) ∙ e) in
          shift 2 (hex_item neg) (unsigned_item neg) (found lexeme) text rest i (λ s h. hex_case neg (take s text) (three_same text s (omega (arith, i.some)) ∙ is))
      | inr isnt ↦
          let some = run_some Digit text refl digit in
          as_other (decimal_item neg) (unsigned_item neg) (found lexeme) text rest (decimal_run_cut neg text lexeme rest some (sym (decimal_case neg text isnt) ∙ e)) (λ s h. decimal_case neg (take s text) (false_from _ _ (hex_implies text s) isnt))
    ]

-- the four first bytes
four_same : (text : List ℕ) (s : ℕ) → 4 ≤ s → begins_hex_word (take s text) ≡ begins_hex_word text
four_same text s h =
    let a = byte_cut text s 0 (omega arith) in
    let b = byte_cut text s 1 (omega arith) in
    let c = byte_cut text s 2 (omega arith) in
    let d = byte_cut text s 3 (omega arith) in
    λ j. a j == 48 && b j == 119 && c j == 120 && is_hex_digit (d j)

word_three_same : (text : List ℕ) (s : ℕ) → 3 ≤ s → begins_word (take s text) ≡ begins_word text
word_three_same text s h =
    let a = byte_cut text s 0 (omega arith) in
    let b = byte_cut text s 1 (omega arith) in
    let c = byte_cut text s 2 (omega arith) in
    λ j. a j == 48 && b j == 119 && is_digit (c j)

two_same : (text : List ℕ) (s : ℕ) → 2 ≤ s → begins_negative (take s text) ≡ begins_negative text
two_same text s h =
    let a = byte_cut text s 0 (omega arith) in
    let b = byte_cut text s 1 (omega arith) in
    λ j. a j == 126 && is_digit (b j)

-- the kinds of constants
hex_word_case : (text : List ℕ) → begins_hex_word text ≡ true → number_item text ≡ word_run 16 HexDigit (drop 3 text)
hex_word_case text is = rw is refl

word_case : (text : List ℕ) → begins_hex_word text ≡ false → begins_word text ≡ true → number_item text ≡ word_run 10 Digit (drop 2 text)
word_case text isnt is = rw (isnt, is) refl

negative_case : (text : List ℕ) → begins_hex_word text ≡ false → begins_word text ≡ false → begins_negative text ≡ true → number_item text ≡ unsigned_item true (drop 1 text)
negative_case text no_hex no_word is = rw (no_hex, no_word, is) refl

positive_case : (text : List ℕ) → begins_hex_word text ≡ false → begins_word text ≡ false → begins_negative text ≡ false → number_item text ≡ unsigned_item false text
positive_case text no_hex no_word isnt = rw (no_hex, no_word, isnt) refl

-- where a cut text begins with a number
begins_two : (text : List ℕ) (s : ℕ) → 2 ≤ s → begins_number text ≡ true → begins_number (take s text) ≡ true
begins_two text s h e =
    let a = byte_cut text s 0 (omega arith) in
    let b = byte_cut text s 1 (omega arith) in
    let same : begins_number (take s text) ≡ begins_number text = λ j. is_digit (a j) || (a j == 126 && is_digit (b j)) in
    same ∙ e

begins_one : (text : List ℕ) (s : ℕ) → 1 ≤ s → is_digit (byte text 0) ≡ true → begins_number (take s text) ≡ true
begins_one text s h e = or_left (is_digit (byte (take s text) 0)) (begins_negative (take s text)) (ap is_digit (byte_cut text s 0 (omega arith)) ∙ e)

first_digit : (text : List ℕ) → begins_number text ≡ true → begins_negative text ≡ false → is_digit (byte text 0) ≡ true
first_digit text e f =
    elim (or_cases (is_digit (byte text 0)) (begins_negative text) e) as (λ _. is_digit (byte text 0) ≡ true) [ inl d ↦ d | inr n ↦ absurd (both_ways (begins_negative text) f n) ]

pub record NumberCuts (lexeme : Lexeme) (text rest : List ℕ) : Type 0 where
  pub cuts : Cuts number_item (found lexeme) text rest
  pub begins : (s : ℕ) → cuts.len ≤ s → begins_number (take s text) ≡ true

pub number_cut : (text : List ℕ) (lexeme : Lexeme) (rest : List ℕ) → begins_number text ≡ true → number_item text ≡ found lexeme rest → NumberCuts lexeme text rest
number_cut text lexeme rest number e =
    elim (cases_Bool (begins_hex_word text)) as (λ _. NumberCuts lexeme text rest) [
      | inl is ↦
          let fourth : is_hex_digit (byte text 3) ≡ true = (and_parts (byte text 0 == 48 && byte text 1 == 119 && byte text 2 == 120) (is_hex_digit (byte text 3)) is).1 in
          let some = run_some HexDigit (drop 3 text) refl (ap is_hex_digit (byte_drop text 3 0) ∙ fourth) in
          let i = word_run_cut 16 HexDigit (drop 3 text) lexeme rest some (sym (hex_word_case text is) ∙ e) in
          let more = i.some in
          record {
            cuts = shift 3 (word_run 16 HexDigit) number_item (found lexeme) text rest i (λ s h. hex_word_case (take s text) (four_same text s (omega (arith, more)) ∙ is));
            begins = λ s h. begins_two text s (omega (arith, more)) number;
          }
      | inr no_hex ↦ elim (cases_Bool (begins_word text)) as (λ _. NumberCuts lexeme text rest) [
        | inl is ↦
            let third : is_digit (byte text 2) ≡ true = (and_parts (byte text 0 == 48 && byte text 1 == 119) (is_digit (byte text 2)) is).1 in
            let some = run_some Digit (drop 2 text) refl (ap is_digit (byte_drop text 2 0) ∙ third) in
            let i = word_run_cut 10 Digit (drop 2 text) lexeme rest some (sym (word_case text no_hex is) ∙ e) in
            let more = i.some in
            record {
              cuts = shift 2 (word_run 10 Digit) number_item (found lexeme) text rest i (λ s h. word_case (take s text) (false_from _ _ (hex_word_implies text s) no_hex) (word_three_same text s (omega (arith, more)) ∙ is));
              begins = λ s h. begins_two text s (omega (arith, more)) number;
            }
        | inr no_word ↦ elim (cases_Bool (begins_negative text)) as (λ _. NumberCuts lexeme text rest) [
          | inl is ↦
              let second : is_digit (byte text 1) ≡ true = (and_parts (byte text 0 == 126) (is_digit (byte text 1)) is).1 in
              let i = unsigned_cut true (drop 1 text) lexeme rest (ap is_digit (byte_drop text 1 0) ∙ second) (sym (negative_case text no_hex no_word is) ∙ e) in
              let more = i.some in
              record {
                cuts = shift 1 (unsigned_item true) number_item (found lexeme) text rest i (λ s h. negative_case (take s text) (false_from _ _ (hex_word_implies text s) no_hex) (false_from _ _ (word_implies text s) no_word) (two_same text s (omega (arith, more)) ∙ is));
                begins = λ s h. begins_two text s (omega (arith, more)) number;
              }
          | inr no_minus ↦
              let digit : is_digit (byte text 0) ≡ true = first_digit text number no_minus in
              let i = unsigned_cut false text lexeme rest digit (sym (positive_case text no_hex no_word no_minus) ∙ e) in
              let more = i.some in
              record {
                cuts = as_other (unsigned_item false) number_item (found lexeme) text rest i (λ s h. positive_case (take s text) (false_from _ _ (hex_word_implies text s) no_hex) (false_from _ _ (word_implies text s) no_word) (false_from _ _ (negative_implies text s) no_minus));
                begins = λ s h. begins_one text s (omega (arith, more)) digit;
              }
        ]
      ]
    ]
