use Rattle.std.proofs.Common.{◌≡◌, true, false, sym, ◌∙◌}
use Rattle.sml_lexer.specs.Numbers.{begins_hex_word, begins_negative, begins_word}
use Rattle.sml_lexer.proofs.numbers.number_item.Goals as goal

pub returns-then-begins_hex_word : goal.returns-then-begins_hex_word
returns-then-begins_hex_word c names =
    let is : begins_hex_word c.args.text.now ≡ true = sym c.begins_hex_word.ensures ∙ c.if-begins_hex_word.true in
    rw is (c.word_at.ensures names)

pub returns-then-begins_word : goal.returns-then-begins_word
returns-then-begins_word c names =
    let not_hex_word : begins_hex_word c.args.text.now ≡ false = sym c.begins_hex_word.ensures ∙ c.if-begins_hex_word.false in
    let is : begins_word c.args.text.now ≡ true = sym c.begins_word.ensures ∙ c.if-begins_word.true in
    rw (not_hex_word, is) (c.word_at-then-begins_word.ensures names)

pub returns-then-begins_negative : goal.returns-then-begins_negative
returns-then-begins_negative c names =
    let not_hex_word : begins_hex_word c.args.text.now ≡ false = sym c.begins_hex_word.ensures ∙ c.if-begins_hex_word.false in
    let not_word : begins_word c.args.text.now ≡ false = sym c.begins_word.ensures ∙ c.if-begins_word.false in
    let is : begins_negative c.args.text.now ≡ true = sym c.begins_negative.ensures ∙ c.if-begins_negative.true in
    rw (not_hex_word, not_word, is) (c.unsigned_item.ensures names)

pub returns-else-begins_negative : goal.returns-else-begins_negative
returns-else-begins_negative c names =
    let not_hex_word : begins_hex_word c.args.text.now ≡ false = sym c.begins_hex_word.ensures ∙ c.if-begins_hex_word.false in
    let not_word : begins_word c.args.text.now ≡ false = sym c.begins_word.ensures ∙ c.if-begins_word.false in
    let not_negative : begins_negative c.args.text.now ≡ false = sym c.begins_negative.ensures ∙ c.if-begins_negative.false in
    rw (not_hex_word, not_word, not_negative) (c.unsigned_item-else-begins_negative.ensures names)
