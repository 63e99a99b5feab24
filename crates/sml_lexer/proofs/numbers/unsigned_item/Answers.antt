use Rattle.std.proofs.Common.{◌≡◌, true, false, drop, sym, ap, ◌∙◌}
use Rattle.std.proofs.lemmas.List.{drop-drop}
use Rattle.sml_lexer.specs.Numbers.{begins_hex}
use Rattle.sml_lexer.proofs.numbers.unsigned_item.Goals as goal

pub returns-then-begins_hex : goal.returns-then-begins_hex
returns-then-begins_hex c names =
    let from = c.args.from in
    let text = c.args.text.now in
    let is_hex : begins_hex (drop from text) ≡ true = ap begins_hex (sym c.rest.ensures) ∙ sym c.begins_hex.ensures ∙ c.if-begins_hex.true in
    rw (is_hex, drop-drop 2 from text) (c.hex_item.ensures names)

pub returns-else-begins_hex : goal.returns-else-begins_hex
returns-else-begins_hex c names =
    let is_decimal : begins_hex (drop c.args.from c.args.text.now) ≡ false = ap begins_hex (sym c.rest.ensures) ∙ sym c.begins_hex.ensures ∙ c.if-begins_hex.false in
    rw is_decimal (c.decimal_item.ensures names)
