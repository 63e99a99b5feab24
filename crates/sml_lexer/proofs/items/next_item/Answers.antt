use Rattle.std.proofs.Common.{◌≡◌, ◌==◌, [], true, false, IfOk, sym, ap, ◌∙◌, subst, rules, eq-eqb}
use Rattle.std.proofs.lemmas.Result.{IfOk-weaker}
use Rattle.mlc_names.specs.Names.{with_texts}
use Rattle.sml_lexer.specs.Chars.{byte, is_letter, is_space, is_symbol_char}
use Rattle.sml_lexer.specs.Item.{words_of}
use Rattle.sml_lexer.specs.ItemOf.{IsItem}
use Rattle.sml_lexer.specs.Items.{item_at}
use Rattle.sml_lexer.proofs.ItemLemmas.{is_char, is_comment, is_mark, is_number, is_string}
use Rattle.sml_lexer.proofs.NameLemmas.{keeps_same}
use Rattle.sml_lexer.proofs.TableLemmas.{table-same}
use Rattle.sml_lexer.proofs.items.next_item.Goals as goal

pub returns-then-begins_number : goal.returns-then-begins_number
returns-then-begins_number c =
    let names = c.args.names.now in
    let text = c.args.text.now in
    let no_space : is_space (byte text 0) ≡ false = ap is_space (sym c.byte_at-first.ensures) ∙ sym c.is_space.ensures ∙ c.if-is_space.false in
    let no_letter : is_letter (byte text 0) ≡ false = ap is_letter (sym c.byte_at-first.ensures) ∙ sym c.is_letter.ensures ∙ c.if-is_letter.false in
    let is = is_number text no_space no_letter (sym c.begins_number.ensures ∙ c.if-begins_number.true) in
    record { kept = keeps_same names; item = subst (IsItem names text c.number_item.result) (sym is) (c.number_item.ensures names); table = table-same names text c.number_item.result _ (item_at text) (c.number_item.ensures []) is }

pub returns-then-first-eq34 : goal.returns-then-first-eq34
returns-then-first-eq34 c =
    let names = c.args.names.now in
    let text = c.args.text.now in
    let first = c.byte_at-first.ensures in
    let no_space : is_space (byte text 0) ≡ false = ap is_space (sym first) ∙ sym c.is_space.ensures ∙ c.if-is_space.false in
    let no_letter : is_letter (byte text 0) ≡ false = ap is_letter (sym first) ∙ sym c.is_letter.ensures ∙ c.if-is_letter.false in
    let no_number = sym c.begins_number.ensures ∙ c.if-begins_number.false in
    let no_prime : (byte text 0 == 39) ≡ false = ap (λ b. b == 39) (sym first) ∙ search (rules, c.if-first-eq39.false) in
    let is_quote : (byte text 0 == 34) ≡ true = eq-eqb _ _ (sym first ∙ c.if-first-eq34.true) in
    let is = is_string text no_space no_letter no_number no_prime is_quote in
    record { kept = keeps_same names; item = subst (λ i. IfOk c.string_item.result (λ item. IsItem names text item i)) (sym is) (c.string_item.ensures names); table = IfOk-weaker c.string_item.result _ (λ _. names ≡ with_texts names (words_of (item_at text))) (λ item h. table-same names text item _ (item_at text) h is) (c.string_item.ensures []) }

pub returns-then-begins_char : goal.returns-then-begins_char
returns-then-begins_char c =
    let names = c.args.names.now in
    let text = c.args.text.now in
    let first = c.byte_at-first.ensures in
    let no_space : is_space (byte text 0) ≡ false = ap is_space (sym first) ∙ sym c.is_space.ensures ∙ c.if-is_space.false in
    let no_letter : is_letter (byte text 0) ≡ false = ap is_letter (sym first) ∙ sym c.is_letter.ensures ∙ c.if-is_letter.false in
    let no_number = sym c.begins_number.ensures ∙ c.if-begins_number.false in
    let no_prime : (byte text 0 == 39) ≡ false = ap (λ b. b == 39) (sym first) ∙ search (rules, c.if-first-eq39.false) in
    let no_quote : (byte text 0 == 34) ≡ false = ap (λ b. b == 34) (sym first) ∙ search (rules, c.if-first-eq34.false) in
    let is = is_char text no_space no_letter no_number no_prime no_quote (sym c.begins_char.ensures ∙ c.if-begins_char.true) in
    record { kept = keeps_same names; item = subst (λ i. IfOk c.char_item.result (λ item. IsItem names text item i)) (sym is) (c.char_item.ensures names); table = IfOk-weaker c.char_item.result _ (λ _. names ≡ with_texts names (words_of (item_at text))) (λ item h. table-same names text item _ (item_at text) h is) (c.char_item.ensures []) }

pub returns-then-begins_comment : goal.returns-then-begins_comment
returns-then-begins_comment c =
    let names = c.args.names.now in
    let text = c.args.text.now in
    let first = c.byte_at-first.ensures in
    let no_space : is_space (byte text 0) ≡ false = ap is_space (sym first) ∙ sym c.is_space.ensures ∙ c.if-is_space.false in
    let no_letter : is_letter (byte text 0) ≡ false = ap is_letter (sym first) ∙ sym c.is_letter.ensures ∙ c.if-is_letter.false in
    let no_number = sym c.begins_number.ensures ∙ c.if-begins_number.false in
    let no_prime : (byte text 0 == 39) ≡ false = ap (λ b. b == 39) (sym first) ∙ search (rules, c.if-first-eq39.false) in
    let no_quote : (byte text 0 == 34) ≡ false = ap (λ b. b == 34) (sym first) ∙ search (rules, c.if-first-eq34.false) in
    let no_char = sym c.begins_char.ensures ∙ c.if-begins_char.false in
    let is = is_comment text no_space no_letter no_number no_prime no_quote no_char (sym c.begins_comment.ensures ∙ c.if-begins_comment.true) in
    record { kept = keeps_same names; item = subst (IsItem names text c.comment_item.result) (sym is) (c.comment_item.ensures names); table = table-same names text c.comment_item.result _ (item_at text) (c.comment_item.ensures []) is }

pub returns-else-is_symbol_char : goal.returns-else-is_symbol_char
returns-else-is_symbol_char c =
    let names = c.args.names.now in
    let text = c.args.text.now in
    let first = c.byte_at-first.ensures in
    let no_space : is_space (byte text 0) ≡ false = ap is_space (sym first) ∙ sym c.is_space.ensures ∙ c.if-is_space.false in
    let no_letter : is_letter (byte text 0) ≡ false = ap is_letter (sym first) ∙ sym c.is_letter.ensures ∙ c.if-is_letter.false in
    let no_number = sym c.begins_number.ensures ∙ c.if-begins_number.false in
    let no_prime : (byte text 0 == 39) ≡ false = ap (λ b. b == 39) (sym first) ∙ search (rules, c.if-first-eq39.false) in
    let no_quote : (byte text 0 == 34) ≡ false = ap (λ b. b == 34) (sym first) ∙ search (rules, c.if-first-eq34.false) in
    let no_char = sym c.begins_char.ensures ∙ c.if-begins_char.false in
    let no_comment = sym c.begins_comment.ensures ∙ c.if-begins_comment.false in
    let no_symbol : is_symbol_char (byte text 0) ≡ false = ap is_symbol_char (sym first) ∙ sym c.is_symbol_char.ensures ∙ c.if-is_symbol_char.false in
    let is = is_mark text no_space no_letter no_number no_prime no_quote no_char no_comment no_symbol in
    record { kept = keeps_same names; item = subst (IsItem names text c.mark_item.result) (sym is) (c.mark_item.ensures names); table = table-same names text c.mark_item.result _ (item_at text) (c.mark_item.ensures []) is }
