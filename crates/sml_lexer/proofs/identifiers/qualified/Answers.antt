use Rattle.std.proofs.Common.{◌≡◌, ◌+◌, ◌≤◌, ◌==◌, ◌<◌, false, get_or, length, drop, take, map, sym, ap, ◌∙◌, arith, rules, length-drop}
use Rattle.std.proofs.lemmas.List.Elements.{All-push, All-same}
use Rattle.sml_lexer.specs.declared.identifiers.Part.TheVariants.{Letters, Symbols, Nothing}
use Rattle.sml_lexer.specs.Identifiers.{next_part}
use Rattle.mlc_names.specs.Names.{with_texts}
use Rattle.sml_lexer.specs.Item.{found, words_of}
use Rattle.sml_lexer.specs.Lexeme.{text_of, words_in}
use Rattle.sml_lexer.proofs.NameLemmas.{all_held_stay, held_stays, keeps_on}
use Rattle.sml_lexer.proofs.IdentifierLemmas.{dot_within, ends, ends_at_dot, reads_letters, reads_symbols}
use Rattle.sml_lexer.proofs.TableLemmas.{table-part, words-named}
use Rattle.sml_lexer.proofs.identifiers.qualified.Goals as goal

pub parts-preserved : goal.parts-preserved
parts-preserved c =
    let text = c.args.text.now in
    let at = c.parts.at in
    let a = c.parts.names in
    let b = c.name_of-in-Letters.new.names in
    let i = c.parts.invariant in
    let len = c.in-Letters.len in
    let name = c.in_ok-name-in-Letters.name in
    let items = c.push.new.self.items in
    let k = c.in_ok-name-in-Letters.ensures.kept in
    let dot : get_or text at 0 ≡ 46 = sym c.byte_at.ensures ∙ c.parts-test.true in
    let part : next_part (drop (at + 1) text) ≡ Letters len = ap next_part (sym c.rest-part.ensures) ∙ sym c.in-Letters.ensures.same in
    let longer = c.in_ok-push-in-Letters.ensures.items in
    let said : text_of b name ≡ take len (drop (at + 1) text) = c.in_ok-name-in-Letters.ensures.text ∙ c.front-in-Letters.ensures ∙ ap (take len) c.rest-part.ensures in
    let fits : len ≤ length c.rest-part.result.now = c.in-Letters.ensures.within in
    let left : length c.rest-part.result.now ≡ length (drop (at + 1) text) = ap length c.rest-part.ensures in
    record {
      kept = keeps_on c.args.names.now a b i.kept k;
      table = table-part c.args.names.now a b c.parts.qualifiers.items items c.parts.name name c.front-in-Letters.result.now k i.all_held i.held longer i.table c.in_ok-name-in-Letters.ensures.table c.in_ok-name-in-Letters.ensures.text;
      same = i.same ∙ reads_letters a b c.parts.qualifiers.items items c.parts.name name text at len k i.all_held i.held longer said dot part;
      held = c.in_ok-name-in-Letters.ensures.held;
      all_held = All-same (λ q. q < length b) items _ longer (All-push (λ q. q < length b) c.parts.qualifiers.items c.parts.name (all_held_stay a b c.parts.qualifiers.items k i.all_held) (held_stays a b c.parts.name k i.held));
      within = omega (arith, fits, left, length-drop (at + 1) text, dot_within text at dot);
      some = omega arith;
    }

pub returns-in-Symbols-clause-item : goal.returns-in-Symbols-clause-item
returns-in-Symbols-clause-item c =
    let text = c.args.text.now in
    let at = c.parts.at in
    let a = c.parts.names in
    let b = c.name_of-in-Symbols.new.names in
    let i = c.parts.invariant in
    let len = c.in-Symbols.len in
    let name = c.in_ok-last-in-Symbols.last in
    let items = c.push-in-Symbols.new.self.items in
    let k = c.in_ok-last-in-Symbols.ensures.kept in
    let dot : get_or text at 0 ≡ 46 = sym c.byte_at.ensures ∙ c.parts-test.true in
    let part : next_part (drop (at + 1) text) ≡ Symbols len = ap next_part (sym c.rest-part.ensures) ∙ sym c.in-Symbols.ensures.same in
    let longer = c.in_ok-push-in-Symbols.ensures.items in
    let said : text_of b name ≡ take len (drop (at + 1) text) = c.in_ok-last-in-Symbols.ensures.text ∙ c.front-in-Symbols.ensures ∙ ap (take len) c.rest-part.ensures in
    let fits : len ≤ length c.rest-part.result.now = c.in-Symbols.ensures.within in
    let left : length c.rest-part.result.now ≡ length (drop (at + 1) text) = ap length c.rest-part.ensures in
    record {
      same = reads_symbols a b c.parts.qualifiers.items items c.parts.name name text at len k i.all_held i.held longer said dot part ∙ sym i.same;
      fits = (omega arith, omega (arith, fits, left, length-drop (at + 1) text, dot_within text at dot), (All-same (λ q. q < length b) items _ longer (All-push (λ q. q < length b) c.parts.qualifiers.items c.parts.name (all_held_stay a b c.parts.qualifiers.items k i.all_held) (held_stays a b c.parts.name k i.held)), c.in_ok-last-in-Symbols.ensures.held));
    }

pub returns-in-Nothing-clause-item : goal.returns-in-Nothing-clause-item
returns-in-Nothing-clause-item c =
    let text = c.args.text.now in
    let at = c.parts.at in
    let a = c.parts.names in
    let i = c.parts.invariant in
    let dot : get_or text at 0 ≡ 46 = sym c.byte_at.ensures ∙ c.parts-test.true in
    let part : next_part (drop (at + 1) text) ≡ Nothing = ap next_part (sym c.rest-part.ensures) ∙ sym c.in-Nothing.ensures.same in
    record {
      same = ap (λ l. found l (drop at text)) (c.named.ensures.same a) ∙ sym (ends_at_dot (map (text_of a) c.parts.qualifiers.items) (text_of a c.parts.name) text at (dot_within text at dot) part) ∙ sym i.same;
      fits = (i.some, i.within, c.named.ensures.held a i.all_held i.held);
    }

pub returns-clause-item : goal.returns-clause-item
returns-clause-item c =
    let text = c.args.text.now in
    let at = c.parts.at in
    let a = c.parts.names in
    let i = c.parts.invariant in
    let no_dot : (get_or text at 0 == 46) ≡ false = ap (λ b. b == 46) (sym c.byte_at.ensures) ∙ search (rules, c.parts-test.false) in
    record {
      same = ap (λ l. found l (drop at text)) (c.named-2.ensures.same a) ∙ sym (ends (map (text_of a) c.parts.qualifiers.items) (text_of a c.parts.name) text at no_dot) ∙ sym i.same;
      fits = (i.some, i.within, c.named-2.ensures.held a i.all_held i.held);
    }

pub returns-in-Symbols-clause-table : goal.returns-in-Symbols-clause-table
returns-in-Symbols-clause-table c =
    let start = c.args.names.now in
    let a = c.parts.names in
    let b = c.name_of-in-Symbols.new.names in
    let i = c.parts.invariant in
    let last = c.in_ok-last-in-Symbols in
    table-part start a b c.parts.qualifiers.items c.push-in-Symbols.new.self.items c.parts.name last.last c.front-in-Symbols.result.now last.ensures.kept i.all_held i.held c.in_ok-push-in-Symbols.ensures.items i.table last.ensures.table last.ensures.text
    ∙ ap (λ item. with_texts start (words_of item)) (returns-in-Symbols-clause-item c).same

pub returns-in-Nothing-clause-table : goal.returns-in-Nothing-clause-table
returns-in-Nothing-clause-table c =
    let start = c.args.names.now in
    let a = c.parts.names in
    let i = c.parts.invariant in
    i.table ∙ ap (with_texts start) (sym (words-named (map (text_of a) c.parts.qualifiers.items) (text_of a c.parts.name)) ∙ ap words_in (sym (c.named.ensures.same a)))
    ∙ ap (λ item. with_texts start (words_of item)) (returns-in-Nothing-clause-item c).same

pub returns-clause-table : goal.returns-clause-table
returns-clause-table c =
    let start = c.args.names.now in
    let a = c.parts.names in
    let i = c.parts.invariant in
    i.table ∙ ap (with_texts start) (sym (words-named (map (text_of a) c.parts.qualifiers.items) (text_of a c.parts.name)) ∙ ap words_in (sym (c.named-2.ensures.same a)))
    ∙ ap (λ item. with_texts start (words_of item)) (returns-clause-item c).same
