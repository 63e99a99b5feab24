use Rattle.std.proofs.Common.{◌≡◌, ◌++◌, length, sym, ap, ◌∙◌, subst, OnOk}
use Rattle.first_tables.specs.TablesOf.{constant_of}
use Rattle.emit_rows.specs.of_machine_code.Code.{constant_word, is_code, word_test_code}
use Rattle.emit_code.specs.PlacesOf.{places_of}
use Rattle.emit_code.proofs.plain.emit_is.Goals as goal

pub returns-in-Int : goal.returns-in-Int
returns-in-Int c d y hs hx =
    let at = places_of c.args.tables.now c.args.at.now in
    let pc = length c.args.code.now.items in
    let new = c.emit_word_test.new.code.items in
    let was = c.args.code.now.items in
    let wanted = c.constant-wanted.ensures ∙ ap (λ k. constant_word at (constant_of k)) c.in-Int.is in
    subst (λ k. OnOk c.emit_word_test.result (new ≡ was ++ is_code at pc d (constant_of k) y c.args.other)) (sym c.in-Int.is)
    (subst (λ w. OnOk c.emit_word_test.result (new ≡ was ++ word_test_code at pc d w y c.args.other)) wanted (c.emit_word_test.ensures at d y hs hx))

pub returns-in-Word : goal.returns-in-Word
returns-in-Word c d y hs hx =
    let at = places_of c.args.tables.now c.args.at.now in
    let pc = length c.args.code.now.items in
    let new = c.emit_word_test-in-Word.new.code.items in
    let was = c.args.code.now.items in
    let wanted = c.constant-wanted.ensures ∙ ap (λ k. constant_word at (constant_of k)) c.in-Word.is in
    subst (λ k. OnOk c.emit_word_test-in-Word.result (new ≡ was ++ is_code at pc d (constant_of k) y c.args.other)) (sym c.in-Word.is)
    (subst (λ w. OnOk c.emit_word_test-in-Word.result (new ≡ was ++ word_test_code at pc d w y c.args.other)) wanted (c.emit_word_test-in-Word.ensures at d y hs hx))

pub returns-in-Char : goal.returns-in-Char
returns-in-Char c d y hs hx =
    let at = places_of c.args.tables.now c.args.at.now in
    let pc = length c.args.code.now.items in
    let new = c.emit_word_test-in-Char.new.code.items in
    let was = c.args.code.now.items in
    let wanted = c.constant-wanted.ensures ∙ ap (λ k. constant_word at (constant_of k)) c.in-Char.is in
    subst (λ k. OnOk c.emit_word_test-in-Char.result (new ≡ was ++ is_code at pc d (constant_of k) y c.args.other)) (sym c.in-Char.is)
    (subst (λ w. OnOk c.emit_word_test-in-Char.result (new ≡ was ++ word_test_code at pc d w y c.args.other)) wanted (c.emit_word_test-in-Char.ensures at d y hs hx))

pub returns-in-Truth : goal.returns-in-Truth
returns-in-Truth c d y hs hx =
    let at = places_of c.args.tables.now c.args.at.now in
    let pc = length c.args.code.now.items in
    let new = c.emit_word_test-in-Truth.new.code.items in
    let was = c.args.code.now.items in
    let wanted = c.constant-wanted.ensures ∙ ap (λ k. constant_word at (constant_of k)) c.in-Truth.is in
    subst (λ k. OnOk c.emit_word_test-in-Truth.result (new ≡ was ++ is_code at pc d (constant_of k) y c.args.other)) (sym c.in-Truth.is)
    (subst (λ w. OnOk c.emit_word_test-in-Truth.result (new ≡ was ++ word_test_code at pc d w y c.args.other)) wanted (c.emit_word_test-in-Truth.ensures at d y hs hx))
