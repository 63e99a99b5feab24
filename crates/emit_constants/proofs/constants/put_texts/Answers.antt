use Rattle.std.proofs.Common.{◌≡◌, ◌+◌, [], ◌∷◌, ◌++◌, length, map, drop, ap, ◌∙◌, subst, arith, get_or}
use Rattle.std.proofs.lemmas.List.{drop_more, drop_all}
use Rattle.first_tables.specs.TablesOf.{items_of}
use Rattle.machine_code.specs.Image.{text_word, place_of}
use Rattle.emit_constants.proofs.Texts.{TextsSoFar, texts-next, texts-done}
use Rattle.emit_constants.proofs.constants.put_texts.Goals as goal

pub loop-i-preserved : goal.loop-i-preserved
loop-i-preserved c =
    let all = c.args.texts.now in
    let texts = map items_of all in
    let old = c.args.words.now.items in
    let i = c.loop-i.i in
    let this = c.index-texts-i.result in
    let bytes = items_of (get_or all i this) in
    let same = c.deref.ensures.value ∙ ap items_of c.index-texts-i.is in
    let so-far : TextsSoFar texts old (bytes ∷ map items_of (drop (i + 1) all)) c.loop-i.words.items c.loop-i.places.items =
    subst (λ l. TextsSoFar texts old l c.loop-i.words.items c.loop-i.places.items) (ap (map items_of) (drop_more all i this c.loop-i-test.true)) c.loop-i.invariant in
    texts-next texts old bytes (map items_of (drop (i + 1) all)) c.loop-i.words.items c.put_text.new.words.items c.loop-i.places.items c.push.new.self.items
    c.in_ok-put_text.field-0 so-far (c.in_ok-put_text.ensures.words ∙ ap (λ t. c.loop-i.words.items ++ text_word t) same)
    (c.in_ok-put_text.ensures.place ∙ ap (place_of (length c.loop-i.words.items)) same) c.in_ok-push.ensures.items

pub returns-clause-places : goal.returns-clause-places
returns-clause-places c =
    let all = c.args.texts.now in
    let texts = map items_of all in
    let old = c.args.words.now.items in
    texts-done texts old c.loop-i.words.items c.loop-i.places.items
    (subst (λ l. TextsSoFar texts old l c.loop-i.words.items c.loop-i.places.items) (ap (map items_of) (drop_all c.loop-i.i all (omega arith))) c.loop-i.invariant)
