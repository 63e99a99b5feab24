use Rattle.std.proofs.Common.{nat_eq, map, ap, ◌∙◌}
use Rattle.indexmap.specs.IndexMap.{get}
use Rattle.ir_tables.specs.Rows.{constructors_at}
use Rattle.monomorphise.specs.Table.{number_in}
use Rattle.mono_enter.specs.of_mono_state.Seen.{held_of, sign_of}
use Rattle.mono_pass.proofs.Made.{types-made, are-numbers}
use Rattle.mono_pass.proofs.make.number_copies.Goals as goal

pub returns-clause-types : goal.returns-clause-types
returns-clause-types c = λ strings e s.
    let H = held_of c.args.copier.now in
    types-made (constructors_at c.args.sources.now c.args.constructors.now) c.in_ok-types.types c.enter_words.new.types (map (sign_of strings H) c.deref.result.now) e c.in_ok-types.ensures c.words_are_wanted.ensures
    (c.in_ok-enter_words.ensures.entered strings H.lists H.copies) (ap (map (sign_of strings H)) c.deref.ensures.value ∙ s)

pub returns-clause-body : goal.returns-clause-body
returns-clause-body c = λ strings e s.
    let H = held_of c.args.copier.now in
    c.in_ok-body.ensures c.enter_words.new.types (number_in c.enter_words.new.types) strings H e
    (are-numbers c.len.result (get nat_eq c.enter_words.new.known) H c.enter_words.new.types c.len.ensures.is (c.names_are_apart.ensures c.if-not-names_are_apart.false) c.in_ok-enter_words.ensures.numbers)
    (ap (map (sign_of strings H)) c.deref-2.ensures.value ∙ s)
