use Rattle.std.proofs.Common.{◌≡◌, ◌∷◌, [], ◌∙◌, true, codes, sym, ap, arith, rules}
use Rattle.std.specs.List.{list_all}
use Rattle.mlc_program.specs.Command.{is_no_option}
use Rattle.mlc_program.specs.CommandOf.{words_of}
use Rattle.mlc_program.proofs.CommandWords.{six_words, not_numbers}
use Rattle.mlc_program.proofs.command.read_command.Goals as goal

pub returns-in-None-clause-is_none : goal.returns-in-None-clause-is_none
returns-in-None-clause-is_none c =
    let six = six_words c.args.words.now c.index-words-0.result c.index-words-1.result c.index-words-2.result c.index-words-3.result c.index-words-4.result c.index-words-5.result (omega arith) c.index-words-0.is c.index-words-1.is c.index-words-2.is c.index-words-3.is c.index-words-4.is c.index-words-5.is in
    let e1 = c.as_str.ensures.value in let e2 = c.as_str-2.ensures.value in let e3 = c.as_str-3.ensures.value in let e4 = c.as_str-4.ensures.value in let e5 = c.as_str-5.ensures.value in let e6 = c.as_str-6.ensures.value in
    let words : words_of c.args.words.now ≡ c.as_str.result.now ∷ c.as_str-2.result.now ∷ c.as_str-3.result.now ∷ c.as_str-4.result.now ∷ c.as_str-5.result.now ∷ c.as_str-6.result.now ∷ [] = rw (e1, e2, e3, e4, e5, e6) (ap words_of six) in
    not_numbers (words_of c.args.words.now) c.as_str.result.now c.as_str-2.result.now c.as_str-3.result.now c.as_str-4.result.now c.as_str-5.result.now c.as_str-6.result.now words c.in-None.ensures.is_none

pub returns-in-Some-clause-is : goal.returns-in-Some-clause-is
returns-in-Some-clause-is c =
    let six = six_words c.args.words.now c.index-words-0.result c.index-words-1.result c.index-words-2.result c.index-words-3.result c.index-words-4.result c.index-words-5.result (omega arith) c.index-words-0.is c.index-words-1.is c.index-words-2.is c.index-words-3.is c.index-words-4.is c.index-words-5.is in
    let e1 = c.as_str.ensures.value in let e2 = c.as_str-2.ensures.value in let e3 = c.as_str-3.ensures.value in let e4 = c.as_str-4.ensures.value in let e5 = c.as_str-5.ensures.value in let e6 = c.as_str-6.ensures.value in
    let words : words_of c.args.words.now ≡ c.as_str.result.now ∷ c.as_str-2.result.now ∷ c.as_str-3.result.now ∷ c.as_str-4.result.now ∷ c.as_str-5.result.now ∷ c.as_str-6.result.now ∷ [] = rw (e1, e2, e3, e4, e5, e6) (ap words_of six) in
    let exec : c.as_str.result.now ≡ codes "exec" = search rules in
    let options : list_all is_no_option (words_of c.args.words.now) ≡ true = sym c.have_no_options.ensures ∙ c.if-not-have_no_options.false in
    record {
      input = c.as_str-2.result.now;
      output = c.as_str-3.result.now;
      heap_word = c.as_str-4.result.now;
      stack_word = c.as_str-5.result.now;
      steps_word = c.as_str-6.result.now;
      words_are = words ∙ ap (λ w. w ∷ c.as_str-2.result.now ∷ c.as_str-3.result.now ∷ c.as_str-4.result.now ∷ c.as_str-5.result.now ∷ c.as_str-6.result.now ∷ []) exec;
      no_options = options;
      numbers = c.in-Some.ensures.is;
    }
