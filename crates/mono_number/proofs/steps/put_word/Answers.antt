use Rattle.std.proofs.Common.{◌+◌, nat_eq, drop, refl}
use Rattle.indexmap.specs.IndexMap.{get}
use Rattle.mono_read.specs.of_mono_state.declared.word.Word.TheVariants as word
use Rattle.mono_number.proofs.Given.{if-ok}
use Rattle.mono_number.proofs.Heads.{at-place, let-taken}
use Rattle.mono_number.proofs.steps.put_word.Goals as goal

pub returns-in-Let : goal.returns-in-Let
returns-in-Let c =
    if-ok _ _ c.enter.result
    (λ u h w s. at-place c.args.limit (get nat_eq c.args.known.now) c.args.words.now c.args.at c.index-words-at.result c.index-words-at.result (word.Let c.in-Let.variable c.in-Let.ty) w (drop (c.args.at + 1) c.args.words.now) c.args.walk.now c.enter.new.walk c.requires.within c.index-words-at.is c.in-Let.is s (let-taken c.args.limit (get nat_eq c.args.known.now) c.in-Let.variable c.in-Let.ty (drop (c.args.at + 1) c.args.words.now) c.args.walk.now c.enter.new.walk (h (get nat_eq c.args.known.now))))
    c.enter.ensures

pub returns-in-Function : goal.returns-in-Function
returns-in-Function c =
    if-ok _ _ c.put_head.result
    (λ u h w s. at-place c.args.limit (get nat_eq c.args.known.now) c.args.words.now c.args.at c.index-words-at.result c.index-words-at.result (word.Function c.in-Function.variable c.in-Function.ty) w (drop (c.args.at + 1) c.args.words.now) c.args.walk.now c.put_head.new.walk c.requires.within c.index-words-at.is c.in-Function.is s (h (drop (c.args.at + 1) c.args.words.now)))
    c.put_head.ensures

pub returns-in-Group : goal.returns-in-Group
returns-in-Group c =
    if-ok _ _ c.put_group.result
    (λ u h w s. at-place c.args.limit (get nat_eq c.args.known.now) c.args.words.now c.args.at c.index-words-at.result c.index-words-at.result (word.Group) w (drop (c.args.at + 1) c.args.words.now) c.args.walk.now c.put_group.new.walk c.requires.within c.index-words-at.is c.in-Group.is s (h (get nat_eq c.args.known.now)))
    c.put_group.ensures

pub returns-in-End : goal.returns-in-End
returns-in-End c =
    if-ok _ _ c.put_end.result
    (λ u h w s. at-place c.args.limit (get nat_eq c.args.known.now) c.args.words.now c.args.at c.index-words-at.result c.index-words-at.result (word.End) w (drop (c.args.at + 1) c.args.words.now) c.args.walk.now c.put_end.new.walk c.requires.within c.index-words-at.is c.in-End.is s (h (drop (c.args.at + 1) c.args.words.now)))
    c.put_end.ensures

pub returns-in_default : goal.returns-in_default
returns-in_default c =
    if-ok _ _ c.put_plain.result
    (λ u h w s. at-place c.args.limit (get nat_eq c.args.known.now) c.args.words.now c.args.at c.index-words-at.result c.index-words-at.result (c.index-words-at.result) w (drop (c.args.at + 1) c.args.words.now) c.args.walk.now c.put_plain.new.walk c.requires.within c.index-words-at.is refl s (h (drop (c.args.at + 1) c.args.words.now)))
    c.put_plain.ensures
