use Rattle.std.proofs.Common.{◌+◌, drop, ap, ◌∙◌}
use Rattle.mono_enter.specs.Walked.{turn_of}
use Rattle.mono_enter.proofs.Keeping.{if-ok}
use Rattle.mono_enter.proofs.Walking.{moved-on, word-at}
use Rattle.mono_enter.proofs.steps.move_on.Goals as goal

pub returns : goal.returns
returns c =
    if-ok _ _ c.take_turn.result
    (λ u h w s. moved-on c.turn_of.result w (drop (c.args.at + 1) c.args.words.now) c.args.stand.now c.take_turn.new.stand
    (c.turn_of.ensures ∙ ap turn_of (word-at c.args.words.now c.args.at _ c.index-words-at.result w c.requires c.index-words-at.is s)) h)
    c.take_turn.ensures
