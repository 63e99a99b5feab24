use Rattle.std.proofs.Common.{[], sym, ◌∙◌}
use Rattle.std.proofs.lemmas.Option.{get_or_from_slice_get}
use Rattle.emit_known.proofs.Writing.{given}
use Rattle.emit_known.proofs.texts.give.Goals as goal

pub returns : goal.returns
returns c =
    given c.args.names.now c.reach.new.texts.items c.args.texts.now.items c.number-number.result c.args.name c.in_ok-text.text c.number-number.ensures c.in_ok-reach.ensures.room
    (c.in_ok-text.ensures.items ∙ sym (get_or_from_slice_get c.args.names.now c.args.name c.text.result.now [] c.text.ensures)) c.in_ok-reach.ensures.same
