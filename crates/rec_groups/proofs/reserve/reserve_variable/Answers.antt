use Rattle.std.proofs.Common.{sym, ◌∙◌}
use Rattle.rec_groups.proofs.Reserving.{taken_is}
use Rattle.rec_groups.proofs.reserve.reserve_variable.Goals as goal

pub returns : goal.returns
returns c =
    taken_is c.args.state.now c.next_variable.new.state c.args.vid.now c.args.ty c.args.variables.now.items c.push.new.self.items c.in_ok-number.number c.requires.ty c.in_ok-number.ensures.grows
    c.in_ok-number.ensures.is c.in_ok-number.ensures.next c.in_ok-push.ensures.items (sym c.is_kept.ensures ∙ c.if-is_kept.false)
