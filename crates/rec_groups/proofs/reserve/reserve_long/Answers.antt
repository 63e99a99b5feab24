use Rattle.std.proofs.Common.{subst, arith}
use Rattle.elab_steps.proofs.Changing.{if-ok}
use Rattle.sml_tree.specs.TreeOf.{long_vid_of}
use Rattle.rec_groups.specs.Heads.{IsTaken}
use Rattle.rec_groups.proofs.Reserving.{empty-list, vid_reserved}
use Rattle.rec_groups.proofs.reserve.reserve_long.Goals as goal

pub returns : goal.returns
returns c =
    let S = c.args.state.now in
    let T = c.reserve_variable.new.state in
    let after = c.reserve_variable.new.variables.items in
    if-ok c.reserve_variable.result
    (λ u k.
    vid_reserved S T c.args.place (long_vid_of c.args.long.now) c.args.ty after (empty-list c.args.long.now.qualifiers.items (let e = c.len.ensures in omega (arith, e, c.if-len-gt0.false)))
    (subst (λ l. IsTaken S c.args.long.now.vid c.args.ty l after T) c.requires.none k)) c.reserve_variable.ensures
