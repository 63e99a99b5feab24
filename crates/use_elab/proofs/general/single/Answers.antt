use Rattle.use_elab.proofs.Uses.{single_is}
use Rattle.use_elab.proofs.general.single.Goals as goal

pub returns : goal.returns
returns c place x e =
    single_is c.args.state.now c.used_at.new.state c.args.context.now place x c.args.ty c.args.number _ c.in_ok-made.made e c.requires.ty c.in_ok-made.ensures.grows c.in_ok-made.ensures.ty
    c.new.ensures.items c.in_ok-made.ensures.tree
