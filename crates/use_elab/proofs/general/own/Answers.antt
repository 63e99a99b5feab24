use Rattle.use_elab.proofs.Uses.{own_is}
use Rattle.use_elab.proofs.general.own.Goals as goal

pub returns : goal.returns
returns c place x e =
    own_is c.args.state.now c.atom.new.state c.args.context.now place x c.args.ty c.args.number c.in_ok-made.made e c.requires.ty c.in_ok-made.ensures.grows c.in_ok-made.ensures.ty
    c.in_ok-made.ensures.tree
