use Rattle.sml_tree.specs.TreeOf.{long_vid_of}
use Rattle.sml_tree.specs.BareTree.{con_pat}
use Rattle.pat_elab.proofs.form.constructed.Goals as goal

pub returns : goal.returns
returns c S p a before after h =
    c.in_ok-applied.ensures S c.args.state.now c.before-2.new.state c.args.context.now (con_pat p c.args.place (long_vid_of c.args.long.now)) a before after h (c.in_ok-headed.ensures.is p)
