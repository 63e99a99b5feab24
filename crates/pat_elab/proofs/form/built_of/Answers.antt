use Rattle.sml_tree.specs.BareTree.{built_con_pat}
use Rattle.pat_elab.proofs.form.built_of.Goals as goal

pub returns : goal.returns
returns c S p a before after h =
    c.in_ok-applied.ensures S c.args.state.now c.built_before.new.state c.args.context.now (built_con_pat p c.args.built) a before after h (c.in_ok-headed.ensures.is p)
