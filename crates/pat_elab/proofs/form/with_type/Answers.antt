use Rattle.sml_tree.specs.TreeOf.{ty_of}
use Rattle.pat_elab.proofs.Forms.{typed_is}
use Rattle.pat_elab.proofs.form.with_type.Goals as goal

pub returns : goal.returns
returns c S a before after h =
    typed_is S c.args.state.now c.annotate.new.state c.args.context.now c.args.place a (ty_of c.args.ty.now) before after c.args.inner h c.in_ok-annotate.ensures
