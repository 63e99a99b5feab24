use Rattle.sml_tree.specs.TreeOf.{ty_of}
use Rattle.exp_forms.proofs.Leaves.{typed_is}
use Rattle.exp_forms.proofs.annotated.with_type.Goals as goal

pub returns : goal.returns
returns c S p e h =
    typed_is S c.args.state.now c.annotate.new.state c.args.context.now p e (ty_of c.args.ty.now) c.args.inner h c.in_ok-annotate.ensures
