use Rattle.std.proofs.Common.{refl}
use Rattle.sml_tree.specs.TreeOf.{some_ty_of}
use Rattle.elab_context.proofs.of_elab_steps.Growing.{grows_same}
use Rattle.pat_elab.proofs.Forms.{as_is}
use Rattle.pat_elab.proofs.form.with_name.Goals as goal

pub returns : goal.returns
returns c S M vid a before mid after b h =
    as_is S M c.args.state.now c.name.new.state c.name.new.state c.args.context.now c.args.place vid (some_ty_of c.args.ty.now) a before mid after c.args.variable c.args.inner _ c.in_ok-pat.pat b h
    c.in_ok-name.ensures.annotated (grows_same c.name.new.state) c.in_ok-name.ensures.same refl refl refl c.in_ok-pat.ensures
