use Rattle.sml_tree.specs.TreeOf.{some_ty_of}
use Rattle.elab_context.proofs.of_elab_steps.Growing.{type_later}
use Rattle.pat_elab.proofs.Annotated.{named_is}
use Rattle.pat_elab.proofs.annotate.name.Goals as goal

pub unify-requires-clause-a : goal.unify-requires-clause-a
unify-requires-clause-a c = type_later c.args.state.now c.annotate_if.new.state c.args.number c.in_ok-annotate_if.ensures.grows c.requires.number

pub unify-requires-clause-b : goal.unify-requires-clause-b
unify-requires-clause-b c = type_later c.args.state.now c.annotate_if.new.state c.args.inner c.in_ok-annotate_if.ensures.grows c.requires.inner

pub returns : goal.returns
returns c =
    named_is c.args.state.now c.annotate_if.new.state c.unify.new.state c.args.context.now (some_ty_of c.args.ty.now) c.args.number c.args.inner c.in_ok-annotate_if.ensures
    c.in_ok-unify.ensures.grows c.in_ok-unify.ensures.equal c.in_ok-unify.ensures.next
