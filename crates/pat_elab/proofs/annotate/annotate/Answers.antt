use Rattle.sml_tree.specs.TreeOf.{ty_of}
use Rattle.elab_context.proofs.of_elab_steps.Growing.{type_later}
use Rattle.pat_elab.proofs.Annotated.{annotated_is}
use Rattle.pat_elab.proofs.annotate.annotate.Goals as goal

pub unify-requires-clause-a : goal.unify-requires-clause-a
unify-requires-clause-a c = type_later c.args.state.now c.annotated.new.state c.args.number c.in_ok-written.ensures.grows c.requires.number

pub returns : goal.returns
returns c =
    annotated_is c.args.state.now c.annotated.new.state c.unify.new.state c.args.context.now (ty_of c.args.ty.now) c.args.number c.in_ok-written.written c.requires.context
    c.in_ok-written.ensures.grows c.in_ok-written.ensures.next c.in_ok-written.ensures.written c.in_ok-unify.ensures.grows c.in_ok-unify.ensures.equal c.in_ok-unify.ensures.next
