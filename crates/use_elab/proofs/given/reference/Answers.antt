use Rattle.elab_context.proofs.Reading.{context_later}
use Rattle.elab_context.proofs.of_elab_steps.Growing.{grows_on, type_later}
use Rattle.use_elab.proofs.Uses.{reference_is}
use Rattle.use_elab.proofs.given.reference.Goals as goal

pub functions-requires-clause-from : goal.functions-requires-clause-from
functions-requires-clause-from c = type_later c.marked_type.new.state c.cells.new.state c.in_ok-content.content c.in_ok-cell.ensures.grows c.in_ok-content.ensures.is

pub atom-requires-clause-context : goal.atom-requires-clause-context
atom-requires-clause-context c =
    context_later c.args.state.now c.write.new.state c.args.context.now
    (grows_on c.args.state.now c.functions.new.state c.write.new.state
    (grows_on c.args.state.now c.cells.new.state c.functions.new.state (grows_on c.args.state.now c.marked_type.new.state c.cells.new.state c.in_ok-content.ensures.grows c.in_ok-cell.ensures.grows)
    c.in_ok-ty.ensures.grows) c.in_ok-written.ensures.grows) c.requires.context

pub atom-requires-clause-ty : goal.atom-requires-clause-ty
atom-requires-clause-ty c = type_later c.functions.new.state c.write.new.state c.in_ok-ty.ty c.in_ok-written.ensures.grows c.in_ok-ty.ensures.is

pub returns : goal.returns
returns c place x e =
    reference_is c.args.state.now c.marked_type.new.state c.cells.new.state c.functions.new.state c.write.new.state c.atom.new.state c.args.context.now place x c.args.scheme
    c.in_ok-content.content c.in_ok-cell.cell c.in_ok-ty.ty c.in_ok-written.written c.limit.result c.in_ok-made.made c.requires.context e c.limit.ensures
    c.in_ok-content.ensures.grows c.in_ok-content.ensures.fresh c.in_ok-cell.ensures.grows c.in_ok-cell.ensures.has c.in_ok-ty.ensures.grows c.in_ok-ty.ensures.is c.in_ok-ty.ensures.has
    c.in_ok-written.ensures.grows c.in_ok-written.ensures.is c.in_ok-made.ensures.grows c.in_ok-made.ensures.ty c.in_ok-made.ensures.tree
