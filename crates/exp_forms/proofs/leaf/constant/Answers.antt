use Rattle.sml_tree.specs.TreeOf.{constant_of}
use Rattle.pat_elab.proofs.of_elab_context.Reading.{context_later}
use Rattle.pat_elab.proofs.of_elab_steps.Growing.{grows_on, type_later}
use Rattle.exp_forms.proofs.Leaves.{constant_is}
use Rattle.exp_forms.proofs.leaf.constant.Goals as goal

pub atom-requires-clause-context : goal.atom-requires-clause-context
atom-requires-clause-context c =
    context_later c.args.state.now c.program_constant.new.state c.args.context.now
    (grows_on c.args.state.now c.type_of_constant.new.state c.program_constant.new.state c.in_ok-ty.ensures.grows c.in_ok-literal.ensures.grows) c.requires.context

pub atom-requires-clause-ty : goal.atom-requires-clause-ty
atom-requires-clause-ty c = type_later c.type_of_constant.new.state c.program_constant.new.state c.in_ok-ty.ty c.in_ok-literal.ensures.grows c.in_ok-ty.ensures.is

pub returns : goal.returns
returns c place = constant_is c.args.state.now c.type_of_constant.new.state c.program_constant.new.state c.atom.new.state c.args.context.now place (constant_of c.args.constant.now)
    c.in_ok-literal.literal c.in_ok-ty.ty c.in_ok-made.made c.requires.context c.in_ok-ty.ensures.grows c.in_ok-ty.ensures.is c.in_ok-ty.ensures.has c.in_ok-literal.ensures.grows
    c.in_ok-literal.ensures.is c.in_ok-made.ensures.grows c.in_ok-made.ensures.ty c.in_ok-made.ensures.tree
