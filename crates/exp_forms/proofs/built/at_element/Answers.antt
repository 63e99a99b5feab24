use Rattle.pat_elab.proofs.of_elab_context.Reading.{context_later}
use Rattle.pat_elab.proofs.of_elab_steps.Growing.{grows_on, type_later}
use Rattle.exp_forms.proofs.Building.{element_tree}
use Rattle.exp_forms.proofs.built.at_element.Goals as goal

pub used_at-requires-clause-context : goal.used_at-requires-clause-context
used_at-requires-clause-context c = context_later c.args.state.now c.write.new.state c.args.context.now c.in_ok-written.ensures.grows c.requires.context

pub used_at-requires-clause-ty : goal.used_at-requires-clause-ty
used_at-requires-clause-ty c = type_later c.args.state.now c.write.new.state c.args.ty c.in_ok-written.ensures.grows c.requires.ty

pub returns-clause-grows : goal.returns-clause-grows
returns-clause-grows c = grows_on c.args.state.now c.write.new.state c.used_at.new.state c.in_ok-written.ensures.grows c.in_ok-made.ensures.grows

pub returns-clause-tree : goal.returns-clause-tree
returns-clause-tree c =
    element_tree c.write.new.state c.used_at.new.state c.args.context.now c.args.built _ c.args.element c.args.ty c.in_ok-written.written _ c.in_ok-made.made c.number_of.ensures c.in_ok-at.ensures c.in_ok-made.ensures.grows
    c.in_ok-written.ensures.is c.in_ok-made.ensures.tree
