use Rattle.pat_elab.proofs.of_elab_context.Reading.{context_later}
use Rattle.exp_forms.proofs.Building.{nil_is}
use Rattle.exp_forms.proofs.built.nil.Goals as goal

pub at_element-requires-clause-context : goal.at_element-requires-clause-context
at_element-requires-clause-context c = context_later c.args.state.now c.list_types.new.state c.args.context.now c.in_ok-types.ensures.grows c.requires

pub returns : goal.returns
returns c p =
    nil_is c.args.state.now c.list_types.new.state c.at_element.new.state c.args.context.now c.in_ok-types.types _ c.requires c.in_ok-types.ensures c.in_ok-made.ensures.grows c.in_ok-made.ensures.ty
    c.in_ok-made.ensures.tree p
