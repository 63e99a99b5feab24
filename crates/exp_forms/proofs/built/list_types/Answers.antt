use Rattle.pat_elab.proofs.of_elab_steps.Growing.{type_later}
use Rattle.exp_forms.proofs.Building.{list_types_are}
use Rattle.exp_forms.proofs.built.list_types.Goals as goal

pub pairs-requires-clause-left : goal.pairs-requires-clause-left
pairs-requires-clause-left c = type_later c.fresh_type.new.state c.lists.new.state c.in_ok-element.element c.in_ok-list.ensures.grows c.in_ok-element.ensures.is

pub functions-requires-clause-to : goal.functions-requires-clause-to
functions-requires-clause-to c = type_later c.lists.new.state c.pairs.new.state c.in_ok-list.list c.in_ok-pair.ensures.grows c.in_ok-list.ensures.is

pub returns : goal.returns
returns c =
    list_types_are c.args.state.now c.fresh_type.new.state c.lists.new.state c.pairs.new.state c.functions.new.state c.args.context.now c.limit.result _ c.limit.ensures c.in_ok-element.ensures.grows
    c.in_ok-element.ensures.is c.in_ok-element.ensures.within c.in_ok-list.ensures.grows c.in_ok-list.ensures.is c.in_ok-list.ensures.has c.in_ok-pair.ensures.grows c.in_ok-pair.ensures.is
    c.in_ok-pair.ensures.has c.in_ok-function.ensures.grows c.in_ok-function.ensures.is c.in_ok-function.ensures.has
