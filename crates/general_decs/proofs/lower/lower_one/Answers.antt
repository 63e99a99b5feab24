use Rattle.elab_steps.proofs.Changing.{if-ok}
use Rattle.elab_steps.proofs.Growing.{grows_on, type_later}
use Rattle.general_decs.proofs.Lowering.{wide-at}
use Rattle.general_decs.proofs.lower.lower_one.Goals as goal

pub fresh_type-requires-clause-wide : goal.fresh_type-requires-clause-wide
fresh_type-requires-clause-wide c = wide-at c.args.state.now c.args.variable c.index.result.now c.requires.held c.index.ensures

pub unify-requires-clause-a : goal.unify-requires-clause-a
unify-requires-clause-a c = type_later c.variable_type.new.state c.fresh_type.new.state c.in_ok-own.own c.in_ok-outer.ensures.grows c.in_ok-own.ensures.is

pub returns-clause-grows : goal.returns-clause-grows
returns-clause-grows c =
    if-ok c.unify.result
    (λ x g.
    grows_on c.args.state.now c.variable_type.new.state c.unify.new.state c.in_ok-own.ensures.grows
    (grows_on c.variable_type.new.state c.fresh_type.new.state c.unify.new.state c.in_ok-outer.ensures.grows g))
    c.unify.ensures.grows
