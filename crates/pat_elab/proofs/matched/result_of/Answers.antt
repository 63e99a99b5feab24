use Rattle.elab_context.proofs.of_elab_steps.Growing.{grows_on, type_later}
use Rattle.pat_elab.proofs.Matching.{result_is}
use Rattle.pat_elab.proofs.matched.result_of.Goals as goal

pub apply-requires : goal.apply-requires
apply-requires c = (
  type_later c.args.state.now c.fresh_type.new.state c.args.argument (grows_on c.args.state.now c.instance_at.new.state c.fresh_type.new.state c.in_ok-constructor.ensures.grows c.in_ok-ty.ensures.grows) c.requires.argument,
  (c.in_ok-ty.ensures.is, tt),
)

pub unify-requires-clause-a : goal.unify-requires-clause-a
unify-requires-clause-a c =
    type_later c.instance_at.new.state c.apply.new.state c.in_ok-constructor.constructor (grows_on c.instance_at.new.state c.fresh_type.new.state c.apply.new.state c.in_ok-ty.ensures.grows c.in_ok-function.ensures.grows) c.in_ok-constructor.ensures.is

pub returns-clause-grows : goal.returns-clause-grows
returns-clause-grows c =
    grows_on c.args.state.now c.instance_at.new.state c.unify.new.state c.in_ok-constructor.ensures.grows
    (grows_on c.instance_at.new.state c.fresh_type.new.state c.unify.new.state c.in_ok-ty.ensures.grows
    (grows_on c.fresh_type.new.state c.apply.new.state c.unify.new.state c.in_ok-function.ensures.grows c.in_ok-unify.ensures.grows))

pub returns-clause-is : goal.returns-clause-is
returns-clause-is c =
    type_later c.fresh_type.new.state c.unify.new.state c.in_ok-ty.ty (grows_on c.fresh_type.new.state c.apply.new.state c.unify.new.state c.in_ok-function.ensures.grows c.in_ok-unify.ensures.grows) c.in_ok-ty.ensures.is

pub returns-clause-instance : goal.returns-clause-instance
returns-clause-instance c =
    result_is c.instance_at.new.state c.fresh_type.new.state c.apply.new.state c.unify.new.state c.args.context.now c.args.scheme c.in_ok-constructor.constructor c.in_ok-ty.ty c.in_ok-function.function c.args.argument
    c.in_ok-ty.ensures.grows c.in_ok-function.ensures.grows c.in_ok-unify.ensures.grows c.in_ok-constructor.ensures.instance c.in_ok-function.ensures.made c.in_ok-unify.ensures.equal
