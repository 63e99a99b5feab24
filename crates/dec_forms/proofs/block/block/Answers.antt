use Rattle.std.proofs.Common.{refl}
use Rattle.closed_types.proofs.of_elab_steps.Growing.{type_later}
use Rattle.dec_forms.proofs.Letting.{let_is}
use Rattle.dec_forms.proofs.block.block.Goals as goal

pub unify-requires-clause-a : goal.unify-requires-clause-a
unify-requires-clause-a c = type_later c.args.state.now c.fresh_type.new.state c.args.body.ty c.in_ok-ty.ensures.grows c.requires.body

pub returns : goal.returns
returns c S M inner p ds e h i =
    let_is S M c.args.state.now c.fresh_type.new.state c.unify.new.state c.write.new.state c.args.context.now inner p ds e c.args.decs c.args.body _ c.limit.result c.in_ok-ty.ty
    c.in_ok-written.written c.in_ok-exp.exp c.requires.context h i c.limit.ensures c.in_ok-ty.ensures.grows c.in_ok-ty.ensures.is c.in_ok-ty.ensures.within c.in_ok-unify.ensures.grows
    c.in_ok-unify.ensures.equal c.in_ok-written.ensures.grows c.in_ok-written.ensures.is c.in_ok-exp.ensures refl refl
