use Rattle.closed_types.proofs.of_elab_steps.Growing.{grows_on}
use Rattle.dec_forms.proofs.JoiningBinds.{bind_added}
use Rattle.dec_forms.proofs.binds.add_bind.Goals as goal

pub returns-clause-grows : goal.returns-clause-grows
returns-clause-grows c = grows_on c.args.state.now c.unify.new.state c.write.new.state c.in_ok-unify.ensures.grows c.in_ok-ty.ensures.grows

pub returns-clause-added : goal.returns-clause-added
returns-clause-added c S M P rs p a e before after h i x =
    bind_added S M P c.args.state.now c.unify.new.state c.write.new.state c.args.context.now rs p c.args.place a e before after c.args.binds.now.items c.push.new.self.items c.args.pat c.args.exp
    c.in_ok-ty.ty h i x c.in_ok-unify.ensures.grows c.in_ok-unify.ensures.equal c.in_ok-ty.ensures.grows c.in_ok-ty.ensures.is c.in_ok-push.ensures.items
