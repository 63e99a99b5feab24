use Rattle.elab_steps.proofs.Growing.{grows_on}
use Rattle.general_decs.proofs.Adding.{generalised_is, plain_is}
use Rattle.general_decs.proofs.add.add.Goals as goal

pub returns-clause-grows : goal.returns-clause-grows
returns-clause-grows c = grows_on c.args.state.now c.unify.new.state c.write.new.state c.in_ok-unify.ensures.grows c.in_ok-ty.ensures.grows

pub returns-clause-generalised : goal.returns-clause-generalised
returns-clause-generalised c e S N Z C s rs r before is h b zv v =
    generalised_is S N c.args.state.now c.unify.new.state c.write.new.state C c.args.context.now s rs r c.args.place before c.args.bound.now c.args.flags.now.items c.flag.new.flags.items
    c.args.binds.now.items c.push.new.self.items c.args.pat c.args.exp c.in_ok-ty.ty c.args.general is h c.in_ok-unify.ensures.grows c.in_ok-unify.ensures.equal c.in_ok-ty.ensures.grows
    c.in_ok-ty.ensures.is c.in_ok-flag.ensures c.in_ok-push.ensures.items e Z b zv v

pub returns-clause-plain : goal.returns-clause-plain
returns-clause-plain c e S N C s rs r before is h b =
    plain_is S N c.args.state.now c.unify.new.state c.write.new.state C c.args.context.now s rs r c.args.place before c.args.bound.now c.args.flags.now.items c.flag.new.flags.items
    c.args.binds.now.items c.push.new.self.items c.args.pat c.args.exp c.in_ok-ty.ty c.args.general is h c.in_ok-unify.ensures.grows c.in_ok-unify.ensures.equal c.in_ok-ty.ensures.grows
    c.in_ok-ty.ensures.is c.in_ok-flag.ensures c.in_ok-push.ensures.items e b
