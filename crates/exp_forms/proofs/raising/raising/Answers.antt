use Rattle.std.proofs.Common.{refl}
use Rattle.pat_elab.proofs.of_elab_steps.Growing.{type_later}
use Rattle.exp_forms.proofs.Leaves.{raise_is}
use Rattle.exp_forms.proofs.raising.raising.Goals as goal

pub unify-requires-clause-a : goal.unify-requires-clause-a
unify-requires-clause-a c = type_later c.args.state.now c.packets.new.state c.args.packet.ty c.in_ok-exn.ensures.grows c.requires.packet

pub returns : goal.returns
returns c S p e h = raise_is S c.args.state.now c.packets.new.state c.unify.new.state c.fresh_type.new.state c.write.new.state c.args.context.now p e c.args.packet _ c.limit.result
    c.in_ok-exn.exn c.in_ok-ty.ty c.in_ok-written.written c.in_ok-exp.exp c.requires.context c.limit.ensures h c.in_ok-exn.ensures.grows c.in_ok-exn.ensures.has
    c.in_ok-unify.ensures.grows c.in_ok-unify.ensures.equal c.in_ok-ty.ensures.grows c.in_ok-ty.ensures.is c.in_ok-ty.ensures.within c.in_ok-written.ensures.grows
    c.in_ok-written.ensures.is c.in_ok-exp.ensures refl refl
