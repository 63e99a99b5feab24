use Rattle.pat_elab.proofs.of_elab_context.Reading.{context_later}
use Rattle.exp_forms.proofs.Building.{truth_is}
use Rattle.exp_forms.proofs.built.truth.Goals as goal

pub used_at-requires-clause-context : goal.used_at-requires-clause-context
used_at-requires-clause-context c = context_later c.args.state.now c.apply.new.state c.args.context.now c.in_ok-ty.ensures.grows c.requires.context

pub returns : goal.returns
returns c place =
    truth_is c.args.state.now c.apply.new.state c.used_at.new.state c.args.context.now c.args.built _ c.in_ok-ty.ty _ _ c.requires.context c.requires.truth c.number_of.ensures c.in_ok-ty.ensures.grows
    c.in_ok-ty.ensures.is c.in_ok-ty.ensures.made c.new.ensures.items c.in_ok-made.ensures.grows c.in_ok-made.ensures.ty c.in_ok-made.ensures.tree place
