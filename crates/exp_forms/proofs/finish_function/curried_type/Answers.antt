use Rattle.std.proofs.Common.{◌-◌, get_or, length, refl}
use Rattle.pat_elab.proofs.of_elab_steps.Growing.{type_later}
use Rattle.exp_forms.proofs.FinishingFunctions.{before-length, curried_starts, curried_goes_on, types-at}
use Rattle.exp_forms.proofs.finish_function.curried_type.Goals as goal

pub loop-i-init : goal.loop-i-init
loop-i-init c = curried_starts c.args.state.now c.args.types.now c.args.range (length c.args.types.now) c.requires.range refl

pub functions-requires-clause-from : goal.functions-requires-clause-from
functions-requires-clause-from c =
    type_later c.args.state.now c.loop-i.state (get_or c.args.types.now (c.loop-i.i - 1) 0) c.loop-i.invariant.grows
    (types-at c.args.state.now c.args.types.now (c.loop-i.i - 1) c.requires.types (before-length c.args.types.now c.loop-i.i c.loop-i-test.true c.loop-i.invariant.most))

pub loop-i-preserved : goal.loop-i-preserved
loop-i-preserved c =
    curried_goes_on c.args.state.now c.loop-i.state c.functions.new.state c.args.types.now c.args.range c.loop-i.i c.loop-i.ty c.in_ok-ty.ty c.loop-i.invariant c.loop-i-test.true
    c.in_ok-ty.ensures.grows c.in_ok-ty.ensures.is c.in_ok-ty.ensures.has
