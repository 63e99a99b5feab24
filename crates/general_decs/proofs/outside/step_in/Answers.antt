use Rattle.std.proofs.Common.{refl, ap, ◌∙◌}
use Rattle.general_decs.specs.Outside.{tyvars_onto}
use Rattle.general_decs.proofs.Stepping.{stepped_in}
use Rattle.general_decs.proofs.outside.step_in.Goals as goal

pub returns : goal.returns
returns c D n e l t came =
    stepped_in D c.args.context.now _ n c.args.stepped.level c.bind_again.new.scope c.args.scoped.now c.args.stepped.types.items e l t came
    (c.in_ok-bind_again.ensures.tyvars ∙ ap (tyvars_onto c.args.context.now.types.tyvars c.args.scoped.now) c.deref.ensures.value) c.in_ok-bind_again.ensures.types refl
