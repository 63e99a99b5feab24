use Rattle.std.proofs.Common.{◌∙◌}
use Rattle.elab_steps.proofs.Growing.{grows_on}
use Rattle.general_decs.proofs.lower.lower_rest.Goals as goal

pub loop-v-preserved : goal.loop-v-preserved
loop-v-preserved c = let e = c.in_ok-lower_if.ensures in record {
  grows = grows_on c.args.state.now c.loop-v.state c.lower_if.new.state c.loop-v.invariant.grows e.grows;
  next = e.next ∙ c.loop-v.invariant.next;
}
