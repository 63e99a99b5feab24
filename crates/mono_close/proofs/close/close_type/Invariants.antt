use Rattle.std.proofs.Common.{nat_eq}
use Rattle.indexmap.specs.IndexMap.{get}
use Rattle.mono_close.specs.Closing.{standing, Going, burden, Longer}
use Rattle.mono_close.proofs.close.close_type.Given as goal

abbrev pub invariant-loop-step : goal.invariant-loop-step
invariant-loop-step l = record {
  going : Going l.sources (standing l.fn.closed l.slots) (get nat_eq l.known) l.closed l.steps.items l.k;
  longer : Longer l.fn.closed l.closed;
}

abbrev pub decreases-loop-step : goal.decreases-loop-step
decreases-loop-step l = burden l.sources l.steps.items
