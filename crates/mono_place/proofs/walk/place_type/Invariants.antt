use Rattle.std.proofs.Common.{nat_eq}
use Rattle.indexmap.specs.IndexMap.{get}
use Rattle.monomorphise.specs.Simple.{nth_part}
use Rattle.mono_place.specs.Placing.{Going, burden}
use Rattle.mono_place.proofs.walk.place_type.Given as goal

abbrev pub invariant-loop-step : goal.invariant-loop-step
invariant-loop-step l = Going l.sources (nth_part l.slots) (get nat_eq l.known) l.fn.types l.types l.steps.items l.k

abbrev pub decreases-loop-step : goal.decreases-loop-step
decreases-loop-step l = burden l.sources l.steps.items
