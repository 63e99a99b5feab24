use Rattle.std.proofs.Common.{◌≡◌, length, nat_eq, take}
use Rattle.indexmap.specs.IndexMap.{get}
use Rattle.ty_solve.specs.SlotsOf.{seen}
use Rattle.ty_instance.specs.Steps.{Going, burden}
use Rattle.ty_instance.proofs.Ending.{ending}
use Rattle.ty_instance.proofs.resolve.resolve.Given as goal

abbrev pub invariant-loop-step : goal.invariant-loop-step
invariant-loop-step l = record {
  stays : take (length l.fn.s.types) l.s.types ≡ l.fn.s.types;
  slots : l.s.slots.items ≡ l.fn.s.slots.items;
  says : seen l.s.types l.s.slots.items ≡ seen l.fn.s.types l.fn.s.slots.items;
  going : Going l.s.types (seen l.fn.s.types l.fn.s.slots.items) (ending (seen l.fn.s.types l.fn.s.slots.items) l.fn.s.acyclic) (get nat_eq l.made) l.steps.items l.t;
}

abbrev pub decreases-loop-step : goal.decreases-loop-step
decreases-loop-step l = burden l.fn.s.acyclic.0 l.s.types l.steps.items
