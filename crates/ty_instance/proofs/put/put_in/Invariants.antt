use Rattle.std.proofs.Common.{◌≡◌, length, nat_eq, take}
use Rattle.indexmap.specs.IndexMap.{get}
use Rattle.ty_instance.specs.Images.{nothing}
use Rattle.ty_instance.specs.Put.{put_at}
use Rattle.ty_instance.specs.Steps.{Going, burden}
use Rattle.ty_instance.proofs.put.put_in.Given as goal

abbrev pub invariant-loop-step : goal.invariant-loop-step
invariant-loop-step l = record {
  stays : take (length l.fn.types) l.types ≡ l.fn.types;
  going : Going l.types nothing (put_at l.fn.types (get nat_eq l.images)) (get nat_eq l.made) l.steps.items l.body;
}

abbrev pub decreases-loop-step : goal.decreases-loop-step
decreases-loop-step l = burden (λ v. 0) l.types l.steps.items
