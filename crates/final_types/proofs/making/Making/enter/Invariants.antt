use Rattle.std.proofs.Common.{◌≡◌, length, reverse, take}
use Rattle.indexmap.specs.IndexMap.{get}
use Rattle.final_types.specs.Making.{Going, burden, same_key}
use Rattle.final_types.proofs.making.Making.enter.Given as goal

abbrev pub invariant-loop-step : goal.invariant-loop-step
invariant-loop-step l = record {
  stays : take (length l.fn.types) l.types ≡ l.fn.types;
  going : Going l.source l.types (get same_key l.self.made) l.self.steps.items l.self.values.items l.ty l.place;
}

abbrev pub decreases-loop-step : goal.decreases-loop-step
decreases-loop-step l = burden l.source (reverse l.self.steps.items)
