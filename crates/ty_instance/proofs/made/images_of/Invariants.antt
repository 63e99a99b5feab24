use Rattle.std.proofs.Common.{◌≡◌, map, nat_eq, take}
use Rattle.indexmap.specs.IndexMap.{get}
use Rattle.ty_instance.specs.Steps.{image_in}
use Rattle.ty_instance.proofs.made.images_of.Given as goal

abbrev pub invariant-loop-part : goal.invariant-loop-part
invariant-loop-part l = l.images.items ≡ map (image_in (get nat_eq l.made)) (take l.part-index l.parts)
