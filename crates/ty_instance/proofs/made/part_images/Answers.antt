use Rattle.std.proofs.Common.{map, nat_eq, ap, ◌∙◌}
use Rattle.indexmap.specs.IndexMap.{get}
use Rattle.ty_solve.specs.of_ty_table.TypeAt.{type_at}
use Rattle.ty_instance.specs.Steps.{image_in}
use Rattle.ty_instance.proofs.Putting.{on-ok, same-parts}
use Rattle.ty_instance.proofs.made.part_images.Goals as goal

pub returns-in-Apply : goal.returns-in-Apply
returns-in-Apply c = on-ok c.images_of.result (λ a p h parts is below. p ∙ ap (map (image_in (get nat_eq c.args.made.now))) (same-parts c.args.types.now (type_at c.args.types.now c.args.k) _ h c.in-Apply.parts.now parts c.len-len.ensures.one_to_one c.in-Apply.ensures.1 below c.in-Apply.ensures.0 is)) c.images_of.ensures
