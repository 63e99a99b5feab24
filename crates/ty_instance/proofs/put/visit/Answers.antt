use Rattle.std.proofs.Common.{nat_eq}
use Rattle.indexmap.specs.IndexMap.{get}
use Rattle.ty_instance.specs.Images.{nothing}
use Rattle.ty_instance.proofs.Going.{going-skips, going-opens}
use Rattle.ty_instance.proofs.Putting.{found-variable, found-parts}
use Rattle.ty_instance.proofs.PuttingFor.{going-image}
use Rattle.ty_instance.proofs.put.visit.Goals as goal

pub returns-then-is_done : goal.returns-then-is_done
returns-then-is_done c = λ f goal h g. going-skips c.args.types.now nothing f (λ v. 0) (get nat_eq c.args.made.now) c.args.steps.now.items c.args.k goal (c.is_done.ensures c.if-is_done.true) g

pub returns-in-None : goal.returns-in-None
returns-in-None c = λ f goal h g. going-opens c.args.types.now nothing f (λ v. 0) (get nat_eq c.args.made.now) c.args.steps.now.items c.open.new.steps.items c.args.k goal (found-parts c.args.types.now c.args.k c.args.steps.now.items c.open.new.steps.items c.in_ok-open.field-0 c.in-None.is c.in_ok-open.ensures) g

pub returns-in_ok-insert-in-Some : goal.returns-in_ok-insert-in-Some
returns-in_ok-insert-in-Some c = λ f goal h g.
    let x = found-variable c.args.types.now c.args.k c.in-Some.v c.args.steps.now.items c.open.new.steps.items c.in_ok-open.field-0 c.in-Some.is c.in_ok-open.ensures in
    going-image c.args.types.now nothing f (λ v. 0) (get nat_eq c.args.images.now) (get nat_eq c.args.made.now) (get nat_eq c.insert.new.self) c.args.steps.now.items c.open.new.steps.items c.args.k c.in-Some.v c.image_or-r.result goal c.requires c.image_or-r.ensures c.in_ok-insert-in-Some.ensures.updates.0 x (h c.in-Some.v) g
