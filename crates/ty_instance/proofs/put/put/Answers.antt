use Rattle.std.proofs.Common.{length, map, nat_eq, Some, ap, ◌∙◌}
use Rattle.indexmap.specs.IndexMap.{get}
use Rattle.ty_solve.specs.of_ty_table.TypeAt.{type_at}
use Rattle.ty_solve.proofs.Holding.{table-grown}
use Rattle.ty_instance.specs.Put.{put_at, put_for}
use Rattle.ty_instance.proofs.Putting.{on-ok}
use Rattle.ty_instance.proofs.Renaming.{replace-alike}
use Rattle.ty_instance.proofs.PuttingFor.{put-first, first-held}
use Rattle.ty_instance.proofs.put.put.Goals as goal

pub put_in-requires-clause-held : goal.put_in-requires-clause-held
put_in-requires-clause-held c = first-held (length c.args.s.now.types) c.args.parameters.now c.args.images.now _ c.in_ok-found.ensures c.requires.held

pub returns-clause-is : goal.returns-clause-is
returns-clause-is c =
    let ts = c.args.s.now.types in
    on-ok c.put_in.result (λ r e. e ∙ ap Some (replace-alike (put_at ts (get nat_eq c.in_ok-found.found)) (put_for c.args.parameters.now (map (type_at ts) c.args.images.now)) (λ v. put-first ts c.args.parameters.now c.args.images.now (get nat_eq c.in_ok-found.found) v (c.in_ok-found.ensures v)) (type_at ts c.args.body))) c.put_in.ensures.is

pub returns-clause-says : goal.returns-clause-says
returns-clause-says c = (table-grown c.args.s.now.types c.put_in.new.types c.args.s.now.slots.items c.put_in.ensures.earlier_stay c.args.s.now.held c.args.s.now.below c.args.s.now.acyclic c.args.s.now.inhabited).says

pub invariant_of-s : goal.invariant_of-s
invariant_of-s c =
    let g = table-grown c.args.s.now.types c.put_in.new.types c.args.s.now.slots.items c.put_in.ensures.earlier_stay c.args.s.now.held c.args.s.now.below c.args.s.now.acyclic c.args.s.now.inhabited in
    record { held = g.held; below = g.below; acyclic = g.acyclic; inhabited = g.inhabited }
