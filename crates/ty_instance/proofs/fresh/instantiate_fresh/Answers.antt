use Rattle.std.proofs.Common.{length, map, Some, sym, ap, subst, ◌∙◌}
use Rattle.ty_solve.specs.of_ty_core.Statics.{replace}
use Rattle.ty_solve.specs.of_ty_table.TypeAt.{type_at}
use Rattle.ty_solve.specs.Limits.{limit_at, AreLimited}
use Rattle.ty_solve.specs.declared.subst.Slot.TheVariants.{Open}
use Rattle.ty_solve.proofs.Holding.{type-stays, table-grown}
use Rattle.ty_instance.specs.Images.{image_at}
use Rattle.ty_instance.specs.Renamed.{renamed}
use Rattle.ty_instance.proofs.Going.{stays-on}
use Rattle.ty_instance.proofs.Putting.{on-ok}
use Rattle.ty_instance.proofs.Renaming.{image-renamed, replace-alike, found-known, grown-length, seen-front}
use Rattle.ty_instance.proofs.fresh.instantiate_fresh.Goals as goal

pub invariant_of-solver : goal.invariant_of-solver
invariant_of-solver c =
    let s = c.fresh_variables.new.solver in
    record {
      each_has_one = s.each_has_one ∙ ap length (sym c.instantiate_in.ensures.slots);
      limited = subst (AreLimited (limit_at s.limits.items)) (sym c.instantiate_in.ensures.says) s.limited;
      wide = s.wide;
    }

pub returns-clause-is : goal.returns-clause-is
returns-clause-is c =
    let ts = c.args.solver.now.subst.types in
    let us = c.fresh_variables.new.solver.subst.types in
    let n = length c.args.solver.now.subst.slots.items in
    let k = length c.args.marks.now in
    let images = c.deref.result.now in
    let are = ap (map (type_at us)) c.deref.ensures.value ∙ c.in_ok-images.ensures.variables in
    on-ok c.instantiate_in.result (λ r e. e ∙ ap Some (replace-alike (image_at us images) (renamed n k) (λ v. image-renamed us n k images v are) (type_at us c.args.body) ∙ ap (replace (renamed n k)) (type-stays ts us c.args.body c.in_ok-images.ensures.earlier_stay c.requires.body))) c.instantiate_in.ensures.is

pub returns-clause-known : goal.returns-clause-known
returns-clause-known c =
    let os = c.args.solver.now.subst.slots.items in
    let e = grown-length os c.instantiate_in.new.s.slots.items c.args.marks.now (c.instantiate_in.ensures.slots ∙ c.in_ok-images.ensures.marked) in
    on-ok c.instantiate_in.result (λ r h. found-known c.instantiate_in.new.s.types r (length os) (length c.args.marks.now) (length c.instantiate_in.new.s.slots.items) (type_at c.args.solver.now.subst.types c.args.body) h e) (returns-clause-is c)

pub returns-clause-says : goal.returns-clause-says
returns-clause-says c =
    let s = c.args.solver.now.subst in
    let us = c.instantiate_in.new.s.types in
    let w = table-grown s.types us s.slots.items (stays-on s.types c.fresh_variables.new.solver.subst.types us c.in_ok-images.ensures.earlier_stay c.instantiate_in.ensures.earlier_stay) s.held s.below s.acyclic s.inhabited in
    on-ok c.instantiate_in.result (λ r h v lt. seen-front s.types us s.slots.items c.instantiate_in.new.s.slots.items (map Open c.args.marks.now) v w (c.instantiate_in.ensures.slots ∙ c.in_ok-images.ensures.marked) lt) c.instantiate_in.ensures.is
