use Rattle.std.proofs.Common.{List, length, map, Some, sym, ap, subst, ◌∙◌}
use Rattle.ty_solve.specs.of_ty_core.Types.{Typ}
use Rattle.ty_solve.specs.of_ty_core.Statics.{replace}
use Rattle.ty_solve.specs.of_ty_table.TypeAt.{type_at}
use Rattle.ty_solve.specs.Limits.{limit_at, AreLimited}
use Rattle.ty_solve.specs.declared.subst.Slot.TheVariants.{Open}
use Rattle.ty_solve.proofs.Holding.{type-stays, table-grown}
use Rattle.ty_instance.specs.Put.{put_for}
use Rattle.ty_instance.specs.Renamed.{variables_from}
use Rattle.ty_instance.proofs.Going.{stays-on}
use Rattle.ty_instance.proofs.Putting.{on-ok}
use Rattle.ty_instance.proofs.Renaming.{images-length, seen-front}
use Rattle.ty_instance.proofs.fresh.put_fresh.Goals as goal

pub put-requires-clause-each_has_one : goal.put-requires-clause-each_has_one
put-requires-clause-each_has_one c =
    let us = c.fresh_variables.new.solver.subst.types in
    let are = ap (map (type_at us)) c.deref.ensures.value ∙ c.in_ok-images.ensures.variables in
    images-length us (length c.args.solver.now.subst.slots.items) (length c.args.marks.now) c.deref.result.now are ∙ sym c.requires.each_has_one

pub invariant_of-solver : goal.invariant_of-solver
invariant_of-solver c =
    let s = c.fresh_variables.new.solver in
    record {
      each_has_one = s.each_has_one ∙ ap length (sym c.put.ensures.slots);
      limited = subst (AreLimited (limit_at s.limits.items)) (sym c.put.ensures.says) s.limited;
      wide = s.wide;
    }

pub returns-clause-is : goal.returns-clause-is
returns-clause-is c =
    let ts = c.args.solver.now.subst.types in
    let us = c.fresh_variables.new.solver.subst.types in
    let news : List Typ = variables_from (length c.args.solver.now.subst.slots.items) (length c.args.marks.now) in
    let are = ap (map (type_at us)) c.deref.ensures.value ∙ c.in_ok-images.ensures.variables in
    on-ok c.put.result (λ r e. e ∙ ap (λ (l : List Typ). Some (replace (put_for c.args.parameters.now l) (type_at us c.args.body))) are ∙ ap (λ t. Some (replace (put_for c.args.parameters.now news) t)) (type-stays ts us c.args.body c.in_ok-images.ensures.earlier_stay c.requires.body)) c.put.ensures.is

pub returns-clause-says : goal.returns-clause-says
returns-clause-says c =
    let s = c.args.solver.now.subst in
    let us = c.put.new.s.types in
    let w = table-grown s.types us s.slots.items (stays-on s.types c.fresh_variables.new.solver.subst.types us c.in_ok-images.ensures.earlier_stay c.put.ensures.earlier_stay) s.held s.below s.acyclic s.inhabited in
    on-ok c.put.result (λ r h v lt. seen-front s.types us s.slots.items c.put.new.s.slots.items (map Open c.args.marks.now) v w (c.put.ensures.slots ∙ c.in_ok-images.ensures.marked) lt) c.put.ensures.is
