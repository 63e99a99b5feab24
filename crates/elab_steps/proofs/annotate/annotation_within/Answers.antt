use Rattle.std.proofs.Common.{length, sym, ap, subst, ◌∙◌}
use Rattle.elab_types.specs.of_ty_solve.Limits.{limit_at, AreLimited}
use Rattle.elab_steps.proofs.annotate.annotation_within.Goals as goal

pub invariant_of-solver : goal.invariant_of-solver
invariant_of-solver c =
    let s = c.args.solver.now in
    record {
      each_has_one = s.each_has_one ∙ ap length (sym c.annotation_in.ensures.slots);
      limited = subst (AreLimited (limit_at s.limits.items)) (sym c.annotation_in.ensures.says) s.limited;
      wide = s.wide;
    }
