use Rattle.std.proofs.Common.{length, ap, sym, subst, ◌∙◌}
use Rattle.ty_solve.specs.Limits.{limit_at, AreLimited}
use Rattle.ty_solve.proofs.solver.Solver.variable.Goals as goal

pub invariant_of-self : goal.invariant_of-self
invariant_of-self c = record {
  each_has_one = c.args.self.now.each_has_one ∙ ap length (sym c.variable.ensures.slots);
  limited = subst (AreLimited (limit_at c.args.self.now.limits.items)) (sym c.variable.ensures.says) c.args.self.now.limited;
  wide = c.args.self.now.wide;
}
