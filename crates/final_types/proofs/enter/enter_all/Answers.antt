use Rattle.std.proofs.Common.{sym, subst}
use Rattle.final_types.specs.Bounds.{AreBounds}
use Rattle.final_types.specs.Names.{AreJumps, tos}
use Rattle.final_types.proofs.enter.enter_all.Goals as goal

pub enter_each-requires : goal.enter_each-requires
enter_each-requires c = record {
  names = record { ordered = c.requires; jumps = subst (λ js. AreJumps c.args.namings.now (tos js)) (sym c.deref.ensures.value) (c.in_ok-jumps.ensures c.requires) };
  bounds = subst (AreBounds c.args.solver.now) (sym c.deref-2.ensures.value) c.in_ok-bounds.ensures;
}
