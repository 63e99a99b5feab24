use Rattle.std.proofs.Common.{length, refl, sym, subst}
use Rattle.ty_solve.specs.Held.{AreHeld}
use Rattle.std.proofs.Common.{length, subst, sym, refl}
use Rattle.ty_solve.specs.SlotsOf.{seen}
use Rattle.ty_solve.specs.Weight.{AreBelow, IsAcyclic, AreInhabited}
use Rattle.ty_solve.proofs.subst.Subst.new.Goals as goal

pub invariant_of-result : goal.invariant_of-result
invariant_of-result c = record {
  held = subst (AreHeld (length c.in_ok-types.types)) (sym c.new-slots.ensures.items) tt;
  below = subst (λ l. AreBelow (length l) (seen c.in_ok-types.types l)) (sym c.new-slots.ensures.items) (λ v. tt);
  acyclic = subst (λ l. IsAcyclic (seen c.in_ok-types.types l)) (sym c.new-slots.ensures.items) (λ v. 0, λ v. refl);
  inhabited = subst (λ l. AreInhabited (seen c.in_ok-types.types l)) (sym c.new-slots.ensures.items) (λ v. refl);
}
