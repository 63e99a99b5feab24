-- What becomes of an answer.
use Rattle.std.proofs.Common.{◌≡◌, sym, subst}
use Rattle.mlc_base.specs.declared.place.Place.{Place}
use Rattle.elab_types.specs.declared.refused.Refused.TheVariants as cause
use Rattle.pat_elab.specs.declared.stopped.Stopped.{Stopped}
use Rattle.pat_elab.specs.declared.stopped.Stopped.TheVariants.{Refuses}
use Rattle.refusal_causes.specs.Causes.{Becomes, broken_mistyped, stays, unbound_mistyped}

pub stays-as : (q : Place) (s t : Stopped) → s ≡ t → Becomes q s t
stays-as q s t e = subst (Becomes q s) e (stays s)

pub unbound-becomes : (q : Place) (s : Stopped) (p : Place) → s ≡ Refuses (cause.Unbound p) → Becomes q s (Refuses (cause.Mistyped q))
unbound-becomes q s p e = subst (λ t. Becomes q t (Refuses (cause.Mistyped q))) (sym e) (unbound_mistyped p)

pub broken-becomes : (q : Place) (s : Stopped) (p : Place) → s ≡ Refuses (cause.Broken p) → Becomes q s (Refuses (cause.Mistyped q))
broken-becomes q s p e = subst (λ t. Becomes q t (Refuses (cause.Mistyped q))) (sym e) (broken_mistyped p)
