-- One step of reading through a substitution.
use Rattle.std.proofs.Common.{◌≡◌, ℕ, suc, true, ap, sym, subst, ◌∙◌}
use mathlib.Core.Logic.{inl, inr}
use Rattle.ty_table.specs.of_ty_core.Types.{Typ, var, con}
use Rattle.ty_solve.specs.Substitution.{Entry, FitsAt, Fits, sub, is_below}
use Rattle.ty_solve.specs.Weight.{weight, WeighsAt, IsAcyclic, BelowAt, AreBelow}
use Rattle.ty_solve.specs.Forces.{Problem, Forces, Met, EntryMet, LeftAt, ForcedAt, IsForced}
use Rattle.ty_solve.specs.Finding.{StandsFor}

pub step-fits : (s : ℕ → Entry) (t u : Typ) → StandsFor s t u → (f : ℕ → Typ) → Fits f s → sub f t ≡ sub f u
step-fits s (var v) u e f h = subst (FitsAt f (f v)) e (h v)
step-fits s (con c ts) u e f h = absurd e

pub step-below : (n : ℕ) (s : ℕ → Entry) (t u : Typ) → StandsFor s t u → AreBelow n s → is_below n u ≡ true
step-below n s (var v) u e h = subst (BelowAt n) e (h v)
step-below n s (con c ts) u e h = absurd e

pub step-lighter : (s : ℕ → Entry) (a : IsAcyclic s) (t u : Typ) → StandsFor s t u → suc (suc (weight a.0 u)) ≡ weight a.0 t
step-lighter s a (var v) u e = ap suc (sym (subst (WeighsAt a.0 (a.0 v)) e (a.1 v)))
step-lighter s a (con c ts) u e = absurd e

pub step-forced : (p : Problem) (s : ℕ → Entry) (t u : Typ) → StandsFor s t u → IsForced p s → Forces p t u
step-forced p s (var v) u e h = subst (ForcedAt p v) e (h v).0
step-forced p s (con c ts) u e h = absurd e

pub step-met : (p : Problem) (s : ℕ → Entry) (t u : Typ) → StandsFor s t u → IsForced p s → Met p t → Met p u
step-met p s (con c ts) u e h m = absurd e
step-met p s (var v) u e h m = go (h v).1
  where
    go : LeftAt p v (s v) → Met p u
    go (inl q) = Met.stands v u m (sym q ∙ e)
    go (inr q) = subst (EntryMet p) e q.2
