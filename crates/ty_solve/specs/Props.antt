-- A substitution has one weighing at most.
use Rattle.std.specs.Prelude.{◌≡◌, ℕ, zero, suc, ◌+◌, ◌≤◌, List, [], ◌∷◌, refl}
use Rattle.std.proofs.Common.{arith, ap, ap₂, sym, ◌∙◌}
use mathlib.Core.Path.{fun_ext}
use native.Mathlib.Nat.{ℕ_set}
use Rattle.std.proofs.Props.{props}
use mathlib.Core.HLevel.{Π_prop, →_prop, ×_prop, Σ_prop_path, Unit-prop}
use Rattle.ty_table.specs.of_ty_core.Types.{Typ, var, con, Typs, none, more, labels}
use Rattle.ty_solve.specs.Substitution.{Entry, free, bound, row}
use Rattle.mlc_names.specs.declared.label.Label.{Label}
use Rattle.ty_solve.specs.Rows.{IsProper}
use Rattle.ty_solve.specs.Weight.{weight, weights}
use Rattle.ty_solve.specs.Weight.{WeighsAt, Weighs, IsAcyclic, BelowAt, AreBelow, InhabitedAt, AreInhabited}

WeighsAt-prop : (w : ℕ → ℕ) (k : ℕ) (b : Entry) → IsProp (WeighsAt w k b)
WeighsAt-prop w k (free e) = ℕ_set _ _
WeighsAt-prop w k (bound t) = ℕ_set _ _
WeighsAt-prop w k (row e ks us) = ℕ_set _ _

BelowAt-prop : (n : ℕ) (b : Entry) → IsProp (BelowAt n b)
BelowAt-prop n (free e) = Unit-prop
BelowAt-prop n (bound t) = hlevel props
BelowAt-prop n (row e ks us) = hlevel props

pub AreBelow-prop : (n : ℕ) (s : ℕ → Entry) → IsProp (AreBelow n s)
AreBelow-prop n s = Π_prop (λ v. BelowAt-prop n (s v))

-- two weighings agree on what weighs at most k
module _ (w u : ℕ → ℕ) where
  mutual
    weight-same : (k : ℕ) (same : (v : ℕ) → w v ≤ k → w v ≡ u v) (t : Typ) → weight w t ≤ k → weight w t ≡ weight u t
    weight-same k same (var v) h = ap suc (same v (omega arith))
    weight-same k same (con c ts) h = ap suc (weights-same k same ts (omega arith))

    weights-same : (k : ℕ) (same : (v : ℕ) → w v ≤ k → w v ≡ u v) (ts : Typs) → weights w ts ≤ k → weights w ts ≡ weights u ts
    weights-same k same none h = refl
    weights-same k same (more t ts) h = ap₂ (λ x y. x + y) (weight-same k same t (omega arith)) (weights-same k same ts (omega arith))

  at-same : (k v : ℕ) (b : Entry) → WeighsAt w (w v) b → WeighsAt u (u v) b → w v ≤ suc k → ((x : ℕ) → w x ≤ k → w x ≡ u x) → w v ≡ u v
  at-same k v (free e) p q h same = p ∙ sym q
  at-same k v (bound t) p q h same = p ∙ ap suc (weight-same k same t (omega arith)) ∙ sym q
  at-same k v (row e ks us) p q h same = p ∙ ap suc (weight-same k same (con (labels ks) us) (omega arith)) ∙ sym q

  at-none : (v : ℕ) (b : Entry) → WeighsAt w (w v) b → WeighsAt u (u v) b → w v ≤ 0 → w v ≡ u v
  at-none v (free e) p q h = p ∙ sym q
  at-none v (bound t) p q h = absurd (omega arith)
  at-none v (row e ks us) p q h = absurd (omega arith)

  all-same : (s : ℕ → Entry) → Weighs w s → Weighs u s → (k v : ℕ) → w v ≤ k → w v ≡ u v
  all-same s p q zero v h = at-none v (s v) (p v) (q v) h
  all-same s p q (suc k) v h = at-same k v (s v) (p v) (q v) h (all-same s p q k)

pub IsAcyclic-prop : (s : ℕ → Entry) → IsProp (IsAcyclic s)
IsAcyclic-prop s a b = Σ_prop_path (λ w. Π_prop (λ v. WeighsAt-prop w (w v) (s v))) (fun_ext (λ v. all-same a.0 b.0 s a.1 b.1 (a.0 v) v (omega arith)))

IsProper-prop : (ks : List Label) (us : Typs) → IsProp (IsProper ks us)
IsProper-prop [] none = Unit-prop
IsProper-prop [] (more u us) = hlevel props
IsProper-prop (k ∷ ks) none = hlevel props
IsProper-prop (k ∷ ks) (more u us) = ×_prop (→_prop (λ a b. absurd a)) (IsProper-prop ks us)

InhabitedAt-prop : (b : Entry) → IsProp (InhabitedAt b)
InhabitedAt-prop (free k) = hlevel props
InhabitedAt-prop (bound t) = Unit-prop
InhabitedAt-prop (row e ks us) = IsProper-prop ks us

pub AreInhabited-prop : (s : ℕ → Entry) → IsProp (AreInhabited s)
AreInhabited-prop s = Π_prop (λ v. InhabitedAt-prop (s v))
