-- A substitution that says nothing of one variable any more has no cycle either.
use Rattle.std.proofs.Common.{◌≡◌, ◌≢◌, ℕ, zero, suc, ◌+◌, ◌≤◌, Bool, true, false, if◌then◌else◌, nat_eq, refl, sym, ap, ap₂, ◌∙◌, arith}
use Rattle.std.specs.Prelude.{⊤}
use Rattle.std.proofs.lemmas.Bool.{eq-eqb, ne_eqb}
use Rattle.ty_table.specs.of_ty_core.Types.{Typ, var, con, Typs, none, more, labels}
use Rattle.ty_table.specs.of_ty_core.declared.mark.Mark.{Mark}
use Rattle.ty_solve.specs.Substitution.{Entry, free, bound, row, aside}
use Rattle.ty_solve.specs.Weight.{weight, weights, WeighsAt, IsAcyclic}

pub aside-here : (s : ℕ → Entry) (v : ℕ) → aside v s v ≡ free Mark.Any
aside-here s v = ap (λ b. if b then free Mark.Any else s v) (eq-eqb v v refl)

pub aside-other : (s : ℕ → Entry) (v x : ℕ) → x ≢ v → aside v s x ≡ s x
aside-other s v x ne = ap (λ b. if b then free Mark.Any else s x) (ne_eqb x v ne)

-- g and h agree on what weighs at most k by w
mutual
  weight-light : (w g h : ℕ → ℕ) (k : ℕ) → ((x : ℕ) → w x ≤ k → g x ≡ h x) → (t : Typ) → weight w t ≤ k → weight g t ≡ weight h t
  weight-light w g h k e (var x) b = ap suc (e x (omega arith))
  weight-light w g h k e (con c ts) b = ap suc (weights-light w g h k e ts (omega arith))

  weights-light : (w g h : ℕ → ℕ) (k : ℕ) → ((x : ℕ) → w x ≤ k → g x ≡ h x) → (ts : Typs) → weights w ts ≤ k → weights g ts ≡ weights h ts
  weights-light w g h k e none b = refl
  weights-light w g h k e (more t ts) b = ap₂ (λ x y. x + y) (weight-light w g h k e t (omega arith)) (weights-light w g h k e ts (omega arith))

abbrev weigh : (ℕ → ℕ) → Entry → ℕ
weigh w (free k) = 0
weigh w (bound t) = suc (weight w t)
weigh w (row e ks us) = suc (weight w (con (labels ks) us))

abbrev Under : (ℕ → ℕ) → ℕ → Entry → Type 0
Under w k (free j) = ⊤
Under w k (bound t) = k ≡ suc (weight w t)
Under w k (row e ks us) = k ≡ suc (weight w (con (labels ks) us))

under : (w : ℕ → ℕ) (k : ℕ) (e : Entry) → WeighsAt w k e → Under w k e
under w k (free j) h = tt
under w k (bound t) h = h
under w k (row e ks us) h = h

module _ (s : ℕ → Entry) (v : ℕ) (a : IsAcyclic s) where
  abbrev light : ℕ → ℕ → ℕ
  light zero x = 0
  light (suc n) x = weigh (light n) (aside v s x)

  lies : (x : ℕ) → Under a.0 (a.0 x) (aside v s x)
  lies x = go (nat_eq x v)
    where
      go : (b : Bool) → Under a.0 (a.0 x) (if b then free Mark.Any else s x)
      go true = tt
      go false = under a.0 (a.0 x) (s x) (a.1 x)

  at-none : (e : Entry) (j x : ℕ) → Under a.0 (a.0 x) e → a.0 x ≤ 0 → weigh (light j) e ≡ 0
  at-none (free k) j x u h = refl
  at-none (bound t) j x u h = absurd (omega arith)
  at-none (row e ks us) j x u h = absurd (omega arith)

  both : (e : Entry) (k j x : ℕ) → Under a.0 (a.0 x) e → a.0 x ≤ suc k → a.0 x ≤ suc j → ((y : ℕ) → a.0 y ≤ k → a.0 y ≤ j → light k y ≡ light j y) → weigh (light k) e ≡ weigh (light j) e
  both (free d) k j x u p q h = refl
  both (bound t) k j x u p q h = ap suc (weight-light a.0 (light k) (light j) (weight a.0 t) (λ y b. h y (omega arith) (omega arith)) t (omega arith))
  both (row e ks us) k j x u p q h = ap suc (weight-light a.0 (light k) (light j) (weight a.0 (con (labels ks) us)) (λ y b. h y (omega arith) (omega arith)) (con (labels ks) us) (omega arith))

  enough : (k j x : ℕ) → a.0 x ≤ k → a.0 x ≤ j → light k x ≡ light j x
  enough zero zero x p q = refl
  enough zero (suc j) x p q = sym (at-none (aside v s x) j x (lies x) p)
  enough (suc k) zero x p q = at-none (aside v s x) k x (lies x) q
  enough (suc k) (suc j) x p q = both (aside v s x) k j x (lies x) p q (enough k j)

  abbrev now : ℕ → ℕ
  now x = light (a.0 x) x

  again : (x : ℕ) (e : Entry) → Under a.0 (a.0 x) e → now x ≡ weigh (light (a.0 x)) e → WeighsAt now (now x) e
  again x (free k) u h = h
  again x (bound t) u h = h ∙ ap suc (weight-light a.0 (light (a.0 x)) now (weight a.0 t) (λ y b. enough (a.0 x) (a.0 y) y (omega arith) (omega arith)) t (omega arith))
  again x (row e ks us) u h = h ∙ ap suc (weight-light a.0 (light (a.0 x)) now (weight a.0 (con (labels ks) us)) (λ y b. enough (a.0 x) (a.0 y) y (omega arith) (omega arith)) (con (labels ks) us) (omega arith))

  pub aside-acyclic : IsAcyclic (aside v s)
  aside-acyclic = (now, λ x. again x (aside v s x) (lies x) (enough (a.0 x) (suc (a.0 x)) x (omega arith) (omega arith)))
