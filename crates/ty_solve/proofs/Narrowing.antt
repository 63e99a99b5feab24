-- A variable doesn't lie in its own row.
use Rattle.std.proofs.Common.{◌≡◌, ◌<◌, ◌≤◌, ℕ, zero, suc, Bool, true, false, ◌||◌, List, nat_eq, if◌then◌else◌, refl, sym, ap, ◌∙◌, subst, arith}
use Rattle.std.proofs.lemmas.Bool.{eqb-true, eq-eqb, or_right, false≢true}
use mathlib.Core.Logic.{◌⊎◌, inl, inr}
use Rattle.mlc_names.specs.declared.label.Label.{Label}
use Rattle.ty_table.specs.of_ty_core.Types.{Typ, var, con, Typs, none, more, labels}
use Rattle.ty_table.specs.of_ty_core.declared.mark.Mark.{Mark}
use Rattle.ty_solve.specs.Substitution.{Entry, free, bound, row, aside, resolved, Resolves, sub, subs, is_in, are_in}
use Rattle.ty_solve.specs.SlotsOf.{row_of}
use Rattle.ty_solve.specs.Weight.{weight, weights, WeighsAt, IsAcyclic, AreBelow, AreInhabited, BelowAt, InhabitedAt}
use Rattle.ty_solve.specs.Tasks.{MayPut}
use Rattle.ty_solve.specs.Rows.{Known}

or-cases : (a b : Bool) → (a || b) ≡ true → (a ≡ true) ⊎ (b ≡ true)
or-cases true b h = inl refl
or-cases false b h = inr h

or-left : (a b : Bool) → a ≡ true → (a || b) ≡ true
or-left true b h = refl
or-left false b h = absurd (false≢true h)

-- what lies in a type lies in one of its variables
mutual
  comes-from : (v : ℕ) (f : ℕ → Typ) (t : Typ) → is_in v (sub f t) ≡ true → (y : ℕ) × (is_in y t ≡ true) × (is_in v (f y) ≡ true)
  comes-from v f (var x) h = (x, eq-eqb x x refl, h)
  comes-from v f (con c ts) h = come-from v f ts h

  come-from : (v : ℕ) (f : ℕ → Typ) (ts : Typs) → are_in v (subs f ts) ≡ true → (y : ℕ) × (are_in y ts ≡ true) × (is_in v (f y) ≡ true)
  come-from v f none h = absurd (false≢true h)
  come-from v f (more t ts) h = go (λ e. comes-from v f t e) (λ e. come-from v f ts e) (or-cases (is_in v (sub f t)) (are_in v (subs f ts)) h)
    where
      go : (is_in v (sub f t) ≡ true → (y : ℕ) × (is_in y t ≡ true) × (is_in v (f y) ≡ true)) → (are_in v (subs f ts) ≡ true → (y : ℕ) × (are_in y ts ≡ true) × (is_in v (f y) ≡ true)) → (is_in v (sub f t) ≡ true) ⊎ (are_in v (subs f ts) ≡ true) → (y : ℕ) × (are_in y (more t ts) ≡ true) × (is_in v (f y) ≡ true)
      go a b (inl e) = let p = a e in (p.0, or-left (is_in p.0 t) (are_in p.0 ts) p.1, p.2)
      go a b (inr e) = let p = b e in (p.0, or_right (is_in p.0 t) (are_in p.0 ts) p.1, p.2)

-- a variable within a type weighs less than the type
mutual
  within-weight : (w : ℕ → ℕ) (y : ℕ) (t : Typ) → is_in y t ≡ true → w y < weight w t
  within-weight w y (var x) h = let p = ap w (eqb-true x y h) in omega arith
  within-weight w y (con c ts) h = let p = within-weights w y ts h in omega arith

  within-weights : (w : ℕ → ℕ) (y : ℕ) (ts : Typs) → are_in y ts ≡ true → w y < weights w ts
  within-weights w y none h = absurd (false≢true h)
  within-weights w y (more t ts) h = go (λ e. within-weight w y t e) (λ e. within-weights w y ts e) (or-cases (is_in y t) (are_in y ts) h)
    where
      go : (is_in y t ≡ true → w y < weight w t) → (are_in y ts ≡ true → w y < weights w ts) → (is_in y t ≡ true) ⊎ (are_in y ts ≡ true) → w y < weights w (more t ts)
      go a b (inl e) = let p = a e in omega arith
      go a b (inr e) = let p = b e in omega arith

module _ (s : ℕ → Entry) (a : IsAcyclic s) (v : ℕ) (f : ℕ → Typ) (h : Resolves f (aside v s)) where
  itself : (x : ℕ) → is_in v (var x) ≡ true → a.0 v ≤ a.0 x
  itself x i = let p = ap a.0 (eqb-true x v i) in omega arith

  within : (x k : ℕ) → a.0 x < suc k → ((y : ℕ) → a.0 y < k → is_in v (f y) ≡ true → a.0 v ≤ a.0 y) → (e : Entry) → WeighsAt a.0 (a.0 x) e → is_in v (resolved f x e) ≡ true → a.0 v ≤ a.0 x
  within x k lt r (free j) w i = itself x i
  within x k lt r (bound t) w i =
      let z = comes-from v f t i in
      let p = within-weight a.0 z.0 t z.1 in
      let q = r z.0 (omega arith) z.2 in
      omega arith
  within x k lt r (row e ks us) w i =
      let z = come-from v f us i in
      let p = within-weights a.0 z.0 us z.1 in
      let q = r z.0 (omega arith) z.2 in
      omega arith

  lighter : (k x : ℕ) → a.0 x < k → is_in v (f x) ≡ true → a.0 v ≤ a.0 x
  lighter zero x lt i = absurd (omega arith)
  lighter (suc k) x lt i = cases (nat_eq x v) (h x) i (lighter k)
    where
      cases : (b : Bool) → f x ≡ resolved f x (if b then free Mark.Any else s x) → is_in v (f x) ≡ true → ((y : ℕ) → a.0 y < k → is_in v (f y) ≡ true → a.0 v ≤ a.0 y) → a.0 v ≤ a.0 x
      cases true e i r = itself x (ap (is_in v) (sym e) ∙ i)
      cases false e i r = within x k lt r (s x) (a.1 x) (ap (is_in v) (sym e) ∙ i)

  pub own-avoids : (e : Bool) (ks : List Label) (us : Typs) → s v ≡ row e ks us → are_in v (subs f us) ≡ false
  own-avoids e ks us q = go (are_in v (subs f us)) refl
    where
      go : (b : Bool) → are_in v (subs f us) ≡ b → b ≡ false
      go false i = refl
      go true i =
          let z = come-from v f us i in
          let p = within-weights a.0 z.0 us z.1 in
          let j = lighter (suc (a.0 z.0)) z.0 (omega arith) z.2 in
          let w : a.0 v ≡ suc (weight a.0 (con (labels ks) us)) = subst (WeighsAt a.0 (a.0 v)) q (a.1 v) in
          absurd (omega arith)

pub may-narrow : (n : ℕ) (s : ℕ → Entry) (v : ℕ) (r : Known) (e : Bool) (t : Entry) → IsAcyclic s → AreBelow n s → AreInhabited s → v < n → s v ≡ row_of r → t ≡ row e r.labels r.types → MayPut n s v t
may-narrow n s v r e t a b i lt q p = subst (MayPut n s v) (sym p) (record {
  in_range = lt;
  below = subst (BelowAt n) q (b v);
  inhabited = subst InhabitedAt q (i v);
  avoids = λ f h. own-avoids s a v f h r.equality r.labels r.types q;
})
