-- One more binding.
use Rattle.std.proofs.Common.{◌≡◌, ◌≢◌, ℕ, suc, ◌+◌, ◌*◌, Bool, false, nat_eq, if◌then◌else◌, refl, sym, ap, ◌∙◌, arith, subst}
use Rattle.std.proofs.lemmas.Bool.{eq-eqb, ne_eqb, or_parts, cases_eq}
use mathlib.Core.Logic.{◌⊎◌, inl, inr}
use Rattle.ty_table.specs.of_ty_core.Types.{Typ, var, con, Typs, none, more, labels}
use Rattle.ty_solve.specs.Substitution.{sub, subs, Entry, free, bound, row, mark, Meets, Solves, resolved, is_in, are_in}
use Rattle.ty_solve.specs.Weight.{weight, weights}
use Rattle.ty_solve.specs.Weight.{WeighsAt, IsAcyclic}
use Rattle.ty_solve.proofs.Sigma.{sigma_of, sigma-resolves}

-- how often v stands in a type
abbrev mutual
  count : ℕ → Typ → ℕ
  count v (var x) = if nat_eq x v then 1 else 0
  count v (con c ts) = counts v ts

  counts : ℕ → Typs → ℕ
  counts v none = 0
  counts v (more t ts) = count v t + counts v ts

mutual
  count-none : (v : ℕ) (t : Typ) → is_in v t ≡ false → count v t ≡ 0
  count-none v (var x) h = ap (λ b. if b then 1 else 0) h
  count-none v (con c ts) h = counts-none v ts h

  counts-none : (v : ℕ) (ts : Typs) → are_in v ts ≡ false → counts v ts ≡ 0
  counts-none v none h = refl
  counts-none v (more t ts) h = let p = or_parts (is_in v t) (are_in v ts) h in let a = count-none v t p.0 in let b = counts-none v ts p.1 in omega arith

module _ (w : ℕ → ℕ) (f : ℕ → Typ) (v k : ℕ) where
  -- each v that a type comes to weighs k more
  abbrev heavier : ℕ → ℕ
  heavier x = w x + count v (f x) * k

  mutual
    weight-heavier : (t : Typ) → weight heavier t ≡ weight w t + count v (sub f t) * k
    weight-heavier (var x) = omega arith
    weight-heavier (con c ts) = let p = weights-heavier ts in omega arith

    weights-heavier : (ts : Typs) → weights heavier ts ≡ weights w ts + counts v (subs f ts) * k
    weights-heavier none = omega arith
    weights-heavier (more t ts) = let p = weight-heavier t in let q = weights-heavier ts in omega arith

-- s' is s with something of the weight of t for the free variable v
pub record Weighty (s s' : ℕ → Entry) (v : ℕ) (t : Typ) : Type 0 where
  pub was : s v ≡ free (mark (s v))
  pub here : (w : ℕ → ℕ) (k : ℕ) → k ≡ suc (weight w t) → WeighsAt w k (s' v)
  pub other : (x : ℕ) → x ≢ v → s' x ≡ s x

module _ (s s' : ℕ → Entry) (v : ℕ) (t : Typ) (b : Weighty s s' v t) (a : IsAcyclic s) where
  abbrev now : ℕ → ℕ
  now = heavier a.0 (sigma_of s a) v (suc (weight a.0 t))

  at-v : is_in v (sub (sigma_of s a) t) ≡ false → now v ≡ suc (weight now t)
  at-v avoid =
      let fv = sigma-resolves s a v ∙ ap (resolved (sigma_of s a) v) b.was in
      let wv : a.0 v ≡ 0 = subst (WeighsAt a.0 (a.0 v)) b.was (a.1 v) in
      let none_in = count-none v (sub (sigma_of s a) t) avoid in
      let one = ap (count v) fv ∙ ap (λ c. if c then 1 else 0) (eq-eqb v v refl) in
      let p = weight-heavier a.0 (sigma_of s a) v (suc (weight a.0 t)) t in
      let q = ap (λ c. c * suc (weight a.0 t)) one in
      let r = ap (λ c. c * suc (weight a.0 t)) none_in in
      omega arith

  at-other : (x : ℕ) → x ≢ v → (c : Entry) → WeighsAt a.0 (a.0 x) c → sigma_of s a x ≡ resolved (sigma_of s a) x c → WeighsAt now (now x) c
  at-other x ne (free d) e r =
      let q = ap (λ d. d * suc (weight a.0 t)) (ap (count v) r ∙ ap (λ d. if d then 1 else 0) (ne_eqb x v ne)) in
      omega arith
  at-other x ne (bound u) e r =
      let p = weight-heavier a.0 (sigma_of s a) v (suc (weight a.0 t)) u in
      let q = ap (λ d. count v d * suc (weight a.0 t)) r in
      omega arith
  at-other x ne (row d ks us) e r =
      let p = weight-heavier a.0 (sigma_of s a) v (suc (weight a.0 t)) (con (labels ks) us) in
      let q = ap (λ d. count v d * suc (weight a.0 t)) r in
      omega arith

  at-each : is_in v (sub (sigma_of s a) t) ≡ false → (x : ℕ) → (x ≡ v) ⊎ (x ≡ v → ⊥) → WeighsAt now (now x) (s' x)
  at-each avoid x (inl e) = subst (λ y. WeighsAt now (now y) (s' y)) (sym e) (b.here now (now v) (at-v avoid))
  at-each avoid x (inr ne) = subst (WeighsAt now (now x)) (sym (b.other x ne)) (at-other x ne (s x) (a.1 x) (sigma-resolves s a x))

  pub bind-acyclic : is_in v (sub (sigma_of s a) t) ≡ false → IsAcyclic s'
  bind-acyclic avoid = (now, λ x. at-each avoid x (cases_eq x v))

-- s' is s with the entry e for v
pub record Puts (s s' : ℕ → Entry) (v : ℕ) (e : Entry) : Type 0 where
  pub here : s' v ≡ e
  pub other : (x : ℕ) → x ≢ v → s' x ≡ s x

-- what solves the one solves the other, where the variable's value meets what is said of it
pub solves-put : (m : ℕ → Bool) (f : ℕ → Typ) (s s' : ℕ → Entry) (v : ℕ) (e : Entry) → Puts s s' v e → Solves m f s → Meets m f (f v) e → Solves m f s'
solves-put m f s s' v e p h k x = go (cases_eq x v)
  where
    go : (x ≡ v) ⊎ (x ≡ v → ⊥) → Meets m f (f x) (s' x)
    go (inl i) = subst (λ y. Meets m f (f y) (s' y)) (sym i) (subst (Meets m f (f v)) (sym p.here) k)
    go (inr ne) = subst (Meets m f (f x)) (sym (p.other x ne)) (h x)

pub put-solves : (m : ℕ → Bool) (f : ℕ → Typ) (s s' : ℕ → Entry) (v : ℕ) (e : Entry) → Puts s s' v e → Solves m f s' → Meets m f (f v) (s v) → Solves m f s
put-solves m f s s' v e p h k x = go (cases_eq x v)
  where
    go : (x ≡ v) ⊎ (x ≡ v → ⊥) → Meets m f (f x) (s x)
    go (inl i) = subst (λ y. Meets m f (f y) (s y)) (sym i) k
    go (inr ne) = subst (Meets m f (f x)) (p.other x ne) (h x)

pub put-meets : (m : ℕ → Bool) (f : ℕ → Typ) (s s' : ℕ → Entry) (v : ℕ) (e : Entry) → Puts s s' v e → Solves m f s' → Meets m f (f v) e
put-meets m f s s' v e p h = subst (Meets m f (f v)) p.here (h v)
