-- Substitutions put into types.
use Rattle.std.proofs.Common.{◌≡◌, ℕ, ◌≤◌, Bool, true, false, ◌||◌, refl, sym, ap, ap₂, ◌∙◌, arith}
use Rattle.std.proofs.lemmas.Bool.{eqb-true, eq-eqb, false≢true}
use Rattle.ty_table.specs.of_ty_core.Types.{Typ, var, con, Typs, none, more}
use Rattle.ty_solve.specs.Substitution.{sub, subs, is_in, are_in}
use Rattle.ty_solve.specs.Weight.{weight, weights}

mutual
  pub sub-sub : (f g : ℕ → Typ) (t : Typ) → sub f (sub g t) ≡ sub (λ v. sub f (g v)) t
  sub-sub f g (var v) = refl
  sub-sub f g (con c ts) = ap (con c) (subs-sub f g ts)

  pub subs-sub : (f g : ℕ → Typ) (ts : Typs) → subs f (subs g ts) ≡ subs (λ v. sub f (g v)) ts
  subs-sub f g none = refl
  subs-sub f g (more t ts) = ap₂ more (sub-sub f g t) (subs-sub f g ts)

mutual
  pub sub-same : (f g : ℕ → Typ) → ((v : ℕ) → f v ≡ g v) → (t : Typ) → sub f t ≡ sub g t
  sub-same f g h (var v) = h v
  sub-same f g h (con c ts) = ap (con c) (subs-same f g h ts)

  pub subs-same : (f g : ℕ → Typ) → ((v : ℕ) → f v ≡ g v) → (ts : Typs) → subs f ts ≡ subs g ts
  subs-same f g h none = refl
  subs-same f g h (more t ts) = ap₂ more (sub-same f g h t) (subs-same f g h ts)

-- the same where f and g agree on the variables within
mutual
  pub sub-within : (f g : ℕ → Typ) (t : Typ) → ((v : ℕ) → is_in v t ≡ true → f v ≡ g v) → sub f t ≡ sub g t
  sub-within f g (var v) h = h v (eq-eqb v v refl)
  sub-within f g (con c ts) h = ap (con c) (subs-within f g ts h)

  pub subs-within : (f g : ℕ → Typ) (ts : Typs) → ((v : ℕ) → are_in v ts ≡ true → f v ≡ g v) → subs f ts ≡ subs g ts
  subs-within f g none h = refl
  subs-within f g (more t ts) h = ap₂ more (sub-within f g t (λ v e. h v (ap (λ b. b || are_in v ts) e))) (subs-within f g ts (λ v e. h v (or-right (is_in v t) (are_in v ts) e)))
    where
      or-right : (x y : Bool) → y ≡ true → (x || y) ≡ true
      or-right true y e = refl
      or-right false y e = e

-- the types of a list, one by one
abbrev pub head_of : Typs → Typ → Typ
head_of none d = d
head_of (more t ts) d = t

abbrev pub tail_of : Typs → Typs
tail_of none = none
tail_of (more t ts) = ts

abbrev pub parts_of : Typ → Typs
parts_of (var v) = none
parts_of (con c ts) = ts

-- where the results are equal, f and g agree on the variables within
mutual
  pub sub-agree : (f g : ℕ → Typ) (t : Typ) → sub f t ≡ sub g t → (v : ℕ) → is_in v t ≡ true → f v ≡ g v
  sub-agree f g (var x) e v h = let p = eqb-true x v h in ap f (sym p) ∙ e ∙ ap g p
  sub-agree f g (con c ts) e v h = subs-agree f g ts (ap parts_of e) v h

  pub subs-agree : (f g : ℕ → Typ) (ts : Typs) → subs f ts ≡ subs g ts → (v : ℕ) → are_in v ts ≡ true → f v ≡ g v
  subs-agree f g none e v h = absurd (false≢true h)
  subs-agree f g (more t ts) e v h = go (is_in v t) (sub-agree f g t (ap (λ l. head_of l (var 0)) e) v) (subs-agree f g ts (ap tail_of e) v) h
    where
      go : (b : Bool) → (b ≡ true → f v ≡ g v) → (are_in v ts ≡ true → f v ≡ g v) → (b || are_in v ts) ≡ true → f v ≡ g v
      go true k m p = k refl
      go false k m p = m p

abbrev pub size : Typ → ℕ
size = weight (λ x. 1)

abbrev pub sizes : Typs → ℕ
sizes = weights (λ x. 1)

-- a variable within a type is no larger
mutual
  pub within-size : (f : ℕ → Typ) (v : ℕ) (t : Typ) → is_in v t ≡ true → size (f v) ≤ size (sub f t)
  within-size f v (var x) h = let p = ap (λ y. size (f y)) (eqb-true x v h) in omega arith
  within-size f v (con c ts) h = let p = within-sizes f v ts h in omega arith

  pub within-sizes : (f : ℕ → Typ) (v : ℕ) (ts : Typs) → are_in v ts ≡ true → size (f v) ≤ sizes (subs f ts)
  within-sizes f v none h = absurd (false≢true h)
  within-sizes f v (more t ts) h = go (is_in v t) (within-size f v t) (within-sizes f v ts) h
    where
      go : (b : Bool) → (b ≡ true → size (f v) ≤ size (sub f t)) → (are_in v ts ≡ true → size (f v) ≤ sizes (subs f ts)) → (b || are_in v ts) ≡ true → size (f v) ≤ sizes (subs f (more t ts))
      go true k m p = let q = k refl in omega arith
      go false k m p = let q = m p in omega arith
