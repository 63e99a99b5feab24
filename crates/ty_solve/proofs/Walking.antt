-- Looking through types by their numbers, each once.
use Rattle.std.proofs.Common.{◌≡◌, ◌<◌, ◌+◌, ℕ, Bool, true, false, ◌||◌, List, [], ◌∷◌, ◌++◌, refl, ap, ap₂, ◌∙◌, subst, arith}
use Rattle.std.proofs.lemmas.Bool.{false≢true}
use mathlib.Core.Logic.{◌⊎◌, inl, inr}
use Rattle.ty_table.specs.of_ty_core.Types.{Typ, var, con, Typs, none, more, all_nodes}
use Rattle.ty_table.specs.TypeAt.{type_at, types_at, top, tops}
use Rattle.ty_solve.specs.Substitution.{Entry, sub, subs, is_in, are_in}
use Rattle.ty_solve.specs.Weight.{weight, weights, WeighsAt, IsAcyclic}
use Rattle.ty_solve.specs.Walk.{Next, Looks}

-- a type with no variable
mutual
  pub ground-same : (f : ℕ → Typ) (t : Typ) → top t ≡ 0 → sub f t ≡ t
  ground-same f (var x) h = absurd (omega arith)
  ground-same f (con c ts) h = ap (con c) (grounds-same f ts h)

  grounds-same : (f : ℕ → Typ) (ts : Typs) → tops ts ≡ 0 → subs f ts ≡ ts
  grounds-same f none h = refl
  grounds-same f (more t ts) h = ap₂ more (ground-same f t (omega arith)) (grounds-same f ts (omega arith))

mutual
  pub ground-out : (v : ℕ) (t : Typ) → top t ≡ 0 → is_in v t ≡ true → ⊥
  ground-out v (var x) h i = omega arith
  ground-out v (con c ts) h i = grounds-out v ts h i

  grounds-out : (v : ℕ) (ts : Typs) → tops ts ≡ 0 → are_in v ts ≡ true → ⊥
  grounds-out v none h i = false≢true i
  grounds-out v (more t ts) h i = go (or-cases (is_in v t) (are_in v ts) i) (λ e. ground-out v t (omega arith) e) (λ e. grounds-out v ts (omega arith) e)
    where
      or-cases : (a b : Bool) → (a || b) ≡ true → (a ≡ true) ⊎ (b ≡ true)
      or-cases true b h = inl refl
      or-cases false b h = inr h

      go : (is_in v t ≡ true) ⊎ (are_in v ts ≡ true) → (is_in v t ≡ true → ⊥) → (are_in v ts ≡ true → ⊥) → ⊥
      go (inl e) a b = a e
      go (inr e) a b = b e

-- lists of numbers
pub weights-append : (w : ℕ → ℕ) (ts : List Typ) (l r : List ℕ) → weights w (types_at ts (l ++ r)) ≡ weights w (types_at ts l) + weights w (types_at ts r)
weights-append w ts [] r = omega arith
weights-append w ts (k ∷ l) r = let e = weights-append w ts l r in omega arith

nodes-append : (f : ℕ → Typ) (ts : List Typ) (l r : List ℕ) → all_nodes (subs f (types_at ts (l ++ r))) ≡ all_nodes (subs f (types_at ts l)) + all_nodes (subs f (types_at ts r))
nodes-append f ts [] r = omega arith
nodes-append f ts (k ∷ l) r = let e = nodes-append f ts l r in omega arith

positive : (w : ℕ → ℕ) (t : Typ) → 0 < weight w t
positive w (var v) = omega arith
positive w (con c ts) = omega arith

-- what is looked at next weighs less
pub next-lighter : (ts : List Typ) (s : ℕ → Entry) (a : IsAcyclic s) (t : ℕ) (ks : List ℕ) → Next ts s t ks → weights a.0 (types_at ts ks) < weight a.0 (type_at ts t)
next-lighter ts s a t ks (Next.fields x e ls p q) =
    let b = ap (weight a.0) p in
    let d = subst (WeighsAt a.0 (a.0 x)) q (a.1 x) in
    omega arith
next-lighter ts s a t ks (Next.ends x p q r) = let e = ap (λ l. weights a.0 (types_at ts l)) r in let b = positive a.0 (type_at ts t) in omega arith
next-lighter ts s a t ks (Next.stands x u p q r) =
    let e = ap (λ l. weights a.0 (types_at ts l)) r in
    let b = ap (weight a.0) p in
    let d = subst (WeighsAt a.0 (a.0 x)) q (a.1 x) in
    omega arith
next-lighter ts s a t ks (Next.applied h p) = let b = ap (weight a.0) p in omega arith

pub pop-lighter : (w : ℕ → ℕ) (ts : List Typ) (old rest : List ℕ) (k : ℕ) → old ≡ rest ++ k ∷ [] → weights w (types_at ts rest) < weights w (types_at ts old)
pop-lighter w ts old rest k e = let p = ap (λ l. weights w (types_at ts l)) e ∙ weights-append w ts rest (k ∷ []) in let b = positive w (type_at ts k) in omega arith

pub look-lighter : (ts : List Typ) (s : ℕ → Entry) (a : IsAcyclic s) (old rest new : List ℕ) (k : ℕ) → old ≡ rest ++ k ∷ [] → Looks ts s k rest new → weights a.0 (types_at ts new) < weights a.0 (types_at ts old)
look-lighter ts s a old rest new k e h =
    let p = ap (λ l. weights a.0 (types_at ts l)) e ∙ weights-append a.0 ts rest (k ∷ []) in
    let q = ap (λ l. weights a.0 (types_at ts l)) h.is ∙ weights-append a.0 ts rest h.parts in
    let b = next-lighter ts s a k h.parts h.next in
    omega arith
