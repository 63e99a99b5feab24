-- A substitution with no cycle as a function that needs no second look.
use Rattle.std.proofs.Common.{◌≡◌, ℕ, zero, suc, ◌<◌, ◌≤◌, Bool, true, refl, sym, ap, ap₂, ◌∙◌, arith}
use Rattle.ty_table.specs.of_ty_core.Types.{Typ, var, con, Typs, none, more, labels}
use Rattle.ty_solve.specs.Substitution.{sub, subs, Entry, free, bound, row, Meets, Solves, FitsAt, Fits, resolved, Resolves, is_below, are_below}
use Rattle.ty_solve.specs.Weight.{weight, weights}
use Rattle.ty_solve.specs.Weight.{WeighsAt, Weighs, IsAcyclic, BelowAt, AreBelow}
use Rattle.std.proofs.lemmas.Bool.{and_parts, and_from, ltb-true, lt-ltb}

-- looks at most k bindings deep
abbrev pub deep : (ℕ → Entry) → ℕ → ℕ → Typ
deep s zero v = var v
deep s (suc k) v = resolved (deep s k) v (s v)

-- f and g agree on what weighs at most k
mutual
  pub sub-light : (w : ℕ → ℕ) (f g : ℕ → Typ) (k : ℕ) → ((v : ℕ) → w v ≤ k → f v ≡ g v) → (t : Typ) → weight w t ≤ k → sub f t ≡ sub g t
  sub-light w f g k h (var v) b = h v (omega arith)
  sub-light w f g k h (con c ts) b = ap (con c) (subs-light w f g k h ts (omega arith))

  pub subs-light : (w : ℕ → ℕ) (f g : ℕ → Typ) (k : ℕ) → ((v : ℕ) → w v ≤ k → f v ≡ g v) → (ts : Typs) → weights w ts ≤ k → subs f ts ≡ subs g ts
  subs-light w f g k h none b = refl
  subs-light w f g k h (more t ts) b = ap₂ more (sub-light w f g k h t (omega arith)) (subs-light w f g k h ts (omega arith))

none-deep : (w : ℕ → ℕ) (b : Entry) (f : ℕ → Typ) (v : ℕ) → WeighsAt w (w v) b → w v ≤ 0 → resolved f v b ≡ var v
none-deep w (free k) f v e h = refl
none-deep w (bound t) f v e h = absurd (omega arith)
none-deep w (row e ks us) f v i h = absurd (omega arith)

both : (s : ℕ → Entry) (w : ℕ → ℕ) (b : Entry) (k j v : ℕ) → WeighsAt w (w v) b → w v ≤ suc k → w v ≤ suc j → ((x : ℕ) → w x ≤ k → w x ≤ j → deep s k x ≡ deep s j x) → resolved (deep s k) v b ≡ resolved (deep s j) v b
both s w (free d) k j v e p q h = refl
both s w (bound t) k j v e p q h = sub-light w (deep s k) (deep s j) (weight w t) (λ x b. h x (omega arith) (omega arith)) t (omega arith)
both s w (row d ks us) k j v e p q h = sub-light w (deep s k) (deep s j) (weight w (con (labels ks) us)) (λ x b. h x (omega arith) (omega arith)) (con (labels ks) us) (omega arith)

-- deep enough is deep enough
enough : (s : ℕ → Entry) (w : ℕ → ℕ) (ws : Weighs w s) (k j v : ℕ) → w v ≤ k → w v ≤ j → deep s k v ≡ deep s j v
enough s w ws zero zero v p q = refl
enough s w ws zero (suc j) v p q = sym (none-deep w (s v) (deep s j) v (ws v) p)
enough s w ws (suc k) zero v p q = none-deep w (s v) (deep s k) v (ws v) q
enough s w ws (suc k) (suc j) v p q = both s w (s v) k j v (ws v) p q (enough s w ws k j)

abbrev pub sigma_of : (s : ℕ → Entry) → IsAcyclic s → ℕ → Typ
sigma_of s a v = deep s (a.0 v) v

pub sigma-resolves : (s : ℕ → Entry) (a : IsAcyclic s) → Resolves (sigma_of s a) s
sigma-resolves s a v = enough s a.0 a.1 (a.0 v) (suc (a.0 v)) v (omega arith) (omega arith) ∙ again (s v) (a.1 v)
  where
    again : (b : Entry) → WeighsAt a.0 (a.0 v) b → resolved (deep s (a.0 v)) v b ≡ resolved (sigma_of s a) v b
    again (free k) e = refl
    again (bound t) e = sub-light a.0 (deep s (a.0 v)) (sigma_of s a) (weight a.0 t) (λ x h. enough s a.0 a.1 (a.0 v) (a.0 x) x (omega arith) (omega arith)) t (omega arith)
    again (row d ks us) e = sub-light a.0 (deep s (a.0 v)) (sigma_of s a) (weight a.0 (con (labels ks) us)) (λ x h. enough s a.0 a.1 (a.0 v) (a.0 x) x (omega arith) (omega arith)) (con (labels ks) us) (omega arith)

pub resolves-fits : (s : ℕ → Entry) (f : ℕ → Typ) → Resolves f s → Fits f s
resolves-fits s f h v = go (s v) (h v)
  where
    go : (b : Entry) → f v ≡ resolved f v b → FitsAt f (f v) b
    go (free k) e = tt
    go (bound t) e = e
    go (row d ks us) e = tt

pub solves-fits : (m : ℕ → Bool) (s : ℕ → Entry) (f : ℕ → Typ) → Solves m f s → Fits f s
solves-fits m s f h v = go (s v) (h v)
  where
    go : (b : Entry) → Meets m f (f v) b → FitsAt f (f v) b
    go (free k) e = tt
    go (bound t) e = e
    go (row d ks us) e = tt

-- variables stay below n
mutual
  pub sub-below : (m n : ℕ) (f : ℕ → Typ) → ((v : ℕ) → v < n → is_below m (f v) ≡ true) → (t : Typ) → is_below n t ≡ true → is_below m (sub f t) ≡ true
  sub-below m n f h (var v) b = h v (ltb-true v n b)
  sub-below m n f h (con c ts) b = subs-below m n f h ts b

  pub subs-below : (m n : ℕ) (f : ℕ → Typ) → ((v : ℕ) → v < n → is_below m (f v) ≡ true) → (ts : Typs) → are_below n ts ≡ true → are_below m (subs f ts) ≡ true
  subs-below m n f h none b = refl
  subs-below m n f h (more t ts) b = let p = and_parts (is_below n t) (are_below n ts) b in and_from _ _ (sub-below m n f h t p.0) (subs-below m n f h ts p.1)

deep-below : (n : ℕ) (s : ℕ → Entry) → AreBelow n s → (k v : ℕ) → v < n → is_below n (deep s k v) ≡ true
deep-below n s h zero v lt = lt-ltb v n lt
deep-below n s h (suc k) v lt = go (s v) (h v) (deep-below n s h k)
  where
    go : (b : Entry) → BelowAt n b → ((x : ℕ) → x < n → is_below n (deep s k x) ≡ true) → is_below n (resolved (deep s k) v b) ≡ true
    go (free d) p r = lt-ltb v n lt
    go (bound t) p r = sub-below n n (deep s k) r t p
    go (row d ks us) p r = subs-below n n (deep s k) r us p

pub sigma-below : (n : ℕ) (s : ℕ → Entry) (a : IsAcyclic s) → AreBelow n s → (t : Typ) → is_below n t ≡ true → is_below n (sub (sigma_of s a) t) ≡ true
sigma-below n s a h t b = sub-below n n (sigma_of s a) (λ v lt. deep-below n s h (a.0 v) v lt) t b
