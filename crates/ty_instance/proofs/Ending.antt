-- A substitution with no cycle as a function, which leaves open variables as they are.
use Rattle.std.proofs.Common.{◌≡◌, ◌<◌, ◌≤◌, ◌||◌, ◌⊎◌, inl, inr, ℕ, zero, suc, Bool, true, false, List, length, take, Option, refl, sym, ap, ap₂, ◌∙◌, subst, arith}
use Rattle.std.proofs.lemmas.Bool.{eqb-true, false≢true, lt-ltb}
use Rattle.ty_solve.specs.of_ty_core.Types.{Typ, var, con, Typs, none, more}
use Rattle.ty_solve.specs.Substitution.{sub, subs, Entry, free, bound, row, FitsAt, Fits, is_below, is_in, are_in, is_open}
use Rattle.ty_solve.specs.Weight.{weight, weights, WeighsAt, Weighs, IsAcyclic, BelowAt, AreBelow}
use Rattle.ty_solve.proofs.Sigma.{sub-light, sub-below}
use Rattle.ty_solve.specs.of_ty_table.TypeAt.{type_at}
use Rattle.ty_solve.proofs.Holding.{type-stays}
use Rattle.ty_instance.specs.Images.{value_of, Ends, IsResolved}
use Rattle.ty_instance.specs.Steps.{image_in, IsImage, Going}
use Rattle.ty_instance.specs.declared.step.Step.{Step}
use Rattle.ty_instance.proofs.Putting.{going-ends}

-- looks at most k bindings deep
abbrev deep : (ℕ → Entry) → ℕ → ℕ → Typ
deep s zero v = var v
deep s (suc k) v = value_of (deep s k) v (s v)

abbrev pub ending : (s : ℕ → Entry) → IsAcyclic s → ℕ → Typ
ending s a v = deep s (a.0 v) v

-- deep enough is deep enough

none-deep : (w : ℕ → ℕ) (b : Entry) (f : ℕ → Typ) (v : ℕ) → WeighsAt w (w v) b → w v ≤ 0 → value_of f v b ≡ var v
none-deep w (free k) f v e h = refl
none-deep w (bound t) f v e h = absurd (omega arith)
none-deep w (row e ks us) f v i h = refl

both : (s : ℕ → Entry) (w : ℕ → ℕ) (b : Entry) (k j v : ℕ) → WeighsAt w (w v) b → w v ≤ suc k → w v ≤ suc j → ((x : ℕ) → w x ≤ k → w x ≤ j → deep s k x ≡ deep s j x) → value_of (deep s k) v b ≡ value_of (deep s j) v b
both s w (free d) k j v e p q h = refl
both s w (bound t) k j v e p q h = sub-light w (deep s k) (deep s j) (weight w t) (λ x b. h x (omega arith) (omega arith)) t (omega arith)
both s w (row d ks us) k j v e p q h = refl

enough : (s : ℕ → Entry) (w : ℕ → ℕ) (ws : Weighs w s) (k j v : ℕ) → w v ≤ k → w v ≤ j → deep s k v ≡ deep s j v
enough s w ws zero zero v p q = refl
enough s w ws zero (suc j) v p q = sym (none-deep w (s v) (deep s j) v (ws v) p)
enough s w ws (suc k) zero v p q = none-deep w (s v) (deep s k) v (ws v) q
enough s w ws (suc k) (suc j) v p q = both s w (s v) k j v (ws v) p q (enough s w ws k j)

pub ending-ends : (s : ℕ → Entry) (a : IsAcyclic s) → Ends (ending s a) s
ending-ends s a v = enough s a.0 a.1 (a.0 v) (suc (a.0 v)) v (omega arith) (omega arith) ∙ again (s v) (a.1 v)
  where
    again : (b : Entry) → WeighsAt a.0 (a.0 v) b → value_of (deep s (a.0 v)) v b ≡ value_of (ending s a) v b
    again (free k) e = refl
    again (bound t) e = sub-light a.0 (deep s (a.0 v)) (ending s a) (weight a.0 t) (λ x h. enough s a.0 a.1 (a.0 v) (a.0 x) x (omega arith) (omega arith)) t (omega arith)
    again (row d ks us) e = refl

pub ends-fits : (s : ℕ → Entry) (f : ℕ → Typ) → Ends f s → Fits f s
ends-fits s f h v = go (s v) (h v)
  where
    go : (b : Entry) → f v ≡ value_of f v b → FitsAt f (f v) b
    go (free k) e = tt
    go (bound t) e = e
    go (row d ks us) e = tt

pub ends-open : (s : ℕ → Entry) (f : ℕ → Typ) (v : ℕ) → Ends f s → is_open (s v) ≡ true → f v ≡ var v
ends-open s f v h o = h v ∙ go (s v) o
  where
    go : (b : Entry) → is_open b ≡ true → value_of f v b ≡ var v
    go (free k) e = refl
    go (bound t) e = absurd (false≢true e)
    go (row d ks us) e = refl

-- solutions see no difference

mutual
  under : (g f : ℕ → Typ) → ((v : ℕ) → sub g (f v) ≡ g v) → (t : Typ) → sub g (sub f t) ≡ sub g t
  under g f h (var v) = h v
  under g f h (con c ts) = ap (con c) (unders g f h ts)

  unders : (g f : ℕ → Typ) → ((v : ℕ) → sub g (f v) ≡ g v) → (ts : Typs) → subs g (subs f ts) ≡ subs g ts
  unders g f h none = refl
  unders g f h (more t ts) = ap₂ more (under g f h t) (unders g f h ts)

deep-same : (s : ℕ → Entry) (g : ℕ → Typ) → Fits g s → (k v : ℕ) → sub g (deep s k v) ≡ g v
deep-same s g h zero v = refl
deep-same s g h (suc k) v = go (s v) (h v) (deep-same s g h k)
  where
    go : (b : Entry) → FitsAt g (g v) b → ((x : ℕ) → sub g (deep s k x) ≡ g x) → sub g (value_of (deep s k) v b) ≡ g v
    go (free d) e r = refl
    go (bound t) e r = under g (deep s k) r t ∙ sym e
    go (row d ks us) e r = refl

pub ending-same : (s : ℕ → Entry) (a : IsAcyclic s) (g : ℕ → Typ) → Fits g s → (t : Typ) → sub g (sub (ending s a) t) ≡ sub g t
ending-same s a g h t = under g (ending s a) (λ v. deep-same s g h (a.0 v) v) t

-- no bound variable is left

module _ (s : ℕ → Entry) (w : ℕ → ℕ) where
  mutual
    open-in : (f : ℕ → Typ) (v k : ℕ) → ((x : ℕ) → w x ≤ k → is_in v (f x) ≡ true → is_open (s v) ≡ true) → (t : Typ) → weight w t ≤ k → is_in v (sub f t) ≡ true → is_open (s v) ≡ true
    open-in f v k h (var x) b i = h x (omega arith) i
    open-in f v k h (con c ts) b i = opens-in f v k h ts (omega arith) i

    opens-in : (f : ℕ → Typ) (v k : ℕ) → ((x : ℕ) → w x ≤ k → is_in v (f x) ≡ true → is_open (s v) ≡ true) → (ts : Typs) → weights w ts ≤ k → are_in v (subs f ts) ≡ true → is_open (s v) ≡ true
    opens-in f v k h none b i = absurd (false≢true i)
    opens-in f v k h (more t ts) b i = go (either (is_in v (sub f t)) (are_in v (subs f ts)) i) (open-in f v k h t (omega arith)) (opens-in f v k h ts (omega arith))
      where
        either : (a b : Bool) → (a || b) ≡ true → (a ≡ true) ⊎ (b ≡ true)
        either true b h = inl refl
        either false b h = inr h

        go : (is_in v (sub f t) ≡ true) ⊎ (are_in v (subs f ts) ≡ true) → (is_in v (sub f t) ≡ true → is_open (s v) ≡ true) → (are_in v (subs f ts) ≡ true → is_open (s v) ≡ true) → is_open (s v) ≡ true
        go (inl e) a b = a e
        go (inr e) a b = b e

  itself : (x v : ℕ) → is_in v (var x) ≡ true → is_open (s x) ≡ true → is_open (s v) ≡ true
  itself x v i o = subst (λ y. is_open (s y) ≡ true) (eqb-true x v i) o

  deep-open : Weighs w s → (k x v : ℕ) → w x ≤ k → is_in v (deep s k x) ≡ true → is_open (s v) ≡ true
  deep-open ws zero x v b i = itself x v i (go (s x) (ws x))
    where
      go : (b : Entry) → WeighsAt w (w x) b → is_open b ≡ true
      go (free d) e = refl
      go (bound t) e = absurd (omega arith)
      go (row d ks us) e = refl
  deep-open ws (suc k) x v b i = go (s x) refl (ws x) i (λ y. deep-open ws k y v)
    where
      go : (b : Entry) → s x ≡ b → WeighsAt w (w x) b → is_in v (value_of (deep s k) x b) ≡ true → ((y : ℕ) → w y ≤ k → is_in v (deep s k y) ≡ true → is_open (s v) ≡ true) → is_open (s v) ≡ true
      go (free d) p e j r = itself x v j (ap is_open p)
      go (bound t) p e j r = open-in (deep s k) v k r t (omega arith) j
      go (row d ks us) p e j r = itself x v j (ap is_open p)

pub ending-open : (s : ℕ → Entry) (a : IsAcyclic s) (t : Typ) (v : ℕ) → is_in v (sub (ending s a) t) ≡ true → is_open (s v) ≡ true
ending-open s a t v i = open-in s a.0 (ending s a) v (weight a.0 t) (λ x b j. deep-open s a.0 a.1 (a.0 x) x v (omega arith) j) t (omega arith) i

-- variables stay below n

deep-below : (n : ℕ) (s : ℕ → Entry) → AreBelow n s → (k v : ℕ) → v < n → is_below n (deep s k v) ≡ true
deep-below n s h zero v lt = lt-ltb v n lt
deep-below n s h (suc k) v lt = go (s v) (h v) (deep-below n s h k)
  where
    go : (b : Entry) → BelowAt n b → ((x : ℕ) → x < n → is_below n (deep s k x) ≡ true) → is_below n (value_of (deep s k) v b) ≡ true
    go (free d) p r = lt-ltb v n lt
    go (bound t) p r = sub-below n n (deep s k) r t p
    go (row d ks us) p r = lt-ltb v n lt

pub ending-below : (n : ℕ) (s : ℕ → Entry) (a : IsAcyclic s) → AreBelow n s → (t : Typ) → is_below n t ≡ true → is_below n (sub (ending s a) t) ≡ true
ending-below n s a h t b = sub-below n n (ending s a) (λ v lt. deep-below n s h (a.0 v) v lt) t b

-- what the last step leaves

pub record Resolved (ts us : List Typ) (s : ℕ → Entry) (n t r : ℕ) : Type 0 where
  pub held : r < length us
  pub is : IsResolved s (type_at ts t) (type_at us r)
  pub same : (g : ℕ → Typ) → Fits g s → sub g (type_at us r) ≡ sub g (type_at ts t)
  pub open_in : (v : ℕ) → is_in v (type_at us r) ≡ true → is_open (s v) ≡ true
  pub below : is_below n (type_at ts t) ≡ true → is_below n (type_at us r) ≡ true

pub resolved : (ts us : List Typ) (s : ℕ → Entry) (a : IsAcyclic s) (n : ℕ) (images : ℕ → Option ℕ) (steps : List Step) (t r : ℕ) → t < length ts → AreBelow n s → take (length ts) us ≡ ts → length steps ≡ 0 → r ≡ image_in images t → Going us s (ending s a) images steps t → Resolved ts us s n t r
resolved ts us s a n images steps t r lt b e z p g =
    let i = subst (IsImage us (ending s a) t) (sym p) (going-ends us s (ending s a) images steps t z g) in
    let q = i.is ∙ ap (sub (ending s a)) (type-stays ts us t e lt) in
    record {
      held = i.held;
      is = record { values = ending s a; ends = ending-ends s a; is = q };
      same = λ h k. ap (sub h) q ∙ ending-same s a h k (type_at ts t);
      open_in = λ v j. ending-open s a (type_at ts t) v (sym (ap (is_in v) q) ∙ j);
      below = λ k. ap (is_below n) q ∙ ending-below n s a b (type_at ts t) k;
    }
