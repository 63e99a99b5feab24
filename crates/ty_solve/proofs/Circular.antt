-- A variable within its own value.
use Rattle.std.proofs.Common.{◌≡◌, ◌≢◌, ◌<◌, ◌≤◌, ℕ, zero, suc, Bool, true, false, ◌||◌, List, if◌then◌else◌, nat_eq, sym, ap, ◌∙◌, subst, refl, arith}
use Rattle.std.proofs.lemmas.Bool.{eqb-true}
use mathlib.Core.Logic.{◌⊎◌, inl, inr}
use Rattle.mlc_names.specs.declared.label.Label.{Label}
use Rattle.ty_table.specs.of_ty_core.Types.{Typ, var, con, Typs, none, more, Symbol}
use Rattle.ty_table.specs.of_ty_core.declared.mark.Mark.{Mark}
use Rattle.ty_solve.specs.Rows.{IsProper, Extends}
use Rattle.ty_solve.specs.Substitution.{Entry, free, bound, row, is_open, aside, Meets, Solves, Resolves, resolved, sub, subs, is_in, are_in}
use Rattle.ty_solve.specs.Weight.{IsAcyclic, InhabitedAt, AreInhabited}
use Rattle.ty_solve.specs.Finding.{IsWalked}
use Rattle.ty_solve.specs.Forces.{Problem, Forces, Has, Lies, Loops, Met, Beside, ForcedAt, IsForced, IsForcedRow}
use Rattle.ty_solve.proofs.Sigma.{deep, sigma_of, sigma-resolves}
use Rattle.ty_solve.proofs.Subs.{size, sizes}
use Rattle.ty_solve.proofs.Freeing.{aside-other, aside-acyclic}
use Rattle.ty_solve.proofs.Labels.{field-in, at-subs, at-size}

pub lies-right : (p : Problem) (t u x : Typ) → Lies p t u → Forces p u x → Lies p t x
lies-right p t u x (Lies.part h ts _ _ e b) g = Lies.part h ts t x (Forces.along _ _ _ (Forces.back _ _ g) e) b
lies-right p t u x (Lies.deeper _ y _ a b) g = Lies.deeper t y x a (lies-right p y u x b g)
lies-right p t u x (Lies.along _ y _ e b) g = Lies.along t y x e (lies-right p y u x b g)
lies-right p t u x (Lies.field _ l _ h) g = Lies.field x l t (Has.carried u x l t h g)

-- the entry of a variable, or nothing said of it
aside-cases : (s : ℕ → Entry) (v x : ℕ) (P : Entry → Type 0) → P (free Mark.Any) → P (s x) → P (aside v s x)
aside-cases s v x P a b = go (nat_eq x v)
  where
    go : (c : Bool) → P (if c then free Mark.Any else s x)
    go true = a
    go false = b

module _ (p : Problem) (s : ℕ → Entry) (i : IsForced p s) (inh : AreInhabited s) (v : ℕ) where
  pub record Within (ts : Typs) : Type 0 where
    pub here : Typ
    pub beside : Beside here here ts ts
    pub or : Forces p (var v) here ⊎ Lies p (var v) here

  lies-above : (c : Symbol) (ts : Typs) → Within ts → Lies p (var v) (con c ts)
  lies-above c ts w = go w.or
    where
      below : Lies p w.here (con c ts)
      below = Lies.part c ts w.here (con c ts) (Forces.same _) w.beside

      go : Forces p (var v) w.here ⊎ Lies p (var v) w.here → Lies p (var v) (con c ts)
      go (inl e) = Lies.along (var v) w.here (con c ts) e below
      go (inr e) = Lies.deeper (var v) w.here (con c ts) e below

  pub lies-field : (t : Typ) (l : Label) (u : Typ) → Has p t l u → Forces p (var v) u ⊎ Lies p (var v) u → Lies p (var v) t
  lies-field t l u h (inl e) = Lies.along (var v) u t e (Lies.field t l u h)
  lies-field t l u h (inr e) = Lies.deeper (var v) u t e (Lies.field t l u h)

  module _ (g : ℕ → Typ) (ih : (x : ℕ) → is_in v (g x) ≡ true → Forces p (var v) (var x) ⊎ Lies p (var v) (var x)) where
    mutual
      pub in-type : (t : Typ) → is_in v (sub g t) ≡ true → Forces p (var v) t ⊎ Lies p (var v) t
      in-type (var x) h = ih x h
      in-type (con c ts) h = inr (lies-above c ts (in-types ts h))

      pub in-types : (ts : Typs) → are_in v (subs g ts) ≡ true → Within ts
      in-types none h = cc
      in-types (more t ts) h = go (is_in v (sub g t)) (in-type t) (in-types ts) h
        where
          go : (b : Bool) → (b ≡ true → Forces p (var v) t ⊎ Lies p (var v) t) → (are_in v (subs g ts) ≡ true → Within ts) → (b || are_in v (subs g ts)) ≡ true → Within (more t ts)
          go true k l e = record { here = t; beside = Beside.here _ _ _ _; or = k refl }
          go false k l e = let w = l e in record { here = w.here; beside = Beside.later _ _ _ _ _ _ w.beside; or = w.or }

  is-itself : (x : ℕ) → is_in v (var x) ≡ true → Forces p (var v) (var x)
  is-itself x h = subst (λ y. Forces p (var v) (var y)) (sym (eqb-true x v h)) (Forces.same _)

  pub in-row : (g : ℕ → Typ) (x : ℕ) (e : Bool) (ks : List Label) (us : Typs) → ((t : Typ) → is_in v (sub g t) ≡ true → Forces p (var v) t ⊎ Lies p (var v) t) → IsForcedRow p (var x) e ks us → IsProper ks us → are_in v (subs g us) ≡ true → Lies p (var v) (var x)
  in-row g x e ks us r q pr h = let c = field-in v g ks us pr h in lies-field (var x) c.0 c.1 (q.has c.0 c.1 c.2) (r c.1 c.3)

  in-deep : (k x : ℕ) → is_in v (deep (aside v s) k x) ≡ true → Forces p (var v) (var x) ⊎ Lies p (var v) (var x)
  in-deep zero x h = inl (is-itself x h)
  in-deep (suc k) x h = aside-cases s v x (λ e. is_in v (resolved (deep (aside v s) k) x e) ≡ true → Forces p (var v) (var x) ⊎ Lies p (var v) (var x)) (λ h. inl (is-itself x h)) (go (s x) (i x).0 (inh x) (in-type (deep (aside v s) k) (in-deep k))) h
    where
      go : (e : Entry) → ForcedAt p x e → InhabitedAt e → ((t : Typ) → is_in v (sub (deep (aside v s) k) t) ≡ true → Forces p (var v) t ⊎ Lies p (var v) t) → is_in v (resolved (deep (aside v s) k) x e) ≡ true → Forces p (var v) (var x) ⊎ Lies p (var v) (var x)
      go (free j) q n r h = inl (is-itself x h)
      go (bound t) q n r h = back (r t h)
        where
          back : Forces p (var v) t ⊎ Lies p (var v) t → Forces p (var v) (var x) ⊎ Lies p (var v) (var x)
          back (inl e) = inl (Forces.along _ _ _ e (Forces.back _ _ q))
          back (inr e) = inr (lies-right p (var v) t (var x) e (Forces.back _ _ q))
      go (row e ks us) q n r h = inr (in-row (deep (aside v s) k) x e ks us r q n h)

  pub in-value : (a : IsAcyclic (aside v s)) (t : Typ) → is_in v (sub (sigma_of (aside v s) a) t) ≡ true → Forces p (var v) t ⊎ Lies p (var v) t
  in-value a t h = in-type (sigma_of (aside v s) a) (λ x. in-deep (a.0 x) x) t h

  pub loops-of : (x : ℕ) → Lies p (var v) (var x) → Forces p (var v) (var x) → Loops p
  loops-of x l e = record { variable = v; within = lies-right p (var v) (var x) (var v) l (Forces.back _ _ e) }

  pub loops : (a : IsAcyclic (aside v s)) (c : Symbol) (ts : Typs) → Forces p (var v) (con c ts) → is_in v (sub (sigma_of (aside v s) a) (con c ts)) ≡ true → Loops p
  loops a c ts e h = record {
    variable = v;
    within = lies-right p (var v) (con c ts) (var v) (lies-above c ts (in-types (sigma_of (aside v s) a) (λ x. in-deep (a.0 x) x) ts h)) (Forces.back _ _ e);
  }

-- v lies in the value of a type, so that its own is no larger
module _ (m : ℕ → Bool) (f : ℕ → Typ) (s : ℕ → Entry) (i : Solves m f s) (inh : AreInhabited s) (v : ℕ) where
  module _ (g : ℕ → Typ) (ih : (x : ℕ) → is_in v (g x) ≡ true → size (f v) ≤ size (f x)) where
    mutual
      size-type : (t : Typ) → is_in v (sub g t) ≡ true → size (f v) ≤ size (sub f t)
      size-type (var x) h = ih x h
      size-type (con c ts) h = let p = size-types ts h in omega arith

      size-types : (ts : Typs) → are_in v (subs g ts) ≡ true → size (f v) ≤ sizes (subs f ts)
      size-types none h = cc
      size-types (more t ts) h = go (is_in v (sub g t)) (size-type t) (size-types ts) h
        where
          go : (b : Bool) → (b ≡ true → size (f v) ≤ size (sub f t)) → (are_in v (subs g ts) ≡ true → size (f v) ≤ sizes (subs f ts)) → (b || are_in v (subs g ts)) ≡ true → size (f v) ≤ sizes (subs f (more t ts))
          go true k l e = let p = k refl in omega arith
          go false k l e = let p = l e in omega arith

  pub size-row : (g : ℕ → Typ) (y : Typ) (e : Bool) (ks : List Label) (us : Typs) → ((t : Typ) → is_in v (sub g t) ≡ true → size (f v) ≤ size (sub f t)) → Extends m e ks (subs f us) y → IsProper ks us → are_in v (subs g us) ≡ true → size (f v) < size y
  size-row g y e ks us r q pr h =
      let c = field-in v g ks us pr h in
      let b = r c.1 c.3 in
      let d = at-size c.0 (sub f c.1) q.names q.types (q.fields c.0 (sub f c.1) (at-subs f c.0 c.1 ks us c.2)) in
      let j = ap size q.is in
      omega arith

  size-deep : (k x : ℕ) → is_in v (deep (aside v s) k x) ≡ true → size (f v) ≤ size (f x)
  size-deep zero x h = let p = ap (λ y. size (f y)) (eqb-true x v h) in omega arith
  size-deep (suc k) x h = aside-cases s v x (λ e. is_in v (resolved (deep (aside v s) k) x e) ≡ true → size (f v) ≤ size (f x)) (λ h. same h) (go (s x) (i x) (inh x) (size-type (deep (aside v s) k) (size-deep k))) h
    where
      same : is_in v (var x) ≡ true → size (f v) ≤ size (f x)
      same h = let p = ap (λ y. size (f y)) (eqb-true x v h) in omega arith

      go : (e : Entry) → Meets m f (f x) e → InhabitedAt e → ((t : Typ) → is_in v (sub (deep (aside v s) k) t) ≡ true → size (f v) ≤ size (sub f t)) → is_in v (resolved (deep (aside v s) k) x e) ≡ true → size (f v) ≤ size (f x)
      go (free j) q n r h = same h
      go (bound t) q n r h = let p = r t h in let b = ap size q in omega arith
      go (row e ks us) q n r h = let p = size-row (deep (aside v s) k) (f x) e ks us r q n h in omega arith

  pub size-value : (a : IsAcyclic (aside v s)) (t : Typ) → is_in v (sub (sigma_of (aside v s) a) t) ≡ true → size (f v) ≤ size (sub f t)
  size-value a t h = size-type (sigma_of (aside v s) a) (λ x. size-deep (a.0 x) x) t h

  pub sizes-value : (a : IsAcyclic (aside v s)) (ts : Typs) → are_in v (subs (sigma_of (aside v s) a) ts) ≡ true → size (f v) ≤ sizes (subs f ts)
  sizes-value a ts h = size-types (sigma_of (aside v s) a) (λ x. size-deep (a.0 x) x) ts h

abbrev pub Refuted : (ℕ → Entry) → ℕ → Typ → Type 0
Refuted s v t = ((m : ℕ → Bool) (f : ℕ → Typ) → Solves m f s → f v ≡ sub f t → ⊥) × ((p : Problem) → IsForced p s → Forces p (var v) t × Met p (var v) × Met p t → Loops p)

in-variable : (s : ℕ → Entry) (v x : ℕ) (a : IsAcyclic (aside v s)) → AreInhabited s → x ≢ v → (e : Entry) → s x ≡ e → InhabitedAt e → is_open e ≡ true → is_in v (sigma_of (aside v s) a x) ≡ true → Refuted s v (var x)
in-variable s v x a inh ne (free k) q n o h = absurd (ne (eqb-true x v (ap (is_in v) (sym (sigma-resolves (aside v s) a x ∙ ap (resolved (sigma_of (aside v s) a) x) (aside-other s v x ne ∙ q))) ∙ h)))
in-variable s v x a inh ne (bound t) q n o h = cc
in-variable s v x a inh ne (row e ks us) q n o h =
    let g = sigma_of (aside v s) a in
    let j : are_in v (subs (sigma_of (aside v s) a) us) ≡ true = ap (is_in v) (sym (sigma-resolves (aside v s) a x ∙ ap (resolved (sigma_of (aside v s) a) x) (aside-other s v x ne ∙ q))) ∙ h in (
      λ m f i z.
          let b = size-row m f s i inh v g (f x) e ks us (size-value m f s i inh v a) (subst (Meets m f (f x)) q (i x)) n j in
          let c = ap size z in
          absurd (omega arith),
      λ p i z. loops-of p s i inh v x (in-row p s i inh v g x e ks us (in-value p s i inh v a) (subst (ForcedAt p x) q (i x).0) n j) z.0,
    )

pub circular : (s : ℕ → Entry) → IsAcyclic s → AreInhabited s → (v : ℕ) (t : Typ) → IsWalked s t → t ≢ var v → ((f : ℕ → Typ) → Resolves f (aside v s) → true ≡ is_in v (sub f t)) → Refuted s v t
circular s b inh v (var x) w ne h = let a = aside-acyclic s v b in in-variable s v x a inh (λ e. ne (ap var e)) (s x) refl (inh x) w (sym (h (sigma_of (aside v s) a) (sigma-resolves (aside v s) a)))
circular s b inh v (con c ts) w ne h =
    let a = aside-acyclic s v b in
    let j = sym (h (sigma_of (aside v s) a) (sigma-resolves (aside v s) a)) in (
      λ m f i z. let p = sizes-value m f s i inh v a ts j in let q = ap size z in absurd (omega arith),
      λ p i z. loops p s i inh v a c ts z.0 j,
    )

-- a variable within its own fields
pub circular-row : (s : ℕ → Entry) → IsAcyclic s → AreInhabited s → (v : ℕ) (ks : List Label) (us : Typs) → IsProper ks us → ((f : ℕ → Typ) → Resolves f (aside v s) → true ≡ are_in v (subs f us)) → ((m : ℕ → Bool) (f : ℕ → Typ) (e : Bool) → Solves m f s → Extends m e ks (subs f us) (f v) → ⊥) × ((p : Problem) (e : Bool) → IsForced p s → IsForcedRow p (var v) e ks us → Loops p)
circular-row s b inh v ks us n h =
    let a = aside-acyclic s v b in
    let j = sym (h (sigma_of (aside v s) a) (sigma-resolves (aside v s) a)) in (
      λ m f e i z. let p = size-row m f s i inh v (sigma_of (aside v s) a) (f v) e ks us (size-value m f s i inh v a) z n j in absurd (omega arith),
      λ p e i z. loops-of p s i inh v v (in-row p s i inh v (sigma_of (aside v s) a) v e ks us (in-value p s i inh v a) z n j) (Forces.same _),
    )
