-- A walk through what an answer rests on, each node once.
use Rattle.std.proofs.Common.{◌≡◌, ℕ, zero, suc, ◌+◌, ◌<◌, ◌≤◌, List, [], ◌∷◌, ◌++◌, refl, sym, ap, ◌∙◌, subst, arith}
use mathlib.Core.Logic.{◌⊎◌, inl, inr}
use Rattle.ir_known.specs.Asked.{All, total, OpensBy}

module _ {A : Type 0} where
  -- k stands in a list
  abbrev pub Has : List A → A → Type 0
  Has [] k = ⊥
  Has (x ∷ l) k = (k ≡ x) ⊎ Has l k

  has-last : (l : List A) (k : A) → Has (l ++ k ∷ []) k
  has-last [] k = inl refl
  has-last (x ∷ l) k = inr (has-last l k)

  has-front : (l r : List A) (k : A) → Has l k → Has (l ++ r) k
  has-front [] r k h = absurd h
  has-front (x ∷ l) r k (inl e) = inl e
  has-front (x ∷ l) r k (inr h) = inr (has-front l r k h)

  has-back : (l r : List A) (k : A) → Has r k → Has (l ++ r) k
  has-back [] r k h = h
  has-back (x ∷ l) r k h = inr (has-back l r k h)

  has-either : (l r : List A) (k : A) → Has (l ++ r) k → Has l k ⊎ Has r k
  has-either [] r k h = inr h
  has-either (x ∷ l) r k (inl e) = inl (inl e)
  has-either (x ∷ l) r k (inr h) = go (has-either l r k h)
    where
      go : Has l k ⊎ Has r k → Has (x ∷ l) k ⊎ Has r k
      go (inl a) = inl (inr a)
      go (inr b) = inr b

  only : (k j : A) → Has (k ∷ []) j → j ≡ k
  only k j (inl e) = e
  only k j (inr h) = absurd h

  of-all : (P : A → Type 0) (l : List A) → All P l → (j : A) → Has l j → P j
  of-all P [] a j h = absurd h
  of-all P (x ∷ l) (p, a) j (inl e) = subst P (sym e) p
  of-all P (x ∷ l) (p, a) j (inr h) = of-all P l a j h

  to-all : (P : A → Type 0) (l : List A) → ((j : A) → Has l j → P j) → All P l
  to-all P [] f = tt
  to-all P (x ∷ l) f = (f x (inl refl), to-all P l (λ j h. f j (inr h)))

  total-append : (size : A → ℕ) (l r : List A) → total size (l ++ r) ≡ total size l + total size r
  total-append size [] r = omega arith
  total-append size (x ∷ l) r = let e = total-append size l r in omega arith

  within-total : (size : A → ℕ) (l : List A) (j : A) → Has l j → size j ≤ total size l
  within-total size [] j h = absurd h
  within-total size (x ∷ l) j (inl e) = let p = ap size e in omega arith
  within-total size (x ∷ l) j (inr h) = let r = within-total size l j h in omega arith

module _ {A : Type 0} (P : A → Type 0) (size : A → ℕ) where
  -- looked through, pending, or so
  pub data Covered (done pending : List A) (k : A) : Type 0 where
    looked : Has done k → Covered done pending k
    waits : Has pending k → Covered done pending k

  pub record Rests (done pending : List A) (k : A) : Type 0 where
    pub parts : List A
    pub whole : All P parts → P k
    pub smaller : total size parts < size k
    pub covered : (j : A) → Has parts j → Covered done pending j

  pub record Walked (t : A) (done pending : List A) : Type 0 where
    pub start : Covered done pending t
    pub through : (k : A) → Has done k → Rests done pending k
    pub needed : P t → (j : A) → Has pending j → P j

  pub walk-starts : (t : A) (done empty pending : List A) → done ≡ [] → empty ≡ [] → pending ≡ empty ++ t ∷ [] → Walked t done pending
  walk-starts t done empty pending d m p = subst (λ done. Walked t done pending) (sym d) (subst (Walked t []) (sym (p ∙ ap (λ l. l ++ t ∷ []) m)) (record {
    start = waits (inl refl);
    through = λ k h. absurd h;
    needed = λ p j h. subst P (sym (only t j h)) p;
  }))

  along : (done old rest now new : List A) (k : A) → old ≡ rest ++ k ∷ [] → Covered now new k → ((j : A) → Has done j → Has now j) → ((j : A) → Has rest j → Has new j) → (j : A) → Covered done old j → Covered now new j
  along done old rest now new k e c a b j (looked h) = looked (a j h)
  along done old rest now new k e c a b j (waits h) = go (has-either rest (k ∷ []) j (subst (λ l. Has l j) e h))
    where
      go : Has rest j ⊎ Has (k ∷ []) j → Covered now new j
      go (inl i) = waits (b j i)
      go (inr i) = subst (Covered now new) (sym (only k j i)) c

  rests-along : (done old rest now new : List A) (k : A) → old ≡ rest ++ k ∷ [] → Covered now new k → ((j : A) → Has done j → Has now j) → ((j : A) → Has rest j → Has new j) → (j : A) → Rests done old j → Rests now new j
  rests-along done old rest now new k e c a b j r = record { parts = r.parts; whole = r.whole; smaller = r.smaller; covered = λ i y. along done old rest now new k e c a b i (r.covered i y) }

  -- a node that was looked through
  pub walk-passes : (t : A) (done old rest : List A) (k : A) → old ≡ rest ++ k ∷ [] → Walked t done old → Has done k → Walked t done rest
  walk-passes t done old rest k e g h = record {
    start = along done old rest done rest k e (looked h) (λ j h. h) (λ j h. h) t g.start;
    through = λ j i. rests-along done old rest done rest k e (looked h) (λ j h. h) (λ j h. h) j (g.through j i);
    needed = λ p j i. g.needed p j (subst (λ l. Has l j) (sym e) (has-front rest (k ∷ []) j i));
  }

  -- a node that is looked through from now on
  pub walk-enters : (t : A) (done old rest now new : List A) (k : A) → old ≡ rest ++ k ∷ [] → Walked t done old → now ≡ done ++ k ∷ [] → OpensBy P size k rest new → Walked t now new
  walk-enters t done old rest now new k e g d o = record {
    start = along done old rest now new k e here a b t g.start;
    through = λ j h. fresh j (has-either done (k ∷ []) j (subst (λ l. Has l j) d h));
    needed = λ p j h. more p j (has-either rest o.parts j (subst (λ l. Has l j) o.is h));
  }
    where
      here : Covered now new k
      here = looked (subst (λ l. Has l k) (sym d) (has-last done k))

      a : (j : A) → Has done j → Has now j
      a j h = subst (λ l. Has l j) (sym d) (has-front done (k ∷ []) j h)

      b : (j : A) → Has rest j → Has new j
      b j h = subst (λ l. Has l j) (sym o.is) (has-front rest o.parts j h)

      fresh : (j : A) → Has done j ⊎ Has (k ∷ []) j → Rests now new j
      fresh j (inl h) = rests-along done old rest now new k e here a b j (g.through j h)
      fresh j (inr h) = subst (Rests now new) (sym (only k j h)) (record {
        parts = o.parts;
        whole = o.whole;
        smaller = o.smaller;
        covered = λ i y. waits (subst (λ l. Has l i) (sym o.is) (has-back rest o.parts i y));
      })

      more : P t → (j : A) → Has rest j ⊎ Has o.parts j → P j
      more p j (inl h) = g.needed p j (subst (λ l. Has l j) (sym e) (has-front rest (k ∷ []) j h))
      more p j (inr h) = of-all P o.parts (o.back (g.needed p k (subst (λ l. Has l k) (sym e) (has-last rest k)))) j h

  -- a node that isn't so
  pub walk-fails : (t : A) (done old rest : List A) (k : A) → old ≡ rest ++ k ∷ [] → Walked t done old → (P k → ⊥) → P t → ⊥
  walk-fails t done old rest k e g n p = n (g.needed p k (subst (λ l. Has l k) (sym e) (has-last rest k)))

  pub opens-lighter : (old rest new : List A) (k : A) → old ≡ rest ++ k ∷ [] → OpensBy P size k rest new → total size new < total size old
  opens-lighter old rest new k e o =
      let p = ap (total size) e ∙ total-append size rest (k ∷ []) in
      let q = ap (total size) o.is ∙ total-append size rest o.parts in
      let s = o.smaller in omega arith

  pub pop-lighter : (old rest : List A) (k : A) → old ≡ rest ++ k ∷ [] → 0 < size k → total size rest < total size old
  pop-lighter old rest k e lt = let p = ap (total size) e ∙ total-append size rest (k ∷ []) in omega arith

  -- nothing is pending
  pub walk-ends : (t : A) (done l : List A) → l ≡ [] → Walked t done l → P t
  walk-ends t done l e g = so (suc (size t)) t (omega arith) start
    where
      h : Walked t done []
      h = subst (Walked t done) e g

      start : Covered done [] t
      start = h.start

      so : (n : ℕ) (k : A) → size k < n → Covered done [] k → P k
      so zero k lt c = absurd (omega arith)
      so (suc n) k lt (waits w) = absurd w
      so (suc n) k lt (looked w) = let r = h.through k w in r.whole (to-all P r.parts (λ j i. let m = within-total size r.parts j i in let s = r.smaller in so n j (omega arith) (r.covered j i)))
