-- Whether a variable lies in a type, with each number looked through once.
use Rattle.std.proofs.Common.{◌≡◌, ◌<◌, ◌≤◌, ℕ, zero, suc, Bool, true, false, ◌||◌, List, [], ◌∷◌, ◌++◌, length, nat_eq, refl, sym, ap, ◌∙◌, subst, arith}
use Rattle.std.proofs.lemmas.Bool.{eq-eqb, eqb-true, or_right, false≢true}
use mathlib.Core.Logic.{◌⊎◌, inl, inr}
use Rattle.ty_table.specs.of_ty_core.Types.{Typ, var, con, labels}
use Rattle.ty_table.specs.TypeAt.{type_at, types_at, top}
use Rattle.ty_solve.specs.Substitution.{Entry, aside, resolved, Resolves, sub, subs, is_in, are_in}
use Rattle.ty_solve.specs.Weight.{weight, weights, IsAcyclic}
use Rattle.ty_solve.specs.Walk.{Has, Next, Looks}
use Rattle.std.proofs.Common.{not, if◌then◌else◌}
use Rattle.std.specs.List.{list_any}
use Rattle.indexmap.specs.IndexSet.{insert_key}
use Rattle.ty_solve.proofs.Freeing.{aside-here, aside-other}
use Rattle.ty_solve.proofs.Walking.{ground-same, ground-out, next-lighter}

-- a number is accounted for: looked through, pending, or of a type with no variable
pub data Covered (ts : List Typ) (done pending : List ℕ) (k : ℕ) : Type 0 where
  looked : Has done k → Covered ts done pending k
  waits : Has pending k → Covered ts done pending k
  ground : top (type_at ts k) ≡ 0 → Covered ts done pending k

pub record Through (ts : List Typ) (s : ℕ → Entry) (v : ℕ) (done pending : List ℕ) (k : ℕ) : Type 0 where
  pub parts : List ℕ
  pub next : Next ts s k parts
  pub apart : type_at ts k ≡ var v → ⊥
  pub covered : (j : ℕ) → Has parts j → Covered ts done pending j

-- v is looked for in the types that the numbers us stand for
pub record Reaching (ts : List Typ) (s : ℕ → Entry) (v : ℕ) (us done pending : List ℕ) : Type 0 where
  pub start : (k : ℕ) → Has us k → Covered ts done pending k
  pub through : (k : ℕ) → Has done k → Through ts s v done pending k
  pub found : (f : ℕ → Typ) → Resolves f (aside v s) → (k : ℕ) → Has pending k → is_in v (sub f (type_at ts k)) ≡ true → are_in v (subs f (types_at ts us)) ≡ true

pub has-last : (l : List ℕ) (k : ℕ) → Has (l ++ k ∷ []) k
has-last [] k = inl refl
has-last (x ∷ l) k = inr (has-last l k)

pub has-front : (l r : List ℕ) (k : ℕ) → Has l k → Has (l ++ r) k
has-front [] r k h = absurd h
has-front (x ∷ l) r k (inl e) = inl e
has-front (x ∷ l) r k (inr h) = inr (has-front l r k h)

pub has-back : (l r : List ℕ) (k : ℕ) → Has r k → Has (l ++ r) k
has-back [] r k h = h
has-back (x ∷ l) r k h = inr (has-back l r k h)

pub has-either : (l r : List ℕ) (k : ℕ) → Has (l ++ r) k → Has l k ⊎ Has r k
has-either [] r k h = inr h
has-either (x ∷ l) r k (inl e) = inl (inl e)
has-either (x ∷ l) r k (inr h) = go (has-either l r k h)
  where
    go : Has l k ⊎ Has r k → Has (x ∷ l) k ⊎ Has r k
    go (inl a) = inl (inr a)
    go (inr b) = inr b

pub only : (k j : ℕ) → Has (k ∷ []) j → j ≡ k
only k j (inl e) = e
only k j (inr h) = absurd h

-- a variable that stands among arguments
among : (v : ℕ) (f : ℕ → Typ) (ts : List Typ) (ks : List ℕ) (j : ℕ) → Has ks j → is_in v (sub f (type_at ts j)) ≡ true → are_in v (subs f (types_at ts ks)) ≡ true
among v f ts [] j h i = absurd h
among v f ts (k ∷ ks) j (inl e) i = left (is_in v (sub f (type_at ts k))) (are_in v (subs f (types_at ts ks))) (ap (λ x. is_in v (sub f (type_at ts x))) (sym e) ∙ i)
  where
    left : (a b : Bool) → a ≡ true → (a || b) ≡ true
    left true b h = refl
    left false b h = cc
among v f ts (k ∷ ks) j (inr h) i = or_right (is_in v (sub f (type_at ts k))) (are_in v (subs f (types_at ts ks))) (among v f ts ks j h i)

-- what is looked at next lies within
inside : (ts : List Typ) (s : ℕ → Entry) (v k : ℕ) (ks : List ℕ) → Next ts s k ks → (type_at ts k ≡ var v → ⊥) → (f : ℕ → Typ) → Resolves f (aside v s) → (j : ℕ) → Has ks j → is_in v (sub f (type_at ts j)) ≡ true → is_in v (sub f (type_at ts k)) ≡ true
inside ts s v k ks (Next.fields x d ls p q) ne f h j a i =
    let n : (x ≡ v → ⊥) = λ e. ne (p ∙ ap var e) in
    let e : sub f (type_at ts k) ≡ con (labels ls) (subs f (types_at ts ks)) = ap (sub f) p ∙ h x ∙ ap (resolved f x) (aside-other s v x n ∙ q) in
    ap (is_in v) e ∙ among v f ts ks j a i
inside ts s v k ks (Next.ends x p q r) ne f h j a i = absurd (subst (λ l. Has l j) r a)
inside ts s v k ks (Next.stands x u p q r) ne f h j a i =
    let n : (x ≡ v → ⊥) = λ e. ne (p ∙ ap var e) in
    let e : sub f (type_at ts k) ≡ sub f (type_at ts u) = ap (sub f) p ∙ h x ∙ ap (resolved f x) (aside-other s v x n ∙ q) in
    ap (is_in v) (e ∙ ap (λ y. sub f (type_at ts y)) (sym (only u j (subst (λ l. Has l j) r a)))) ∙ i
inside ts s v k ks (Next.applied c p) ne f h j a i = ap (λ t. is_in v (sub f t)) p ∙ among v f ts ks j a i

pub reaching-first : (ts : List Typ) (s : ℕ → Entry) (v : ℕ) (us done : List ℕ) → done ≡ [] → Reaching ts s v us done us
reaching-first ts s v us done p = subst (λ d. Reaching ts s v us d us) (sym p) (record {
  start = λ k h. Covered.waits h;
  through = λ k h. absurd h;
  found = λ f h k a i. among v f ts us k a i;
})

module _ (ts : List Typ) (s : ℕ → Entry) (v : ℕ) (us done old rest : List ℕ) (k : ℕ) (e : old ≡ rest ++ k ∷ []) (g : Reaching ts s v us done old) where
  last : Has old k
  last = subst (λ l. Has l k) (sym e) (has-last rest k)

  pub hits : type_at ts k ≡ var v → (f : ℕ → Typ) → Resolves f (aside v s) → true ≡ are_in v (subs f (types_at ts us))
  hits p f h = sym (g.found f h k last (ap (λ x. is_in v (sub f x)) p ∙ ap (is_in v) (h v ∙ ap (resolved f v) (aside-here s v)) ∙ eq-eqb v v refl))

  -- old is covered by what comes after
  along : (now new : List ℕ) → Covered ts now new k → ((j : ℕ) → Has done j → Has now j) → ((j : ℕ) → Has rest j → Has new j) → (j : ℕ) → Covered ts done old j → Covered ts now new j
  along now new c a b j (Covered.looked h) = Covered.looked (a j h)
  along now new c a b j (Covered.ground z) = Covered.ground z
  along now new c a b j (Covered.waits h) = go (has-either rest (k ∷ []) j (subst (λ l. Has l j) e h))
    where
      go : Has rest j ⊎ Has (k ∷ []) j → Covered ts now new j
      go (inl i) = Covered.waits (b j i)
      go (inr i) = subst (Covered ts now new) (sym (only k j i)) c

  through-along : (now new : List ℕ) → Covered ts now new k → ((j : ℕ) → Has done j → Has now j) → ((j : ℕ) → Has rest j → Has new j) → (j : ℕ) → Has done j → Through ts s v now new j
  through-along now new c a b j h = let x = g.through j h in record { parts = x.parts; next = x.next; apart = x.apart; covered = λ i y. along now new c a b i (x.covered i y) }

  -- a number that needs no look
  pub passes : Covered ts done rest k → Reaching ts s v us done rest
  passes c = record {
    start = λ j h. along done rest c (λ i x. x) (λ i x. x) j (g.start j h);
    through = λ j h. through-along done rest c (λ j h. h) (λ j h. h) j h;
    found = λ f h j a i. g.found f h j (subst (λ l. Has l j) (sym e) (has-front rest (k ∷ []) j a)) i;
  }

  -- a number that is looked through from now on
  pub enters : (now new : List ℕ) → now ≡ done ++ k ∷ [] → Looks ts s k rest new → (type_at ts k ≡ var v → ⊥) → Reaching ts s v us now new
  enters now new d l ne =
      let c : Covered ts now new k = Covered.looked (subst (λ x. Has x k) (sym d) (has-last done k)) in
      let a : (j : ℕ) → Has done j → Has now j = λ j h. subst (λ x. Has x j) (sym d) (has-front done (k ∷ []) j h) in
      let b : (j : ℕ) → Has rest j → Has new j = λ j h. subst (λ x. Has x j) (sym l.is) (has-front rest l.parts j h) in
      record {
        start = λ j h. along now new c a b j (g.start j h);
        through = λ j h. fresh c a b j (has-either done (k ∷ []) j (subst (λ x. Has x j) d h));
        found = λ f h j x i. deeper f h j i (has-either rest l.parts j (subst (λ y. Has y j) l.is x));
      }
    where
      fresh : Covered ts now new k → ((j : ℕ) → Has done j → Has now j) → ((j : ℕ) → Has rest j → Has new j) → (j : ℕ) → Has done j ⊎ Has (k ∷ []) j → Through ts s v now new j
      fresh c a b j (inl h) = through-along now new c a b j h
      fresh c a b j (inr h) = subst (Through ts s v now new) (sym (only k j h)) (record {
        parts = l.parts;
        next = l.next;
        apart = ne;
        covered = λ i y. Covered.waits (subst (λ x. Has x i) (sym l.is) (has-back rest l.parts i y));
      })

      deeper : (f : ℕ → Typ) → Resolves f (aside v s) → (j : ℕ) → is_in v (sub f (type_at ts j)) ≡ true → Has rest j ⊎ Has l.parts j → are_in v (subs f (types_at ts us)) ≡ true
      deeper f h j i (inl x) = g.found f h j (subst (λ y. Has y j) (sym e) (has-front rest (k ∷ []) j x)) i
      deeper f h j i (inr x) = g.found f h k last (inside ts s v k l.parts l.next ne f h j x i)

-- nothing is pending
some : (v : ℕ) (f : ℕ → Typ) (w : ℕ → ℕ) (ts : List Typ) (ks : List ℕ) → are_in v (subs f (types_at ts ks)) ≡ true → (j : ℕ) × Has ks j × (is_in v (sub f (type_at ts j)) ≡ true) × (weight w (type_at ts j) ≤ weights w (types_at ts ks))
some v f w ts [] h = absurd (false≢true h)
some v f w ts (k ∷ ks) h = go (cases (is_in v (sub f (type_at ts k))) (are_in v (subs f (types_at ts ks))) h) (λ i. some v f w ts ks i)
  where
    cases : (a b : Bool) → (a || b) ≡ true → (a ≡ true) ⊎ (b ≡ true)
    cases true b h = inl refl
    cases false b h = inr h

    go : (is_in v (sub f (type_at ts k)) ≡ true) ⊎ (are_in v (subs f (types_at ts ks)) ≡ true) → (are_in v (subs f (types_at ts ks)) ≡ true → (j : ℕ) × Has ks j × (is_in v (sub f (type_at ts j)) ≡ true) × (weight w (type_at ts j) ≤ weights w (types_at ts ks))) → (j : ℕ) × Has (k ∷ ks) j × (is_in v (sub f (type_at ts j)) ≡ true) × (weight w (type_at ts j) ≤ weights w (types_at ts (k ∷ ks)))
    go (inl i) r = (k, inl refl, i, omega arith)
    go (inr i) r = let x = r i in let lt = x.3 in (x.0, inr x.1, x.2, omega arith)

module _ (ts : List Typ) (s : ℕ → Entry) (a : IsAcyclic s) (v : ℕ) (us done : List ℕ) (g : Reaching ts s v us done []) (f : ℕ → Typ) (h : Resolves f (aside v s)) where
  avoids : (n k : ℕ) → weight a.0 (type_at ts k) < n → Covered ts done [] k → is_in v (sub f (type_at ts k)) ≡ true → ⊥
  avoids zero k lt c i = omega arith
  avoids (suc n) k lt (Covered.ground z) i = ground-out v (type_at ts k) z (ap (is_in v) (sym (ground-same f (type_at ts k) z)) ∙ i)
  avoids (suc n) k lt (Covered.waits x) i = x
  avoids (suc n) k lt (Covered.looked x) i = go (g.through k x) (λ j. avoids n j)
    where
      go : Through ts s v done [] k → ((j : ℕ) → weight a.0 (type_at ts j) < n → Covered ts done [] j → is_in v (sub f (type_at ts j)) ≡ true → ⊥) → ⊥
      go r again = arm r.next
        where
          arm : Next ts s k r.parts → ⊥
          arm (Next.fields x d ls p q) =
              let ne : (x ≡ v → ⊥) = λ e. r.apart (p ∙ ap var e) in
              let e : sub f (type_at ts k) ≡ con (labels ls) (subs f (types_at ts r.parts)) = ap (sub f) p ∙ h x ∙ ap (resolved f x) (aside-other s v x ne ∙ q) in
              let y = some v f a.0 ts r.parts (ap (is_in v) (sym e) ∙ i) in
              let l = next-lighter ts s a k r.parts r.next in
              let w = y.3 in
              again y.0 (omega arith) (r.covered y.0 y.1) y.2
          arm (Next.ends x p q o) =
              let ne : (x ≡ v → ⊥) = λ e. r.apart (p ∙ ap var e) in
              let e : sub f (type_at ts k) ≡ var x = ap (sub f) p ∙ h x ∙ ap (resolved f x) (aside-other s v x ne ∙ q) in
              ne (eqb-true x v (ap (is_in v) (sym e) ∙ i))
          arm (Next.stands x u p q o) =
              let ne : (x ≡ v → ⊥) = λ e. r.apart (p ∙ ap var e) in
              let e : sub f (type_at ts k) ≡ sub f (type_at ts u) = ap (sub f) p ∙ h x ∙ ap (resolved f x) (aside-other s v x ne ∙ q) in
              let l = next-lighter ts s a k r.parts r.next in
              let w = ap (λ m. weights a.0 (types_at ts m)) o in
              again u (omega arith) (r.covered u (subst (λ m. Has m u) (sym o) (inl refl))) (ap (is_in v) (sym e) ∙ i)
          arm (Next.applied c p) =
              let y = some v f a.0 ts r.parts (ap (λ m. is_in v (sub f m)) (sym p) ∙ i) in
              let l = next-lighter ts s a k r.parts r.next in
              let w = y.3 in
              again y.0 (omega arith) (r.covered y.0 y.1) y.2

  none-found : false ≡ are_in v (subs f (types_at ts us))
  none-found = go (are_in v (subs f (types_at ts us))) refl
    where
      go : (b : Bool) → are_in v (subs f (types_at ts us)) ≡ b → false ≡ b
      go false e = refl
      go true e = let y = some v f a.0 ts us e in absurd (avoids (suc (weight a.0 (type_at ts y.0))) y.0 (omega arith) (g.start y.0 y.1) y.2)

pub reaching-ends : (ts : List Typ) (s : ℕ → Entry) (a : IsAcyclic s) (v : ℕ) (us done l : List ℕ) → length l ≡ 0 → Reaching ts s v us done l → (f : ℕ → Typ) → Resolves f (aside v s) → false ≡ are_in v (subs f (types_at ts us))
reaching-ends ts s a v us done [] e g f h = none-found ts s a v us done g f h
reaching-ends ts s a v us done (x ∷ l) e g f h = absurd (omega arith)

-- one type
pub in-one : (v : ℕ) (f : ℕ → Typ) (ts : List Typ) (t : ℕ) (empty l : List ℕ) (b : Bool) → empty ≡ [] → l ≡ empty ++ t ∷ [] → b ≡ are_in v (subs f (types_at ts l)) → b ≡ is_in v (sub f (type_at ts t))
in-one v f ts t empty l b p q h = h ∙ ap (λ x. are_in v (subs f (types_at ts x))) (q ∙ ap (λ x. x ++ t ∷ []) p) ∙ no-more (is_in v (sub f (type_at ts t)))
  where
    no-more : (a : Bool) → (a || false) ≡ a
    no-more true = refl
    no-more false = refl

-- the types of a list
pub in-list : (v : ℕ) (f : ℕ → Typ) (ts : List Typ) (us empty l : List ℕ) (b : Bool) → empty ≡ [] → l ≡ empty ++ us → b ≡ are_in v (subs f (types_at ts l)) → b ≡ are_in v (subs f (types_at ts us))
in-list v f ts us empty l b p q h = h ∙ ap (λ x. are_in v (subs f (types_at ts x))) (q ∙ ap (λ x. x ++ us) p)

-- a number that is put into a set
pub noted-new : (ks ks' : List ℕ) (k : ℕ) (b : Bool) → b ≡ not (list_any (nat_eq k) ks) → ks' ≡ insert_key nat_eq ks k → b ≡ true → ks' ≡ ks ++ k ∷ []
noted-new ks ks' k b p q e = go (list_any (nat_eq k) ks) refl
  where
    go : (c : Bool) → list_any (nat_eq k) ks ≡ c → ks' ≡ ks ++ k ∷ []
    go true i = absurd (false≢true (sym (p ∙ ap not i) ∙ e))
    go false i = q ∙ ap (λ c. if c then ks else ks ++ k ∷ []) i

held : (ks : List ℕ) (k : ℕ) → list_any (nat_eq k) ks ≡ true → Has ks k
held [] k h = absurd (false≢true h)
held (x ∷ ks) k h = go (nat_eq k x) refl (held ks k)
  where
    go : (c : Bool) → nat_eq k x ≡ c → (list_any (nat_eq k) ks ≡ true → Has ks k) → Has (x ∷ ks) k
    go true i r = inl (eqb-true k x i)
    go false i r = inr (r (sym (ap (λ c. c || list_any (nat_eq k) ks) i) ∙ h))

pub record WasHeld (ks ks' : List ℕ) (k : ℕ) : Type 0 where
  pub same : ks' ≡ ks
  pub has : Has ks k

pub noted-old : (ks ks' : List ℕ) (k : ℕ) (b : Bool) → b ≡ not (list_any (nat_eq k) ks) → ks' ≡ insert_key nat_eq ks k → b ≡ false → WasHeld ks ks' k
noted-old ks ks' k b p q e = go (list_any (nat_eq k) ks) refl
  where
    go : (c : Bool) → list_any (nat_eq k) ks ≡ c → WasHeld ks ks' k
    go true i = record { same = q ∙ ap (λ c. if c then ks else ks ++ k ∷ []) i; has = held ks k i }
    go false i = absurd (false≢true (sym e ∙ p ∙ ap not i))
