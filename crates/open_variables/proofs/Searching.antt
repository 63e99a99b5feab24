-- Types looked through by their numbers, each once, for open variables.
use Rattle.std.proofs.Common.{◌≡◌, ℕ, Bool, true, false, List, [], ◌∷◌, ◌++◌, length, refl, sym, ap, ◌∙◌, subst, arith}
use Rattle.std.proofs.lemmas.Bool.{false≢true}
use Rattle.std.specs.List.{AllByRecursion}
use mathlib.Core.Logic.{◌⊎◌, inl, inr}
use Rattle.mlc_names.specs.declared.label.Label.{Label}
use Rattle.ty_core.specs.Types.{Typ, var, con, Typs, none, more, Symbol}
use Rattle.ty_table.specs.TypeAt.{type_at, types_at, top, tops}
use Rattle.ty_solve.specs.Substitution.{Entry, free, bound, row, mark, is_open}
use Rattle.ty_solve.specs.Walk.{Has, Next, Looks}
use Rattle.ty_solve.proofs.Reaching.{Covered, has-last, has-front, has-back, has-either, only}
use Rattle.open_variables.specs.Open.{Among, Occurs, IsClosed}

-- lists of numbers

pub each-of : (P : ℕ → Type 0) (us : List ℕ) → ((k : ℕ) → Has us k → P k) → AllByRecursion P us
each-of P [] h = tt
each-of P (u ∷ us) h = (h u (inl refl), each-of P us (λ k i. h k (inr i)))

pub one-of : (P : ℕ → Type 0) (us : List ℕ) (k : ℕ) → Has us k → AllByRecursion P us → P k
one-of P [] k i h = absurd i
one-of P (u ∷ us) k (inl e) h = subst P (sym e) h.0
one-of P (u ∷ us) k (inr i) h = one-of P us k i h.1

among : (ts : List Typ) (ks : List ℕ) (j : ℕ) → Has ks j → Among (type_at ts j) (types_at ts ks)
among ts [] j h = absurd h
among ts (k ∷ ks) j (inl e) = inl (ap (type_at ts) e)
among ts (k ∷ ks) j (inr h) = inr (among ts ks j h)

-- a type of a list has a number of the list
pub record IsNumbered (ts : List Typ) (ks : List ℕ) (t : Typ) : Type 0 where
  pub number : ℕ
  pub has : Has ks number
  pub is : t ≡ type_at ts number

number-among : (ts : List Typ) (ks : List ℕ) (t : Typ) → Among t (types_at ts ks) → IsNumbered ts ks t
number-among ts [] t a = absurd a
number-among ts (k ∷ ks) t (inl e) = record { number = k; has = inl refl; is = e }
number-among ts (k ∷ ks) t (inr a) = let n = number-among ts ks t a in record { number = n.number; has = inr n.has; is = n.is }

-- a type with no variable

among-ground : (t : Typ) (ts : Typs) → Among t ts → tops ts ≡ 0 → top t ≡ 0
among-ground t none a e = absurd a
among-ground t (more u ts) (inl p) e = let q : top t ≡ top u = ap top p in omega (arith, q, e)
among-ground t (more u ts) (inr a) e = among-ground t ts a (omega (arith, e))

ground-none : (s : ℕ → Entry) (v : ℕ) (t : Typ) → Occurs s v t → top t ≡ 0 → ⊥
ground-none s v _ Occurs.itself e = omega (arith, e)
ground-none s v _ (Occurs.through x t q o) e = omega (arith, e)
ground-none s v _ (Occurs.field x b ls ts t q a o) e = omega (arith, e)
ground-none s v _ (Occurs.part h ts t a o) e = ground-none s v t o (among-ground t ts a e)

-- what is looked at next

-- a variable that stands in it stands in the type
inside : (ts : List Typ) (s : ℕ → Entry) (v k : ℕ) (ks : List ℕ) → Next ts s k ks → (j : ℕ) → Has ks j → Occurs s v (type_at ts j) → Occurs s v (type_at ts k)
inside ts s v k ks (Next.fields x e ls p q) j h o = subst (Occurs s v) (sym p) (Occurs.field x e ls (types_at ts ks) (type_at ts j) q (among ts ks j h) o)
inside ts s v k ks (Next.ends x p q r) j h o = absurd (subst (λ l. Has l j) r h)
inside ts s v k ks (Next.stands x u p q r) j h o =
    subst (Occurs s v) (sym p) (Occurs.through x (type_at ts u) q (subst (λ y. Occurs s v (type_at ts y)) (only u j (subst (λ l. Has l j) r h)) o))
inside ts s v k ks (Next.applied h p) j i o = subst (Occurs s v) (sym p) (Occurs.part h (types_at ts ks) (type_at ts j) (among ts ks j i) o)

-- and what the type stands for, or a part of it, is looked at

next-through : (ts : List Typ) (s : ℕ → Entry) (k x : ℕ) (t : Typ) (ks : List ℕ) → var x ≡ type_at ts k → s x ≡ bound t → Next ts s k ks → IsNumbered ts ks t
next-through ts s k x t ks e q (Next.fields y b ls p r) =
    let f : x ≡ y = cc in let c : bound t ≡ row b ls (types_at ts ks) = sym q ∙ ap s f ∙ r in cc
next-through ts s k x t ks e q (Next.ends y p r l) = let f : x ≡ y = cc in let c : bound t ≡ free (mark (s y)) = sym q ∙ ap s f ∙ r in cc
next-through ts s k x t ks e q (Next.stands y u p r l) =
    let f : x ≡ y = cc in
    let c : bound t ≡ bound (type_at ts u) = sym q ∙ ap s f ∙ r in
    let i : t ≡ type_at ts u = cc in
    record { number = u; has = subst (λ l. Has l u) (sym l) (inl refl); is = i }
next-through ts s k x t ks e q (Next.applied h p) = cc

next-field : (ts : List Typ) (s : ℕ → Entry) (k x : ℕ) (b : Bool) (ls : List Label) (us : Typs) (t : Typ) (ks : List ℕ) → var x ≡ type_at ts k → s x ≡ row b ls us
    → Among t us → Next ts s k ks → IsNumbered ts ks t
next-field ts s k x b ls us t ks e q a (Next.fields y d ms p r) =
    let f : x ≡ y = cc in
    let c : row b ls us ≡ row d ms (types_at ts ks) = sym q ∙ ap s f ∙ r in
    let i : us ≡ types_at ts ks = cc in
    number-among ts ks t (subst (Among t) i a)
next-field ts s k x b ls us t ks e q a (Next.ends y p r l) = let f : x ≡ y = cc in let c : row b ls us ≡ free (mark (s y)) = sym q ∙ ap s f ∙ r in cc
next-field ts s k x b ls us t ks e q a (Next.stands y u p r l) = let f : x ≡ y = cc in let c : row b ls us ≡ bound (type_at ts u) = sym q ∙ ap s f ∙ r in cc
next-field ts s k x b ls us t ks e q a (Next.applied h p) = cc

next-part : (ts : List Typ) (s : ℕ → Entry) (k : ℕ) (h : Symbol) (us : Typs) (t : Typ) (ks : List ℕ) → con h us ≡ type_at ts k → Among t us → Next ts s k ks
    → IsNumbered ts ks t
next-part ts s k h us t ks e a (Next.fields y d ms p r) = cc
next-part ts s k h us t ks e a (Next.ends y p r l) = cc
next-part ts s k h us t ks e a (Next.stands y u p r l) = cc
next-part ts s k h us t ks e a (Next.applied g p) = let i : us ≡ types_at ts ks = cc in number-among ts ks t (subst (Among t) i a)

-- a type that was looked through: it is no open variable but one that d says, and what is next is accounted for
pub record Through (ts : List Typ) (s : ℕ → Entry) (d : ℕ → Bool) (seen pending : List ℕ) (k : ℕ) : Type 0 where
  pub parts : List ℕ
  pub next : Next ts s k parts
  pub done : (v : ℕ) → type_at ts k ≡ var v → is_open (s v) ≡ true → d v ≡ true
  pub covered : (j : ℕ) → Has parts j → Covered ts seen pending j

-- the types us are looked through
pub record Searching (ts : List Typ) (s : ℕ → Entry) (d : ℕ → Bool) (us seen pending : List ℕ) : Type 0 where
  pub start : (k : ℕ) → Has us k → Covered ts seen pending k
  pub through : (k : ℕ) → Has seen k → Through ts s d seen pending k
  pub within : (k : ℕ) → Has pending k → (v : ℕ) → Occurs s v (type_at ts k) → (j : ℕ) × Has us j × Occurs s v (type_at ts j)

pub searching-first : (ts : List Typ) (s : ℕ → Entry) (d : ℕ → Bool) (us seen : List ℕ) → seen ≡ [] → Searching ts s d us seen us
searching-first ts s d us seen p = subst (λ l. Searching ts s d us l us) (sym p) (record {
  start = λ k h. Covered.waits h;
  through = λ k h. absurd h;
  within = λ k h v o. (k, h, o);
})

module _ (ts : List Typ) (s : ℕ → Entry) (d : ℕ → Bool) (us seen old rest : List ℕ) (k : ℕ) (e : old ≡ rest ++ k ∷ []) (g : Searching ts s d us seen old) where
  last : Has old k
  last = subst (λ l. Has l k) (sym e) (has-last rest k)

  -- old is covered by what comes after
  along : (now new : List ℕ) → Covered ts now new k → ((j : ℕ) → Has seen j → Has now j) → ((j : ℕ) → Has rest j → Has new j) → (j : ℕ) → Covered ts seen old j
      → Covered ts now new j
  along now new c a b j (Covered.looked h) = Covered.looked (a j h)
  along now new c a b j (Covered.ground z) = Covered.ground z
  along now new c a b j (Covered.waits h) = go (has-either rest (k ∷ []) j (subst (λ l. Has l j) e h))
    where
      go : Has rest j ⊎ Has (k ∷ []) j → Covered ts now new j
      go (inl i) = Covered.waits (b j i)
      go (inr i) = subst (Covered ts now new) (sym (only k j i)) c

  through-along : (now new : List ℕ) → Covered ts now new k → ((j : ℕ) → Has seen j → Has now j) → ((j : ℕ) → Has rest j → Has new j) → (j : ℕ) → Has seen j
      → Through ts s d now new j
  through-along now new c a b j h =
      let x = g.through j h in record { parts = x.parts; next = x.next; done = x.done; covered = λ i y. along now new c a b i (x.covered i y) }

  -- an open variable that d doesn't say
  pub hits : (v : ℕ) → type_at ts k ≡ var v → is_open (s v) ≡ true → d v ≡ false → AllByRecursion (λ j. IsClosed s d (type_at ts j)) us → ⊥
  hits v is o n all =
      let w = g.within k last v (subst (Occurs s v) (sym is) Occurs.itself) in
      false≢true (sym n ∙ one-of (λ j. IsClosed s d (type_at ts j)) us w.0 w.1 all v w.2 o)

  -- a number that needs no look
  pub passes : Covered ts seen rest k → Searching ts s d us seen rest
  passes c = record {
    start = λ j h. along seen rest c (λ i x. x) (λ i x. x) j (g.start j h);
    through = λ j h. through-along seen rest c (λ j h. h) (λ j h. h) j h;
    within = λ j a v o. g.within j (subst (λ l. Has l j) (sym e) (has-front rest (k ∷ []) j a)) v o;
  }

  -- a number that is looked through from now on
  pub enters : (now new : List ℕ) → now ≡ seen ++ k ∷ [] → Looks ts s k rest new → ((v : ℕ) → type_at ts k ≡ var v → is_open (s v) ≡ true → d v ≡ true)
      → Searching ts s d us now new
  enters now new p l f =
      let c : Covered ts now new k = Covered.looked (subst (λ x. Has x k) (sym p) (has-last seen k)) in
      let a : (j : ℕ) → Has seen j → Has now j = λ j h. subst (λ x. Has x j) (sym p) (has-front seen (k ∷ []) j h) in
      let b : (j : ℕ) → Has rest j → Has new j = λ j h. subst (λ x. Has x j) (sym l.is) (has-front rest l.parts j h) in
      record {
        start = λ j h. along now new c a b j (g.start j h);
        through = λ j h. fresh c a b j (has-either seen (k ∷ []) j (subst (λ x. Has x j) p h));
        within = λ j x v o. deeper j v o (has-either rest l.parts j (subst (λ y. Has y j) l.is x));
      }
    where
      fresh : Covered ts now new k → ((j : ℕ) → Has seen j → Has now j) → ((j : ℕ) → Has rest j → Has new j) → (j : ℕ) → Has seen j ⊎ Has (k ∷ []) j
          → Through ts s d now new j
      fresh c a b j (inl h) = through-along now new c a b j h
      fresh c a b j (inr h) = subst (Through ts s d now new) (sym (only k j h)) (record {
        parts = l.parts;
        next = l.next;
        done = f;
        covered = λ i y. Covered.waits (subst (λ x. Has x i) (sym l.is) (has-back rest l.parts i y));
      })

      deeper : (j v : ℕ) → Occurs s v (type_at ts j) → Has rest j ⊎ Has l.parts j → (i : ℕ) × Has us i × Occurs s v (type_at ts i)
      deeper j v o (inl x) = g.within j (subst (λ y. Has y j) (sym e) (has-front rest (k ∷ []) j x)) v o
      deeper j v o (inr x) = g.within k last v (inside ts s v k l.parts l.next j x o)

-- nothing is pending
module _ (ts : List Typ) (s : ℕ → Entry) (d : ℕ → Bool) (us seen : List ℕ) (g : Searching ts s d us seen []) where
  looked-at : (k : ℕ) → Covered ts seen [] k → (v : ℕ) (t : Typ) → Occurs s v t → t ≡ type_at ts k → Has seen k
  looked-at k (Covered.looked h) v t o e = h
  looked-at k (Covered.waits h) v t o e = absurd h
  looked-at k (Covered.ground z) v t o e = absurd (ground-none s v t o (ap top e ∙ z))

  is-closed : (v : ℕ) → is_open (s v) ≡ true → (t : Typ) → Occurs s v t → (k : ℕ) → t ≡ type_at ts k → Covered ts seen [] k → d v ≡ true
  is-closed v i _ Occurs.itself k e c = (g.through k (looked-at k c v (var v) Occurs.itself e)).done v (sym e) i
  is-closed v i _ (Occurs.through x t q o) k e c =
      let r = g.through k (looked-at k c v (var x) (Occurs.through x t q o) e) in
      let n = next-through ts s k x t r.parts e q r.next in
      is-closed v i t o n.number n.is (r.covered n.number n.has)
  is-closed v i _ (Occurs.field x b ls fs t q a o) k e c =
      let r = g.through k (looked-at k c v (var x) (Occurs.field x b ls fs t q a o) e) in
      let n = next-field ts s k x b ls fs t r.parts e q a r.next in
      is-closed v i t o n.number n.is (r.covered n.number n.has)
  is-closed v i _ (Occurs.part h fs t a o) k e c =
      let r = g.through k (looked-at k c v (con h fs) (Occurs.part h fs t a o) e) in
      let n = next-part ts s k h fs t r.parts e a r.next in
      is-closed v i t o n.number n.is (r.covered n.number n.has)

  all-closed : AllByRecursion (λ j. IsClosed s d (type_at ts j)) us
  all-closed = each-of (λ j. IsClosed s d (type_at ts j)) us (λ k h v o i. is-closed v i (type_at ts k) o k refl (g.start k h))

pub searching-ends : (ts : List Typ) (s : ℕ → Entry) (d : ℕ → Bool) (us seen l : List ℕ) → length l ≡ 0 → Searching ts s d us seen l
    → AllByRecursion (λ j. IsClosed s d (type_at ts j)) us
searching-ends ts s d us seen [] e g = all-closed ts s d us seen g
searching-ends ts s d us seen (x ∷ l) e g = absurd (omega (arith, e))
