-- The fields of two rows, and of a row and a record.
use Rattle.std.proofs.Common.{◌≡◌, ◌≢◌, ◌≤◌, ℕ, Bool, true, false, ◌||◌, List, [], ◌∷◌, refl, sym, ap, ◌∙◌, subst, arith}
use Rattle.std.proofs.lemmas.Bool.{false≢true, or_right}
use mathlib.Core.Logic.{◌⊎◌, inl, inr}
use Rattle.mlc_names.specs.declared.label.Label.{Label}
use Rattle.ty_table.specs.of_ty_core.Types.{Symbol, arrow, labels, name, Typ, var, con, Typs, none, more, admits}
use Rattle.ty_table.specs.of_ty_core.declared.name.TyName.{TyName}
use Rattle.ty_solve.specs.Rows.{Among, At, IsProper, Extends}
use Rattle.ty_solve.specs.Substitution.{Entry, sub, subs}
use Rattle.ty_solve.specs.Forces.{Problem, Forces, Has, Asks, Strict, Clashes, Met, Beside, IsForcedRow}
use Rattle.ty_solve.specs.Changes.{row_rank, RefusesRow}
use Rattle.ty_solve.specs.Fields.{FieldsMeet, OthersAdmit, IsUnion, Joins, Closes, IsLacking}
use Rattle.ty_solve.specs.Task.{Task}
use Rattle.ty_solve.specs.Rows.{Known}
use Rattle.ty_solve.specs.declared.refused.UnifyRefused.TheVariants.{Clash}
use Rattle.ty_solve.proofs.Subs.{parts_of}
use Rattle.ty_solve.proofs.Labels.{among-cases, at-among, among-at, at-unique, at-subs, subs-at, proper-subs, unsubs-proper}
use Rattle.ty_solve.proofs.Extending.{Field, has, once, others}

or-cases : (a b : Bool) → (a || b) ≡ true → (a ≡ true) ⊎ (b ≡ true)
or-cases true b h = inl refl
or-cases false b h = inr h

or-left : (a b : Bool) → a ≡ true → (a || b) ≡ true
or-left true b h = refl
or-left false b h = absurd (false≢true h)

pub or-then : (a b z : Bool) → a ≡ true → z ≡ true → z ≡ (a || b)
or-then true b z p q = q
or-then false b z p q = absurd (false≢true p)

pub or-else : (a b z : Bool) → a ≡ false → z ≡ b → z ≡ (a || b)
or-else true b z p q = cc
or-else false b z p q = q

rank-or : (a b : Bool) → row_rank (a || b) ≤ row_rank a
rank-or true b = omega arith
rank-or false true = omega arith
rank-or false false = omega arith

-- what is asked where two rows meet
abbrev Common : (ℕ → Typ) → List Label → Typs → List Label → Typs → Type 0
Common f ls ts ks us = (l : Label) (t u : Typ) → At l t ls ts → At l u ks us → sub f t ≡ sub f u

abbrev Others : (ℕ → Bool) → (ℕ → Typ) → Bool → List Label → Typs → List Label → Type 0
Others m f e ls ts ks = e ≡ true → (l : Label) (t : Typ) → At l t ls ts → (Among l ks → ⊥) → admits m (sub f t) ≡ true

module _ (ls : List Label) (ts : Typs) (ks : List Label) (us : Typs) (js : List Label) (vs : Typs) (n : IsUnion ls ts ks us js vs) (pl : IsProper ls ts) (pk : IsProper ks us) where
  not-in : (l : Label) → (Among l ls → ⊥) → (Among l ks → ⊥) → Among l js → ⊥
  not-in l a b h = let q = among-at l js vs n.proper h in go q.0 ((n.at l q.0).0 q.1)
    where
      go : (t : Typ) → At l t ls ts ⊎ (At l t ks us × (Among l ls → ⊥)) → ⊥
      go t (inl x) = a (at-among l t ls ts x)
      go t (inr x) = b (at-among l t ks us x.0)

  in-left : (l : Label) → Among l ls → Among l js
  in-left l h = let q = among-at l ls ts pl h in at-among l q.0 js vs ((n.at l q.0).1 (inl q.1))

  in-right : (l : Label) → Among l ks → Among l js
  in-right l h = go (among-cases l ls)
    where
      go : Among l ls ⊎ (Among l ls → ⊥) → Among l js
      go (inl a) = in-left l a
      go (inr a) = let q = among-at l ks us pk h in at-among l q.0 js vs ((n.at l q.0).1 (inr (q.1, a)))

  module _ (m : ℕ → Bool) (f : ℕ → Typ) (d e : Bool) (t : Typ) where
    pub both-rows : Extends m d ls (subs f ts) t → Extends m e ks (subs f us) t → Extends m (d || e) js (subs f vs) t
    both-rows a b = record {
      names = a.names;
      types = a.types;
      is = a.is;
      proper = a.proper;
      fields = λ l x h. let q = subs-at f l x js vs h in subst (λ y. At l y a.names a.types) (sym q.2) (field l q.0 ((n.at l q.0).0 q.1));
      further = λ i l x h na. go l x h na (or-cases d e i);
    }
      where
        field : (l : Label) (u : Typ) → At l u ls ts ⊎ (At l u ks us × (Among l ls → ⊥)) → At l (sub f u) a.names a.types
        field l u (inl x) = a.fields l (sub f u) (at-subs f l u ls ts x)
        field l u (inr x) = subst (λ y. Field y l (sub f u)) a.is (has m e ks (subs f us) t b l (sub f u) (at-subs f l u ks us x.0))

        go : (l : Label) (x : Typ) → At l x a.names a.types → (Among l js → ⊥) → (d ≡ true) ⊎ (e ≡ true) → admits m x ≡ true
        go l x h na (inl i) = a.further i l x h (λ k. na (in-left l k))
        go l x h na (inr i) = others m e ks (subs f us) t b i l x (subst (λ y. Field y l x) (sym a.is) h) (λ k. na (in-right l k))

    pub left-others : Extends m d ls (subs f ts) t → Extends m e ks (subs f us) t → Others m f d ks us ls
    left-others a b i l u h na = others m d ls (subs f ts) t a i l (sub f u) (has m e ks (subs f us) t b l (sub f u) (at-subs f l u ks us h)) na

    pub right-others : Extends m d ls (subs f ts) t → Extends m e ks (subs f us) t → Others m f e ls ts ks
    right-others a b i l u h na = others m e ks (subs f us) t b i l (sub f u) (has m d ls (subs f ts) t a l (sub f u) (at-subs f l u ls ts h)) na

    pub in-common : Extends m d ls (subs f ts) t → Extends m e ks (subs f us) t → Common f ls ts ks us
    in-common a b l x u h k = once m d ls (subs f ts) t a l (sub f x) (sub f u) (has m d ls (subs f ts) t a l (sub f x) (at-subs f l x ls ts h)) (has m e ks (subs f us) t b l (sub f u) (at-subs f l u ks us k))

    pub left-row : Extends m (d || e) js (subs f vs) t → Others m f d ks us ls → Extends m d ls (subs f ts) t
    left-row x o = record {
      names = x.names;
      types = x.types;
      is = x.is;
      proper = x.proper;
      fields = λ l y h. let q = subs-at f l y ls ts h in subst (λ z. At l z x.names x.types) (sym q.2) (field l q.0 q.1);
      further = λ i l y h na. go i l y h na (among-cases l ks);
    }
      where
        field : (l : Label) (u : Typ) → At l u ls ts → At l (sub f u) x.names x.types
        field l u h = x.fields l (sub f u) (at-subs f l u js vs ((n.at l u).1 (inl h)))

        go : d ≡ true → (l : Label) (y : Typ) → At l y x.names x.types → (Among l ls → ⊥) → Among l ks ⊎ (Among l ks → ⊥) → admits m y ≡ true
        go i l y h na (inl k) =
            let q = among-at l ks us pk k in
            let r = x.fields l (sub f q.0) (at-subs f l q.0 js vs ((n.at l q.0).1 (inr (q.1, na)))) in
            ap (admits m) (at-unique l y (sub f q.0) x.names x.types x.proper h r) ∙ o i l q.0 q.1 na
        go i l y h na (inr k) = x.further (or-left d e i) l y h (not-in l na k)

    pub right-row : Extends m (d || e) js (subs f vs) t → Others m f e ls ts ks → Common f ls ts ks us → Extends m e ks (subs f us) t
    right-row x o c = record {
      names = x.names;
      types = x.types;
      is = x.is;
      proper = x.proper;
      fields = λ l y h. let q = subs-at f l y ks us h in subst (λ z. At l z x.names x.types) (sym q.2) (field l q.0 q.1 (among-cases l ls));
      further = λ i l y h na. go i l y h na (among-cases l ls);
    }
      where
        field : (l : Label) (u : Typ) → At l u ks us → Among l ls ⊎ (Among l ls → ⊥) → At l (sub f u) x.names x.types
        field l u h (inl k) =
            let q = among-at l ls ts pl k in
            subst (λ z. At l z x.names x.types) (c l q.0 u q.1 h) (x.fields l (sub f q.0) (at-subs f l q.0 js vs ((n.at l q.0).1 (inl q.1))))
        field l u h (inr k) = x.fields l (sub f u) (at-subs f l u js vs ((n.at l u).1 (inr (h, k))))

        go : e ≡ true → (l : Label) (y : Typ) → At l y x.names x.types → (Among l ks → ⊥) → Among l ls ⊎ (Among l ls → ⊥) → admits m y ≡ true
        go i l y h na (inl k) =
            let q = among-at l ls ts pl k in
            let r = x.fields l (sub f q.0) (at-subs f l q.0 js vs ((n.at l q.0).1 (inl q.1))) in
            ap (admits m) (at-unique l y (sub f q.0) x.names x.types x.proper h r) ∙ o i l q.0 q.1 na
        go i l y h na (inr k) = x.further (or_right d e i) l y h (not-in l k na)

  both-forced : (p : Problem) (t : Typ) (d e : Bool) → IsForcedRow p t d ls ts → IsForcedRow p t e ks us → IsForcedRow p t (d || e) js vs
  both-forced p t d e a b = record {
    is_record = a.is_record;
    has = λ l u h. field l u ((n.at l u).0 h);
    strict = λ i. go (or-cases d e i);
  }
    where
      field : (l : Label) (u : Typ) → At l u ls ts ⊎ (At l u ks us × (Among l ls → ⊥)) → Has p t l u
      field l u (inl x) = a.has l u x
      field l u (inr x) = b.has l u x.0

      go : (d ≡ true) ⊎ (e ≡ true) → Strict p t js
      go (inl i) = Strict.fewer t ls js (a.strict i) in-left
      go (inr i) = Strict.fewer t ks js (b.strict i) in-right

pub joins : (old t1 t2 new : List Task) (a b r : Known) → IsProper a.labels a.types → IsProper b.labels b.types → OthersAdmit a.equality old t1 b.labels b.types a.labels → OthersAdmit b.equality t1 t2 a.labels a.types b.labels → FieldsMeet t2 new a.labels a.types b.labels b.types → r.equality ≡ (a.equality || b.equality) → IsUnion a.labels a.types b.labels b.types r.labels r.types → Joins old new a b r
joins old t1 t2 new a b r pa pb o1 o2 c q n = record {
  same = λ m f t. (
    λ h.
        let x = subst (λ z. Extends m z r.labels (subs f r.types) t) q h.1 in
        let k1 = (c.same m f).0 h.0 in
        let k2 = (o2.same m f).0 k1.0 in
        let k3 = (o1.same m f).0 k2.0 in
        (k3.0, left-row _ _ _ _ _ _ n pa pb m f a.equality b.equality t x k3.1, right-row _ _ _ _ _ _ n pa pb m f a.equality b.equality t x k2.1 k1.1),
    λ h. (
      (c.same m f).1 ((o2.same m f).1 ((o1.same m f).1 (h.0, left-others _ _ _ _ _ _ n pa pb m f a.equality b.equality t h.1 h.2), right-others _ _ _ _ _ _ n pa pb m f a.equality b.equality t h.1 h.2), in-common _ _ _ _ _ _ n pa pb m f a.equality b.equality t h.1 h.2),
      subst (λ z. Extends m z r.labels (subs f r.types) t) (sym q) (both-rows _ _ _ _ _ _ n pa pb m f a.equality b.equality t h.1 h.2),
    ),
  );
  forced = λ p t h x y. (
    c.forced p (o2.forced p (o1.forced p h (λ i l u k na. (Asks.rest a.labels t l u (x.row.strict i) (y.row.has l u k) na, y.fields l u k))) (λ i l u k na. (Asks.rest b.labels t l u (y.row.strict i) (x.row.has l u k) na, x.fields l u k))) (λ l u w k j. (Forces.meet t l u w (x.row.has l u k) (y.row.has l w j), x.fields l u k, y.fields l w j)),
    record {
      row = subst (λ z. IsForcedRow p t z r.labels r.types) (sym q) (both-forced _ _ _ _ _ _ n pa pb p t a.equality b.equality x.row y.row);
      here = x.here;
      fields = λ l u k. either p l u (x.fields l u) (y.fields l u) ((n.at l u).0 k);
    },
  );
  all = λ m f t x y. subst (λ z. Extends m z r.labels (subs f r.types) t) (sym q) (both-rows _ _ _ _ _ _ n pa pb m f a.equality b.equality t x y);
  all_forced = λ p t x y. subst (λ z. IsForcedRow p t z r.labels r.types) (sym q) (both-forced _ _ _ _ _ _ n pa pb p t a.equality b.equality x y);
  within = λ k h x y. c.within k (o2.within k (o1.within k h y.below) x.below) x.below y.below;
  fit = λ k x y. record { below = n.below k x.below y.below; proper = n.proper };
  lower = subst (λ z. row_rank z ≤ row_rank a.equality) (sym q) (rank-or a.equality b.equality);
  stay = λ x y w. c.stay x y (o2.stay x y (o1.stay x y w));
}
  where
    either : (p : Problem) (l : Label) (u : Typ) → (At l u a.labels a.types → Met p u) → (At l u b.labels b.types → Met p u) → At l u a.labels a.types ⊎ (At l u b.labels b.types × (Among l a.labels → ⊥)) → Met p u
    either p l u x y (inl h) = x h
    either p l u x y (inr h) = y h.0

pub at-beside : (l : Label) (t : Typ) (ls : List Label) (ts : Typs) → At l t ls ts → Beside t t ts ts
at-beside l t [] ts a = absurd a
at-beside l t (k ∷ ls) none a = absurd a
at-beside l t (k ∷ ls) (more u ts) (inl e) = subst (λ x. Beside x x (more u ts) (more u ts)) (sym e.1) (Beside.here _ _ _ _)
at-beside l t (k ∷ ls) (more u ts) (inr a) = Beside.later _ _ _ _ _ _ (at-beside l t ls ts a)

-- a row and a record
pub closes : (old mid new : List Task) (r : Known) (ls : List Label) (ts : Typs) → IsProper ls ts → ((l : Label) → Among l r.labels → Among l ls) → FieldsMeet old mid ls ts r.labels r.types → OthersAdmit r.equality mid new ls ts r.labels → Closes old new r (con (labels ls) ts)
closes old mid new r ls ts p a c o = record {
  same = λ m f. (
    λ h.
        let k1 = (o.same m f).0 h in
        let k2 = (c.same m f).0 k1.0 in (
          k2.0,
          record {
            names = ls;
            types = subs f ts;
            is = refl;
            proper = proper-subs f ls ts p;
            fields = λ l x h. let q = subs-at f l x r.labels r.types h in field m f k2.1 l x q.0 q.1 q.2;
            further = λ i l x h na. let q = subs-at f l x ls ts h in ap (admits m) q.2 ∙ k1.1 i l q.0 q.1 na;
          },
        ),
    λ h. (o.same m f).1 (
      (c.same m f).1 (h.0, λ l t u k j. once m _ _ _ _ h.1 l (sub f t) (sub f u) (at-subs f l t ls ts k) (has m _ _ _ _ h.1 l (sub f u) (at-subs f l u r.labels r.types j))),
      λ i l t k na. others m _ _ _ _ h.1 i l (sub f t) (at-subs f l t ls ts k) na,
    ),
  );
  forced = λ q h x. o.forced q (c.forced q h (λ l t u k j. (Forces.field ls ts l t u (x.row.has l u j) k, Met.part (labels ls) ts t x.here (at-beside l t ls ts k), x.fields l u j))) (λ i l t k na. (Asks.further r.labels ls ts l t (x.row.strict i) k na, Met.part (labels ls) ts t x.here (at-beside l t ls ts k)));
  within = λ n h x y. o.within n (c.within n h y x) y;
  stay = λ x y w. o.stay x y (c.stay x y w);
}
  where
    field : (m : ℕ → Bool) (f : ℕ → Typ) → Common f ls ts r.labels r.types → (l : Label) (x u : Typ) → At l u r.labels r.types → x ≡ sub f u → At l x ls (subs f ts)
    field m f c l x u h e =
        let q = among-at l ls ts p (a l (at-among l u r.labels r.types h)) in
        subst (λ z. At l z ls (subs f ts)) (c l q.0 u q.1 h ∙ sym e) (at-subs f l q.0 ls ts q.1)

abbrev names_of : Typ → List Label
names_of (var v) = []
names_of (con arrow ts) = []
names_of (con (labels ls) ts) = ls
names_of (con (name n) ts) = []

pub improper-clash : (s : ℕ → Entry) (r : Known) (ls : List Label) (ts : Typs) → (IsProper ls ts → ⊥) → RefusesRow s r (con (labels ls) ts) Clash
improper-clash s r ls ts ne = (
  λ m f i x. ne (unsubs-proper f ls ts (subst (λ z. IsProper z (subs f ts)) (sym (ap names_of x.is)) (subst (IsProper x.names) (sym (ap parts_of x.is)) x.proper))),
  λ p i x. Clashes.improper ls ts x.row.is_record ne,
)

pub lacking-clash : (s : ℕ → Entry) (r : Known) (ls : List Label) (ts : Typs) (l : Label) → IsProper r.labels r.types → IsLacking r.labels ls l → RefusesRow s r (con (labels ls) ts) Clash
lacking-clash s r ls ts l pr k =
    let q = among-at l r.labels r.types pr k.among in (
      λ m f i x. k.missing (at-among l (sub f q.0) ls (subs f ts) (has m _ _ _ _ x l (sub f q.0) (at-subs f l q.0 r.labels r.types q.1))),
      λ p i x. Clashes.lacks ls ts l q.0 (x.row.has l q.0 q.1) k.missing,
    )

pub no-record-clash : (s : ℕ → Entry) (r : Known) (h : Symbol) (ts : Typs) → ((ls : List Label) → h ≢ labels ls) → RefusesRow s r (con h ts) Clash
no-record-clash s r h ts ne = (
  λ m f i x. ne x.names (ap symbol_of x.is),
  λ p i x. Clashes.no_record h ts x.row.is_record ne,
)
  where
    symbol_of : Typ → Symbol
    symbol_of (var v) = h
    symbol_of (con g ts) = g

pub function-clash : (s : ℕ → Entry) (r : Known) (h : Symbol) (ts : Typs) → h ≡ arrow → RefusesRow s r (con h ts) Clash
function-clash s r h ts e = no-record-clash s r h ts (λ ls p. let q = sym e ∙ p in cc)

pub name-clash : (s : ℕ → Entry) (r : Known) (h : Symbol) (n : TyName) (ts : Typs) → h ≡ name n → RefusesRow s r (con h ts) Clash
name-clash s r h n ts e = no-record-clash s r h ts (λ ls p. let q = sym e ∙ p in cc)
