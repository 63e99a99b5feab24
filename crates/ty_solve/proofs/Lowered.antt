-- Limits on their way to those that never rise.
use Rattle.std.proofs.Common.{◌≡◌, ◌<◌, ◌≤◌, ℕ, Bool, true, List, [], ◌∷◌, ◌++◌, refl, sym, ap, ◌∙◌, subst, arith}
use Rattle.std.proofs.lemmas.Bool.{cases_eq, ltb-true, lt-ltb, and_from}
use mathlib.Core.Logic.{◌⊎◌, inl, inr}
use Rattle.ty_table.specs.of_ty_core.Types.{Typ, var, con, Typs, none, more, Symbol, arrow, labels, name}
use Rattle.ty_table.specs.of_ty_core.declared.name.TyName.{TyName}
use Rattle.ty_table.specs.TypeAt.{type_at, types_at}
use Rattle.ty_solve.specs.Substitution.{Entry, free, bound, row, sub, subs, are_below, Meets, Solves}
use Rattle.ty_solve.specs.SlotsOf.{look, entries, entry_of, seen}
use Rattle.ty_solve.specs.Forces.{Problem, Forces, Lies, Met, EntryMet, Beside, ForcedAt, LeftAt, IsForced}
use Rattle.ty_solve.specs.Solve.{problem, undo, IsMostGeneral}
use Rattle.ty_solve.specs.Walk.{Has, LooksInRow, LooksUnder}
use Rattle.ty_solve.specs.Weight.{BelowAt, InhabitedAt}
use Rattle.ty_solve.specs.Limits.{SymbolOver, Over, AllOver, limit_at, NoFurther, Limited, AllLimited, LimitedAt, AreLimited, IsCauseWithin}
use Rattle.ty_solve.specs.Lowering.{together, PartOf, Under, Above, Lowering, Fell, LowersType, RefusesIn, RefusesLimits, IsSettled, variables}
use Rattle.ty_solve.specs.declared.limit.Limit.{Limit}
use Rattle.ty_solve.specs.declared.trail.Kept.{Kept}
use Rattle.ty_solve.specs.declared.subst.Slot.{Slot}
use Rattle.ty_solve.specs.declared.refused.UnifyRefused.{UnifyRefused}
use Rattle.ty_solve.specs.declared.refused.UnifyRefused.TheVariants.{Clash, Circular, Large, Memory}
use Rattle.ty_solve.proofs.Circular.{lies-right}
use Rattle.ty_solve.proofs.RowArms.{entry-met}
use Rattle.ty_solve.proofs.Joining.{at-beside}
use Rattle.ty_solve.proofs.Labels.{at-subs, beside-at}
use Rattle.ty_solve.proofs.Subs.{parts_of, head_of, tail_of}
use Rattle.ty_solve.proofs.Look.{look-set-other}
use Rattle.ty_solve.proofs.Slots.{entries-set}
use Rattle.ty_solve.proofs.Falling.{further-same, further-along}
use Rattle.ty_solve.proofs.Reaching.{has-either, only}

-- what holds of a type holds of what stands in it
pub all-beside : (P : Typ → Type 0) (Q : Typs → Type 0) → ((t : Typ) (ts : Typs) → Q (more t ts) → P t × Q ts) → (t u : Typ) (ts us : Typs) → Beside t u ts us → Q ts → P t
all-beside P Q g t u (more x ts) (more y us) (Beside.here _ _ _ _) h = (g t ts h).0
all-beside P Q g t u (more x ts) (more y us) (Beside.later _ _ _ _ _ _ b) h = all-beside P Q g t u ts us b (g x ts h).1
all-beside P Q g t u none us b h = elim b [ ]
all-beside P Q g t u (more x ts) none b h = elim b [ ]

limited-part : (b : ℕ → Limit) (l : Limit) (t u : Typ) → PartOf t u → Limited b l t → Limited b l u
limited-part b l t _ PartOf.whole h = h
limited-part b l t _ (PartOf.part c ts u q i) h = all-beside (Limited b l) (AllLimited b l) (λ t ts k. k) u u ts ts i (limited-part b l t (con c ts) q h).1

over-part : (n : ℕ) (f : ℕ → Typ) (t u : Typ) → PartOf t u → Over n (sub f t) → Over n (sub f u)
over-part n f t _ PartOf.whole h = h
over-part n f t _ (PartOf.part c ts u q i) h = all-beside (λ t. Over n (sub f t)) (λ ts. AllOver n (subs f ts)) (λ t ts k. k) u u ts ts i (over-part n f t (con c ts) q h).1

met-part : (p : Problem) (t u : Typ) → PartOf t u → Met p t → Met p u
met-part p t _ PartOf.whole h = h
met-part p t _ (PartOf.part c ts u q i) h = Met.part c ts u (met-part p t (con c ts) q h) i

-- t is equal to u, or lies in it
abbrev In : Problem → Typ → Typ → Type 0
In p t u = Forces p u t ⊎ Lies p t u

in-along : (p : Problem) (t u x : Typ) → In p t u → In p u x → In p t x
in-along p t u x (inl a) (inl b) = inl (Forces.along x u t b a)
in-along p t u x (inl a) (inr b) = inr (Lies.along t u x (Forces.back _ _ a) b)
in-along p t u x (inr a) (inl b) = inr (lies-right p t u x a (Forces.back _ _ b))
in-along p t u x (inr a) (inr b) = inr (Lies.deeper t u x a b)

in-part : (p : Problem) (t u : Typ) → PartOf t u → In p u t
in-part p t _ PartOf.whole = inl (Forces.same t)
in-part p t _ (PartOf.part c ts u q i) = in-along p u (con c ts) t (inr (Lies.part c ts u (con c ts) (Forces.same _) i)) (in-part p t (con c ts) q)

-- what stands in the types of a list stands in one of them
split-on : (T : Typ) (h : Symbol) (us : Typs) (c : Symbol) (ts : Typs) (u : Typ) → T ≡ con h us → Beside u u ts ts → (con c ts ≡ T) ⊎ ((t : Typ) × Beside t t us us × PartOf t (con c ts)) → (u ≡ T) ⊎ ((t : Typ) × Beside t t us us × PartOf t u)
split-on T h us c ts u e i (inl p) = inr (u, subst (λ z. Beside u u z z) (ap parts_of (p ∙ e)) i, PartOf.whole)
split-on T h us c ts u e i (inr r) = inr (r.0, r.1, PartOf.part c ts u r.2 i)

split : (T : Typ) (h : Symbol) (us : Typs) (u : Typ) → T ≡ con h us → PartOf T u → (u ≡ T) ⊎ ((t : Typ) × Beside t t us us × PartOf t u)
split T h us _ e PartOf.whole = inl refl
split T h us _ e (PartOf.part c ts u q i) = split-on T h us c ts u e i (split T h us (con c ts) e q)

variable-in : (us : Typs) (x : ℕ) → PartOf (together us) (var x) → (t : Typ) × Beside t t us us × PartOf t (var x)
variable-in us x q = go (split (together us) (labels []) us (var x) refl q)
  where
    go : (var x ≡ together us) ⊎ ((t : Typ) × Beside t t us us × PartOf t (var x)) → (t : Typ) × Beside t t us us × PartOf t (var x)
    go (inl e) = cc
    go (inr r) = r

name-in : (us : Typs) (n : TyName) (ts : Typs) → PartOf (together us) (con (name n) ts) → (t : Typ) × Beside t t us us × PartOf t (con (name n) ts)
name-in us n ts q = go (split (together us) (labels []) us (con (name n) ts) refl q)
  where
    go : (con (name n) ts ≡ together us) ⊎ ((t : Typ) × Beside t t us us × PartOf t (con (name n) ts)) → (t : Typ) × Beside t t us us × PartOf t (con (name n) ts)
    go (inl e) = cc
    go (inr r) = r

-- what stands right below a variable
over-under : (m : ℕ → Bool) (f : ℕ → Typ) (n : ℕ) (y t : Typ) (e : Entry) → Meets m f y e → Under e t → Over n y → Over n (sub f t)
over-under m f n y t (free k) g u h = absurd u
over-under m f n y t (bound x) g u h = subst (λ z. Over n (sub f z)) (sym u) (subst (Over n) g h)
over-under m f n y t (row e ks us) g u h = all-beside (Over n) (AllOver n) (λ t ts k. k) (sub f t) (sub f t) g.types g.types (at-beside u.0 (sub f t) g.names g.types (g.fields u.0 (sub f t) (at-subs f u.0 t ks us u.1))) (subst (Over n) g.is h).1

limited-under : (b : ℕ → Limit) (l : Limit) (e : Entry) (t : Typ) → Under e t → LimitedAt b l e → Limited b l t
limited-under b l (free k) t u h = absurd u
limited-under b l (bound x) t u h = subst (Limited b l) (sym u) h
limited-under b l (row e ks us) t u h = all-beside (Limited b l) (AllLimited b l) (λ t ts k. k) t t us us (at-beside u.0 t ks us u.1) h

in-under : (p : Problem) (v : ℕ) (e : Entry) (t : Typ) → ForcedAt p v e → Under e t → In p t (var v)
in-under p v (free k) t g u = absurd u
in-under p v (bound x) t g u = inl (subst (Forces p (var v)) (sym u) g)
in-under p v (row e ks us) t g u = inr (Lies.field (var v) u.0 t (g.has u.0 t u.1))

met-under : (p : Problem) (e : Entry) (t : Typ) → EntryMet p e → Under e t → Met p t
met-under p (free k) t g u = absurd u
met-under p (bound x) t g u = subst (Met p) (sym u) g
met-under p (row e ks us) t g u = g u.0 t u.1

module _ (s : ℕ → Entry) where
  above-over : (m : ℕ → Bool) (f : ℕ → Typ) → Solves m f s → (n u v : ℕ) → Above s u v → Over n (f u) → Over n (f v)
  above-over m f i n u _ Above.itself h = h
  above-over m f i n u _ (Above.inner v y t a e q) h = over-part n f t (var y) q (over-under m f n (f v) t (s v) (i v) e (above-over m f i n u v a h))

  above-in : (p : Problem) → IsForced p s → (u v : ℕ) → Above s u v → In p (var v) (var u)
  above-in p i u _ Above.itself = inl (Forces.same _)
  above-in p i u _ (Above.inner v y t a e q) = in-along p (var y) (var v) (var u) (in-along p (var y) t (var v) (in-part p t (var y) q) (in-under p v (s v) t (i v).0 e)) (above-in p i u v a)

-- lower limits
mutual
  limited-lower : (b b' : ℕ → Limit) → ((x : ℕ) → NoFurther (b' x) (b x)) → (l : Limit) (t : Typ) → Limited b l t → Limited b' l t
  limited-lower b b' d l (var v) h = further-along _ _ _ (d v) h
  limited-lower b b' d l (con c ts) h = (h.0, all-limited-lower b b' d l ts h.1)

  all-limited-lower : (b b' : ℕ → Limit) → ((x : ℕ) → NoFurther (b' x) (b x)) → (l : Limit) (ts : Typs) → AllLimited b l ts → AllLimited b' l ts
  all-limited-lower b b' d l none h = tt
  all-limited-lower b b' d l (more t ts) h = (limited-lower b b' d l t h.0, all-limited-lower b b' d l ts h.1)

at-lower : (b b' : ℕ → Limit) → ((x : ℕ) → NoFurther (b' x) (b x)) → (l : Limit) (e : Entry) → LimitedAt b l e → LimitedAt b' l e
at-lower b b' d l (free k) h = tt
at-lower b b' d l (bound t) h = limited-lower b b' d l t h
at-lower b b' d l (row e ks us) h = all-limited-lower b b' d l us h

-- one variable is looked at
module _ (p : Problem) (s : ℕ → Entry) (i : IsForced p s) (first : ℕ → Limit) (old new : List Limit) (rest noted now : List ℕ) (v : ℕ) (e : noted ≡ rest ++ v ∷ []) (g : Lowering p s first (limit_at old) noted) where
  -- it stands for nothing
  pub under-open : LimitedAt (limit_at old) (limit_at old v) (s v) → Lowering p s first (limit_at old) rest
  under-open o = record { down = g.down; done = λ x. go x (g.done x); left = g.left; from = g.from }
    where
      go : (x : ℕ) → (Has noted x × Met p (var x)) ⊎ LimitedAt (limit_at old) (limit_at old x) (s x) → (Has rest x × Met p (var x)) ⊎ LimitedAt (limit_at old) (limit_at old x) (s x)
      go x (inr l) = inr l
      go x (inl h) = by (has-either rest (v ∷ []) x (subst (λ l. Has l x) e h.0))
        where
          by : Has rest x ⊎ Has (v ∷ []) x → (Has rest x × Met p (var x)) ⊎ LimitedAt (limit_at old) (limit_at old x) (s x)
          by (inl r) = inl (r, h.1)
          by (inr r) = inr (subst (λ z. LimitedAt (limit_at old) (limit_at old z) (s z)) (sym (only v x r)) o)

  -- what stands right below it has the types us
  module _ (us : Typs) (inner : (t : Typ) → Beside t t us us → Under (s v) t) where
    pub refuses-under : (c : UnifyRefused) → RefusesIn (together us) (limit_at old v) c → RefusesLimits p s first c
    refuses-under Circular h = h
    refuses-under Large h = h
    refuses-under Memory h = h
    refuses-under Clash h =
        let r = g.from v in
        let z = name-in us h.0 h.1 h.2 in
        let below = inner z.0 z.1 in
        let late : (limit_at old v).names ≤ h.0.stamp = h.3 in
        let same : (first r.0).names ≡ (limit_at old v).names = r.1 in (
          λ m f k o.
              let a : Over (first r.0).names (f v) = above-over s m f k (first r.0).names r.0 v r.2 (o r.0) in
              let d = over-part (first r.0).names f z.0 (con (name h.0) h.1) z.2 (over-under m f (first r.0).names (f v) z.0 (s v) (k v) below a) in
              let lt : h.0.stamp < (first r.0).names = ltb-true h.0.stamp (first r.0).names d.0 in
              omega arith,
          record {
            variable = r.0;
            used = h.0;
            arguments = h.1;
            stands = in-along p (con (name h.0) h.1) (var v) (var r.0) (in-along p (con (name h.0) h.1) z.0 (var v) (in-part p z.0 _ z.2) (in-under p v (s v) z.0 (i v).0 below)) (above-in s p i r.0 v r.2);
            late = omega arith;
          },
        )

    module _ (whole : AllLimited (limit_at new) (limit_at new v) us → LimitedAt (limit_at new) (limit_at new v) (s v)) (h : LowersType (together us) (limit_at old v) old new rest now) where
      fell-met : (x : ℕ) → Fell (together us) (limit_at old v) (limit_at old) (limit_at new) now x → Met p (var x)
      fell-met x f = go (g.done v)
        where
          go : (Has noted v × Met p (var v)) ⊎ LimitedAt (limit_at old) (limit_at old v) (s v) → Met p (var x)
          go (inl m) = let z = variable-in us x f.part in met-part p z.0 (var x) z.2 (met-under p (s v) z.0 (entry-met p s v i m.1) (inner z.0 z.1))
          go (inr l) = let z = variable-in us x f.part in absurd (f.further (limited-part (limit_at old) (limit_at old v) z.0 (var x) z.2 (limited-under (limit_at old) (limit_at old v) (s v) z.0 (inner z.0 z.1) l)))

      done-other : (x : ℕ) → LimitedAt (limit_at old) (limit_at old x) (s x) → (limit_at new x ≡ limit_at old x) ⊎ Fell (together us) (limit_at old v) (limit_at old) (limit_at new) now x → (Has now x × Met p (var x)) ⊎ LimitedAt (limit_at new) (limit_at new x) (s x)
      done-other x l (inl q) = inr (subst (λ k. LimitedAt (limit_at new) k (s x)) (sym q) (at-lower (limit_at old) (limit_at new) h.down (limit_at old x) (s x) l))
      done-other x l (inr f) = inl (f.has, fell-met x f)

      done-here : (limit_at new v ≡ limit_at old v) ⊎ Fell (together us) (limit_at old v) (limit_at old) (limit_at new) now v → (Has now v × Met p (var v)) ⊎ LimitedAt (limit_at new) (limit_at new v) (s v)
      done-here (inl q) = inr (whole (subst (λ k. AllLimited (limit_at new) k us) (sym q) h.limited.1))
      done-here (inr f) = inl (f.has, fell-met v f)

      done-after : (x : ℕ) → (Has noted x × Met p (var x)) ⊎ LimitedAt (limit_at old) (limit_at old x) (s x) → (Has now x × Met p (var x)) ⊎ LimitedAt (limit_at new) (limit_at new x) (s x)
      done-after x (inr l) = done-other x l (h.from x)
      done-after x (inl m) = go (has-either rest (v ∷ []) x (subst (λ l. Has l x) e m.0))
        where
          go : Has rest x ⊎ Has (v ∷ []) x → (Has now x × Met p (var x)) ⊎ LimitedAt (limit_at new) (limit_at new x) (s x)
          go (inl r) = inl (h.stay x r, m.1)
          go (inr r) = subst (λ z. (Has now z × Met p (var z)) ⊎ LimitedAt (limit_at new) (limit_at new z) (s z)) (sym (only v x r)) (done-here (h.from v))

      left-after : (x : ℕ) → (limit_at new x ≡ limit_at old x) ⊎ Fell (together us) (limit_at old v) (limit_at old) (limit_at new) now x → (limit_at old x ≡ first x) ⊎ Met p (var x) → (limit_at new x ≡ first x) ⊎ Met p (var x)
      left-after x (inl q) (inl r) = inl (q ∙ r)
      left-after x (inl q) (inr m) = inr m
      left-after x (inr f) r = inr (fell-met x f)

      from-after : (x : ℕ) → (limit_at new x ≡ limit_at old x) ⊎ Fell (together us) (limit_at old v) (limit_at old) (limit_at new) now x → (u : ℕ) × ((first u).names ≡ (limit_at new x).names) × Above s u x
      from-after x (inl q) = let r = g.from x in (r.0, r.1 ∙ ap (λ k. k.names) (sym q), r.2)
      from-after x (inr f) = go f.names
        where
          go : ((limit_at new x).names ≡ (limit_at old x).names) ⊎ ((limit_at new x).names ≡ (limit_at old v).names) → (u : ℕ) × ((first u).names ≡ (limit_at new x).names) × Above s u x
          go (inl n) = let r = g.from x in (r.0, r.1 ∙ sym n, r.2)
          go (inr n) = let r = g.from v in let z = variable-in us x f.part in (r.0, r.1 ∙ sym n, Above.inner v x z.0 r.2 (inner z.0 z.1) z.2)

      pub under-bound : Lowering p s first (limit_at new) now
      under-bound = record {
        down = λ x. further-along _ _ _ (h.down x) (g.down x);
        done = λ x. done-after x (g.done x);
        left = λ x. left-after x (h.from x) (g.left x);
        from = λ x. from-after x (h.from x);
      }

-- what is looked at below a variable
module _ (ts : List Typ) (s : ℕ → Entry) (v : ℕ) where
  pub under-all : (empty ks : List ℕ) → empty ≡ [] → LooksUnder ts s v empty ks → InhabitedAt (s v) → (t : Typ) → Beside t t (types_at ts ks) (types_at ts ks) → Under (s v) t
  under-all empty ks p (LooksUnder.stands u q r) i t b = subst (λ e. Under e t) (sym q) (one t u (subst (λ l. Beside t t (types_at ts l) (types_at ts l)) (r ∙ ap (λ l. l ++ u ∷ []) p) b))
    where
      one : (t : Typ) (u : ℕ) → Beside t t (types_at ts (u ∷ [])) (types_at ts (u ∷ [])) → t ≡ type_at ts u
      one t u b = all-beside (λ z. z ≡ type_at ts u) (λ z. (z ≡ types_at ts (u ∷ [])) ⊎ (z ≡ none)) (λ x xs h. first x xs h) t t (types_at ts (u ∷ [])) (types_at ts (u ∷ [])) b (inl refl)
        where
          first : (x : Typ) (xs : Typs) → (more x xs ≡ types_at ts (u ∷ [])) ⊎ (more x xs ≡ none) → (x ≡ type_at ts u) × ((xs ≡ types_at ts (u ∷ [])) ⊎ (xs ≡ none))
          first x xs (inl e) = (ap (λ z. head_of z x) e, inr (ap tail_of e))
          first x xs (inr e) = cc
  under-all empty ks p (LooksUnder.others (LooksInRow.fields e ls js q r)) i t b =
      let z = ap (λ l. l ++ js) p in
      let w = beside-at t t ls (types_at ts js) (types_at ts js) (subst InhabitedAt q i) (subst (λ l. Beside t t (types_at ts l) (types_at ts l)) (r ∙ z) b) in
      subst (λ e. Under e t) (sym q) w
  under-all empty ks p (LooksUnder.others (LooksInRow.ends q r)) i t b = absurd (nothing (subst (λ l. Beside t t (types_at ts l) (types_at ts l)) (r ∙ p) b))
    where
      nothing : Beside t t none none → ⊥
      nothing b = elim b [ ]

  pub under-below : (n : ℕ) (empty ks : List ℕ) → empty ≡ [] → LooksUnder ts s v empty ks → BelowAt n (s v) → are_below n (types_at ts ks) ≡ true
  under-below n empty ks p (LooksUnder.stands u q r) h = subst (λ l. are_below n (types_at ts l) ≡ true) (sym (r ∙ ap (λ l. l ++ u ∷ []) p)) (and_from _ _ (subst (BelowAt n) q h) refl)
  under-below n empty ks p (LooksUnder.others (LooksInRow.fields e ls js q r)) h = subst (λ l. are_below n (types_at ts l) ≡ true) (sym (r ∙ ap (λ l. l ++ js) p)) (subst (BelowAt n) q h)
  under-below n empty ks p (LooksUnder.others (LooksInRow.ends q r)) h = subst (λ l. are_below n (types_at ts l) ≡ true) (sym (r ∙ p)) refl

  pub under-whole : (b : ℕ → Limit) (k : Limit) (empty ks : List ℕ) → empty ≡ [] → LooksUnder ts s v empty ks → AllLimited b k (types_at ts ks) → LimitedAt b k (s v)
  under-whole b k empty ks p (LooksUnder.stands u q r) h = subst (LimitedAt b k) (sym q) (subst (λ l. AllLimited b k (types_at ts l)) (r ∙ ap (λ l. l ++ u ∷ []) p) h).0
  under-whole b k empty ks p (LooksUnder.others (LooksInRow.fields e ls js q r)) h = subst (LimitedAt b k) (sym q) (subst (λ l. AllLimited b k (types_at ts l)) (r ∙ ap (λ l. l ++ js) p) h)
  under-whole b k empty ks p (LooksUnder.others (LooksInRow.ends q r)) h = subst (LimitedAt b k) (sym q) tt

-- the beginning: what is in no trail is as it was
has-or : (l : List ℕ) (x : ℕ) → Has l x ⊎ (Has l x → ⊥)
has-or [] x = inr (λ h. h)
has-or (y ∷ l) x = go (cases_eq x y) (has-or l x)
  where
    go : (x ≡ y) ⊎ (x ≡ y → ⊥) → Has l x ⊎ (Has l x → ⊥) → Has (y ∷ l) x ⊎ (Has (y ∷ l) x → ⊥)
    go (inl e) r = inl (inl e)
    go (inr n) (inl h) = inl (inr h)
    go (inr n) (inr m) = inr by
      where
        by : (x ≡ y) ⊎ Has l x → ⊥
        by (inl e) = n e
        by (inr h) = m h

untouched : (ts : List Typ) (d : List Kept) (l : List Slot) (x : ℕ) → (Has (variables d) x → ⊥) → seen ts (undo d l) x ≡ seen ts l x
untouched ts [] l x h = refl
untouched ts (k ∷ d) l x h = ap (λ z. look z x) (entries-set ts (undo d l) k.variable k.slot) ∙ look-set-other (entries ts (undo d l)) k.variable x (entry_of ts k.slot) (λ e. h (inl e)) ∙ untouched ts d l x (λ i. h (inr i))

pub lowering-begins : (p : Problem) (ts : List Typ) (d : List Kept) (os ps : List Slot) (b : ℕ → Limit) → p.before ≡ seen ts os → undo d ps ≡ os → AreLimited b (seen ts os) → IsForced p (seen ts ps) → Lowering p (seen ts ps) b b (variables d)
lowering-begins p ts d os ps b q e a i = record {
  down = λ x. further-same _;
  done = λ x. go x (i x).1 (has-or (variables d) x);
  left = λ x. inl refl;
  from = λ x. (x, refl, Above.itself);
}
  where
    go : (x : ℕ) → LeftAt p x (seen ts ps x) → Has (variables d) x ⊎ (Has (variables d) x → ⊥) → (Has (variables d) x × Met p (var x)) ⊎ LimitedAt b (b x) (seen ts ps x)
    go x (inl l) h = inr (subst (LimitedAt b (b x)) (sym (l ∙ ap (λ z. z x) q)) (a x))
    go x (inr m) (inl h) = inl (h, m.1)
    go x (inr m) (inr n) = inr (subst (LimitedAt b (b x)) (ap (λ l. seen ts l x) (sym e) ∙ untouched ts d ps x n) (a x))

-- the end
symbol-more : (m n : ℕ) → m ≤ n → (c : Symbol) → SymbolOver m c → SymbolOver n c
symbol-more m n le arrow h = tt
symbol-more m n le (labels ls) h = tt
symbol-more m n le (name x) h = let lt : x.stamp < m = ltb-true x.stamp m h in lt-ltb x.stamp n (omega arith)

mutual
  pub over-more : (m n : ℕ) → m ≤ n → (t : Typ) → Over m t → Over n t
  over-more m n le (var v) h = tt
  over-more m n le (con c ts) h = (symbol-more m n le c h.0, all-over-more m n le ts h.1)

  pub all-over-more : (m n : ℕ) → m ≤ n → (ts : Typs) → AllOver m ts → AllOver n ts
  all-over-more m n le none h = tt
  all-over-more m n le (more t ts) h = (over-more m n le t h.0, all-over-more m n le ts h.1)

pub lowering-ends : (first s : ℕ → Entry) (a b : Typ) (old new : ℕ → Limit) → Lowering (problem first a b) s old new [] → IsSettled first s old new a b
lowering-ends first s a b old new g = record {
  limited = λ x. go x (g.done x);
  wide = λ h x. let r = g.from x in let q : (old r.0).names ≡ (new x).names = r.1 in let w = h r.0 in omega arith;
  falls = g.down;
  same = λ m f k. (
    λ o x. let r = g.from x in subst (λ n. Over n (f x)) r.1 (above-over s m f k (old r.0).names r.0 x r.2 (o r.0)),
    λ o x. over-more _ _ (g.down x).0 (f x) (o x),
  );
  rest = g.left;
}
  where
    go : (x : ℕ) → (Has [] x × Met (problem first a b) (var x)) ⊎ LimitedAt new (new x) (s x) → LimitedAt new (new x) (s x)
    go x (inl h) = absurd h.0
    go x (inr l) = l

pub limits-refuse : (first s : ℕ → Entry) (b : ℕ → Limit) (t u : Typ) (e : UnifyRefused) → IsMostGeneral first s t u → RefusesLimits (problem first t u) s b e → IsCauseWithin first b t u e
limits-refuse first s b t u Clash g h = inr (refl, λ m f k o q. h.0 m f ((g m f).1 (k, q)) o, h.1)
limits-refuse first s b t u Circular g h = absurd h
limits-refuse first s b t u Large g h = absurd h
limits-refuse first s b t u Memory g h = inl tt

pub forced-in : (p : Problem) (ts us : List Typ) (ps : List Slot) → us ≡ ts → IsForced p (seen ts ps) → IsForced p (seen us ps)
forced-in p ts us ps e h = subst (λ (x : List Typ). IsForced p (seen x ps)) (sym e) h

pub begins-in : (p : Problem) (ts us : List Typ) (d ds : List Kept) (os ps : List Slot) (b : ℕ → Limit) → p.before ≡ seen ts os → us ≡ ts → ds ≡ d → undo d ps ≡ os → AreLimited b (seen ts os) → IsForced p (seen ts ps) → Lowering p (seen us ps) b b (variables ds)
begins-in p ts us d ds os ps b q e k u a h = subst (λ (x : List Typ). Lowering p (seen x ps) b b (variables ds)) (sym e) (subst (λ x. Lowering p (seen ts ps) b b (variables x)) (sym k) (lowering-begins p ts d os ps b q u a h))
