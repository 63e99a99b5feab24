-- Limits that fall along what a variable stands for.
use Rattle.std.proofs.Common.{◌≡◌, ◌≢◌, ◌<◌, ◌≤◌, ◌+◌, min, ℕ, zero, suc, true, List, [], ◌∷◌, ◌++◌, length, get_or, set, refl, sym, ap, ap₂, ◌∙◌, subst, arith}
use Rattle.std.proofs.Math.Nat.{min-eq_left}
use Rattle.std.proofs.lemmas.Bool.{cases_eq, and_parts, ltb-true}
use mathlib.Core.Logic.{◌⊎◌, inl, inr}
use Rattle.ty_table.specs.of_ty_core.Types.{Typ, var, con, Typs, none, more, Symbol, labels, nodes, all_nodes}
use Rattle.ty_table.specs.TypeAt.{type_at, types_at}
use Rattle.ty_solve.specs.Substitution.{is_below, are_below}
use Rattle.ty_solve.specs.Forces.{Beside}
use Rattle.ty_solve.specs.Weight.{weight, weights}
use Rattle.ty_solve.specs.Walk.{Has}
use Rattle.ty_solve.specs.Limits.{SymbolOver, limit_at, narrower, NoFurther, Limited, AllLimited}
use Rattle.ty_solve.specs.Lowering.{undo_limits, sum, together, PartOf, LowersOne, Visits, Fell, LowersType, RefusesName, RefusesIn}
use Rattle.ty_solve.specs.declared.limit.Limit.{Limit}
use Rattle.ty_solve.specs.declared.limit.KeptLimit.{KeptLimit}
use Rattle.ty_solve.specs.declared.refused.UnifyRefused.{UnifyRefused}
use Rattle.ty_solve.specs.declared.refused.UnifyRefused.TheVariants.{Clash, Circular, Large, Memory}
use Rattle.ty_solve.proofs.Walking.{pop-lighter, weights-append}
use Rattle.ty_solve.proofs.Reaching.{has-last, has-front, has-back, has-either, only}

-- lists of limits
set-back : (l : List Limit) (v : ℕ) (o b : Limit) → b ≡ get_or l v b → set (set l v o) v b ≡ l
set-back [] v o b e = refl
set-back (x ∷ l) zero o b e = ap (λ y. y ∷ l) e
set-back (x ∷ l) (suc v) o b e = ap (λ y. x ∷ y) (set-back l v o b e)

pub undo-last : (d : List KeptLimit) (k : KeptLimit) (l : List Limit) → undo_limits (d ++ k ∷ []) l ≡ undo_limits d (set l k.variable k.limit)
undo-last [] k l = refl
undo-last (x ∷ d) k l = ap (λ y. set y x.variable x.limit) (undo-last d k l)

pub lowered-back : (l l' : List Limit) (d d' : List KeptLimit) (v : ℕ) (o b : Limit) → b ≡ get_or l v b → l' ≡ set l v o → d' ≡ d ++ (record { variable = v; limit = b }) ∷ [] → undo_limits d' l' ≡ undo_limits d l
lowered-back l l' d d' v o b e p q =
    ap (λ x. undo_limits x l') q
    ∙ undo-last d (record { variable = v; limit = b }) l'
    ∙ ap (λ x. undo_limits d (set x v b)) p
    ∙ ap (undo_limits d) (set-back l v o b e)

pub limits-past : (l : List Limit) (v : ℕ) (o : Limit) → length l ≤ v → set l v o ≡ l
limits-past [] v o h = refl
limits-past (x ∷ l) zero o h = absurd (omega arith)
limits-past (x ∷ l) (suc v) o h = ap (λ y. x ∷ y) (limits-past l v o (omega arith))

pub limit-get : (l : List Limit) (v : ℕ) (b : Limit) → v < length l → b ≡ get_or l v b → limit_at l v ≡ b
limit-get [] v b lt e = absurd (omega arith)
limit-get (x ∷ l) zero b lt e = sym e
limit-get (x ∷ l) (suc v) b lt e = limit-get l v b (omega arith) e

pub limit-same : (l : List Limit) (v : ℕ) (o : Limit) → v < length l → limit_at (set l v o) v ≡ o
limit-same [] v o lt = absurd (omega arith)
limit-same (x ∷ l) zero o lt = refl
limit-same (x ∷ l) (suc v) o lt = limit-same l v o (omega arith)

pub limit-other : (l : List Limit) (v x : ℕ) (o : Limit) → x ≢ v → limit_at (set l v o) x ≡ limit_at l x
limit-other [] v x o h = refl
limit-other (y ∷ l) zero zero o h = absurd (h refl)
limit-other (y ∷ l) zero (suc x) o h = refl
limit-other (y ∷ l) (suc v) zero o h = refl
limit-other (y ∷ l) (suc v) (suc x) o h = limit-other l v x o (λ e. h (ap suc e))

sum-set : (l : List Limit) (v : ℕ) (o : Limit) → v < length l → sum (set l v o) + ((limit_at l v).names + (limit_at l v).level) ≡ sum l + (o.names + o.level)
sum-set [] v o lt = absurd (omega arith)
sum-set (x ∷ l) zero o lt = omega arith
sum-set (x ∷ l) (suc v) o lt = let p = sum-set l v o (omega arith) in omega arith

pub snoc-length : {A : Type 0} (l : List A) (k : A) → length (l ++ k ∷ []) ≡ suc (length l)
snoc-length [] k = refl
snoc-length (x ∷ l) k = ap suc (snoc-length l k)

-- limits
pub further-same : (k : Limit) → NoFurther k k
further-same k = (omega arith, omega arith)

pub further-along : (j k l : Limit) → NoFurther j k → NoFurther k l → NoFurther j l
further-along j k l p q = let a = p.0 in let b = p.1 in let c = q.0 in let d = q.1 in (omega arith, omega arith)

pub further-is : (j k l : Limit) → j ≡ k → NoFurther k l → NoFurther j l
further-is j k l e h = subst (λ x. NoFurther x l) (sym e) h

pub narrower-same : (k l : Limit) → NoFurther k l → narrower k l ≡ k
narrower-same k l h = ap₂ (λ a b. record { names = a; level = b }) (min-eq_left h.0) (min-eq_left h.1)

pub same-narrower : (k l : Limit) → narrower k l ≡ k → NoFurther k l
same-narrower k l e = let p = ap (λ x. x.names) e in let q = ap (λ x. x.level) e in (omega arith, omega arith)

narrower-left : (k l : Limit) → NoFurther (narrower k l) k
narrower-left k l = (omega arith, omega arith)

narrower-right : (k l : Limit) → NoFurther (narrower k l) l
narrower-right k l = (omega arith, omega arith)

narrower-less : (k l : Limit) → (narrower k l ≡ k → ⊥) → min k.names l.names + min k.level l.level < k.names + k.level
narrower-less k l ne = go (cases k.names l.names) (cases k.level l.level)
  where
    cases : (a b : ℕ) → (a ≤ b) ⊎ (b < a)
    cases a b = search arith

    go : (k.names ≤ l.names) ⊎ (l.names < k.names) → (k.level ≤ l.level) ⊎ (l.level < k.level) → min k.names l.names + min k.level l.level < k.names + k.level
    go (inl a) (inl b) = absurd (ne (narrower-same k l (a, b)))
    go (inl a) (inr b) = omega arith
    go (inr a) (inl b) = omega arith
    go (inr a) (inr b) = omega arith

min-either : (a b : ℕ) → (min a b ≡ a) ⊎ (min a b ≡ b)
min-either a b = search arith

-- one limit fell
pub record OneFell (y : ℕ) (to : Limit) (old new : ℕ → Limit) (now : List ℕ) (x : ℕ) : Type 0 where
  pub is : x ≡ y
  pub has : Has now x
  pub names : ((new x).names ≡ (old x).names) ⊎ ((new x).names ≡ to.names)
  pub further : NoFurther (old x) to → ⊥

module _ (old new : List Limit) (y : ℕ) (to : Limit) (noted now : List ℕ) (lt : y < length old) where
  fallen-at : new ≡ set old y (narrower (limit_at old y) to) → limit_at new y ≡ narrower (limit_at old y) to
  fallen-at e = ap (λ l. limit_at l y) e ∙ limit-same old y (narrower (limit_at old y) to) lt

  fallen-other : new ≡ set old y (narrower (limit_at old y) to) → (x : ℕ) → x ≢ y → limit_at new x ≡ limit_at old x
  fallen-other e x ne = ap (λ l. limit_at l x) e ∙ limit-other old y x (narrower (limit_at old y) to) ne

  pub one-down : LowersOne old new y to noted now → (x : ℕ) → NoFurther (limit_at new x) (limit_at old x)
  one-down (LowersOne.stays e d h) x = further-is _ _ _ (ap (λ l. limit_at l x) e) (further-same _)
  one-down (LowersOne.falls e d ne) x = go (cases_eq x y)
    where
      go : (x ≡ y) ⊎ (x ≡ y → ⊥) → NoFurther (limit_at new x) (limit_at old x)
      go (inl i) = subst (λ z. NoFurther (limit_at new z) (limit_at old z)) (sym i) (further-is _ _ _ (fallen-at e) (narrower-left (limit_at old y) to))
      go (inr n) = further-is _ _ _ (fallen-other e x n) (further-same _)

  pub one-at : LowersOne old new y to noted now → NoFurther (limit_at new y) to
  one-at (LowersOne.stays e d h) = further-is _ _ _ (ap (λ l. limit_at l y) e) h
  one-at (LowersOne.falls e d ne) = further-is _ _ _ (fallen-at e) (narrower-right (limit_at old y) to)

  pub one-from : LowersOne old new y to noted now → (x : ℕ) → (limit_at new x ≡ limit_at old x) ⊎ OneFell y to (limit_at old) (limit_at new) now x
  one-from (LowersOne.stays e d h) x = inl (ap (λ l. limit_at l x) e)
  one-from (LowersOne.falls e d ne) x = go (cases_eq x y)
    where
      at-y : OneFell y to (limit_at old) (limit_at new) now y
      at-y = record {
        is = refl;
        has = subst (λ l. Has l y) (sym d) (has-last noted y);
        names = named (min-either (limit_at old y).names to.names);
        further = λ h. ne (narrower-same (limit_at old y) to h);
      }
        where
          named : (min (limit_at old y).names to.names ≡ (limit_at old y).names) ⊎ (min (limit_at old y).names to.names ≡ to.names) → ((limit_at new y).names ≡ (limit_at old y).names) ⊎ ((limit_at new y).names ≡ to.names)
          named (inl i) = inl (ap (λ l. l.names) (fallen-at e) ∙ i)
          named (inr i) = inr (ap (λ l. l.names) (fallen-at e) ∙ i)

      go : (x ≡ y) ⊎ (x ≡ y → ⊥) → (limit_at new x ≡ limit_at old x) ⊎ OneFell y to (limit_at old) (limit_at new) now x
      go (inl i) = inr (subst (OneFell y to (limit_at old) (limit_at new) now) (sym i) at-y)
      go (inr n) = inl (fallen-other e x n)

  pub one-stay : LowersOne old new y to noted now → (x : ℕ) → Has noted x → Has now x
  one-stay (LowersOne.stays e d h) x i = subst (λ l. Has l x) (sym d) i
  one-stay (LowersOne.falls e d ne) x i = subst (λ l. Has l x) (sym d) (has-front noted (y ∷ []) x i)

  pub one-fewer : LowersOne old new y to noted now → sum new + length now ≤ sum old + length noted
  one-fewer (LowersOne.stays e d h) = let p = ap sum e in let q = ap length d in omega arith
  one-fewer (LowersOne.falls e d ne) =
      let p = ap sum e in
      let q = ap length d ∙ snoc-length noted y in
      let r = sum-set old y (narrower (limit_at old y) to) lt in
      let z = narrower-less (limit_at old y) to ne in
      omega arith

-- what was looked at
pub data Through (ts : List Typ) (to : Limit) (b : ℕ → Limit) (done pending : List ℕ) (k : ℕ) : Type 0 where
  variable : (y : ℕ) → type_at ts k ≡ var y → NoFurther (b y) to → Through ts to b done pending k
  applied : (h : Symbol) (parts : List ℕ) → type_at ts k ≡ con h (types_at ts parts) → SymbolOver to.names h → ((j : ℕ) → Has parts j → Has done j ⊎ Has pending j) → Through ts to b done pending k

-- the types of us were looked through but for what is pending
pub record Walked (ts : List Typ) (us : List ℕ) (to : Limit) (old b : List Limit) (noted now done pending : List ℕ) : Type 0 where
  pub start : (k : ℕ) → Has us k → Has done k ⊎ Has pending k
  pub through : (k : ℕ) → Has done k → Through ts to (limit_at b) done pending k
  pub inside : (k : ℕ) → Has pending k → PartOf (together (types_at ts us)) (type_at ts k)
  pub down : (x : ℕ) → NoFurther (limit_at b x) (limit_at old x)
  pub from : (x : ℕ) → (limit_at b x ≡ limit_at old x) ⊎ Fell (together (types_at ts us)) to (limit_at old) (limit_at b) now x
  pub stay : (x : ℕ) → Has noted x → Has now x
  pub fewer : sum b + length now ≤ sum old + length noted

part-of : (ts : List Typ) (t : Typ) (h : Symbol) (us : Typs) (ks : List ℕ) → PartOf t (con h us) → ((u : Typ) → Beside u u (types_at ts ks) (types_at ts ks) → Beside u u us us) → (j : ℕ) → Has ks j → PartOf t (type_at ts j)
part-of ts t h us ks q into j a = PartOf.part h us (type_at ts j) q (into (type_at ts j) (beside ks j a))
  where
    beside : (ks : List ℕ) (j : ℕ) → Has ks j → Beside (type_at ts j) (type_at ts j) (types_at ts ks) (types_at ts ks)
    beside [] j a = absurd a
    beside (k ∷ ks) j (inl e) = subst (λ x. Beside (type_at ts x) (type_at ts x) (types_at ts (k ∷ ks)) (types_at ts (k ∷ ks))) (sym e) (Beside.here _ _ _ _)
    beside (k ∷ ks) j (inr a) = Beside.later _ _ _ _ _ _ (beside ks j a)

pub walked-first : (ts : List Typ) (us : List ℕ) (to : Limit) (old : List Limit) (noted done : List ℕ) → done ≡ [] → Walked ts us to old old noted noted done us
walked-first ts us to old noted done p = subst (λ d. Walked ts us to old old noted noted d us) (sym p) (record {
  start = λ k h. inr h;
  through = λ k h. absurd h;
  inside = λ k h. part-of ts (together (types_at ts us)) (labels []) (types_at ts us) us PartOf.whole (λ u b. b) k h;
  down = λ x. further-same _;
  from = λ x. inl refl;
  stay = λ x h. h;
  fewer = omega arith;
})

module _ (ts : List Typ) (us : List ℕ) (to : Limit) (old b : List Limit) (noted now done all rest : List ℕ) (k : ℕ) (e : all ≡ rest ++ k ∷ []) (g : Walked ts us to old b noted now done all) where
  pub part-here : PartOf (together (types_at ts us)) (type_at ts k)
  part-here = g.inside k (subst (λ l. Has l k) (sym e) (has-last rest k))

  along : (then next : List ℕ) → Has then k ⊎ Has next k → ((j : ℕ) → Has done j → Has then j) → ((j : ℕ) → Has rest j → Has next j) → (j : ℕ) → Has done j ⊎ Has all j → Has then j ⊎ Has next j
  along then next c x y j (inl h) = inl (x j h)
  along then next c x y j (inr h) = go (has-either rest (k ∷ []) j (subst (λ l. Has l j) e h))
    where
      go : Has rest j ⊎ Has (k ∷ []) j → Has then j ⊎ Has next j
      go (inl i) = inr (y j i)
      go (inr i) = subst (λ z. Has then z ⊎ Has next z) (sym (only k j i)) c

  through-along : (then next : List ℕ) (a : ℕ → Limit) → ((x : ℕ) → NoFurther (a x) (limit_at b x)) → Has then k ⊎ Has next k → ((j : ℕ) → Has done j → Has then j) → ((j : ℕ) → Has rest j → Has next j) → (j : ℕ) → Has done j → Through ts to a then next j
  through-along then next a d c x y j h = go (g.through j h)
    where
      go : Through ts to (limit_at b) done all j → Through ts to a then next j
      go (Through.variable z p q) = Through.variable z p (further-along _ _ _ (d z) q)
      go (Through.applied f parts p o i) = Through.applied f parts p o (λ u w. along then next c x y u (i u w))

  -- a type that was looked at before
  pub walked-skips : Has done k → Walked ts us to old b noted now done rest
  walked-skips c = record {
    start = λ i w. along done rest (inl c) (λ j h. h) (λ j h. h) i (g.start i w);
    through = λ j h. through-along done rest (limit_at b) (λ x. further-same _) (inl c) (λ j h. h) (λ j h. h) j h;
    inside = λ j h. g.inside j (subst (λ l. Has l j) (sym e) (has-front rest (k ∷ []) j h));
    down = g.down;
    from = g.from;
    stay = g.stay;
    fewer = g.fewer;
  }

  module _ (then : List ℕ) (d : then ≡ done ++ k ∷ []) where
    now-here : Has then k
    now-here = subst (λ l. Has l k) (sym d) (has-last done k)

    kept-done : (j : ℕ) → Has done j → Has then j
    kept-done j h = subst (λ l. Has l j) (sym d) (has-front done (k ∷ []) j h)

    each : (P : ℕ → Type 0) → ((j : ℕ) → Has done j → P j) → P k → (j : ℕ) → Has then j → P j
    each P x y j h = go (has-either done (k ∷ []) j (subst (λ l. Has l j) d h))
      where
        go : Has done j ⊎ Has (k ∷ []) j → P j
        go (inl i) = x j i
        go (inr i) = subst P (sym (only k j i)) y

    -- a type that is no variable
    walked-applied : (next : List ℕ) (h : Symbol) (parts : List ℕ) → type_at ts k ≡ con h (types_at ts parts) → SymbolOver to.names h → next ≡ rest ++ parts → Walked ts us to old b noted now then next
    walked-applied next h parts p o q =
        let y : (j : ℕ) → Has rest j → Has next j = λ j i. subst (λ l. Has l j) (sym q) (has-front rest parts j i) in
        record {
          start = λ i w. along then next (inl now-here) kept-done y i (g.start i w);
          through = each (Through ts to (limit_at b) then next) (through-along then next (limit_at b) (λ x. further-same _) (inl now-here) kept-done y) (Through.applied h parts p o (λ j i. inr (subst (λ l. Has l j) (sym q) (has-back rest parts j i))));
          inside = λ j i. inner j (has-either rest parts j (subst (λ l. Has l j) q i));
          down = g.down;
          from = g.from;
          stay = g.stay;
          fewer = g.fewer;
        }
      where
        inner : (j : ℕ) → Has rest j ⊎ Has parts j → PartOf (together (types_at ts us)) (type_at ts j)
        inner j (inl i) = g.inside j (subst (λ l. Has l j) (sym e) (has-front rest (k ∷ []) j i))
        inner j (inr i) = part-of ts (together (types_at ts us)) h (types_at ts parts) parts (subst (PartOf (together (types_at ts us))) p part-here) (λ u w. w) j i

    -- a variable
    walked-variable : (y : ℕ) (new : List Limit) (after : List ℕ) → type_at ts k ≡ var y → y < length b → LowersOne b new y to now after → Walked ts us to old new noted after then rest
    walked-variable y new after p lt o =
        let fewer = g.fewer in
        let less = one-fewer b new y to now after lt o in
        record {
          start = λ u w. along then rest (inl now-here) kept-done (λ j i. i) u (g.start u w);
          through = each (Through ts to (limit_at new) then rest) (through-along then rest (limit_at new) (one-down b new y to now after lt o) (inl now-here) kept-done (λ j i. i)) (Through.variable y p (one-at b new y to now after lt o));
          inside = λ j i. g.inside j (subst (λ l. Has l j) (sym e) (has-front rest (k ∷ []) j i));
          down = λ x. further-along _ _ _ (one-down b new y to now after lt o x) (g.down x);
          from = λ x. go x (one-from b new y to now after lt o x) (g.from x);
          stay = λ x i. one-stay b new y to now after lt o x (g.stay x i);
          fewer = omega arith;
        }
      where
        names-of : (x : ℕ) → ((limit_at new x).names ≡ (limit_at b x).names) ⊎ ((limit_at new x).names ≡ to.names) → (limit_at b x ≡ limit_at old x) ⊎ Fell (together (types_at ts us)) to (limit_at old) (limit_at b) now x → ((limit_at new x).names ≡ (limit_at old x).names) ⊎ ((limit_at new x).names ≡ to.names)
        names-of x (inr i) f = inr i
        names-of x (inl i) (inl q) = inl (i ∙ ap (λ l. l.names) q)
        names-of x (inl i) (inr f) = go f.names
          where
            go : ((limit_at b x).names ≡ (limit_at old x).names) ⊎ ((limit_at b x).names ≡ to.names) → ((limit_at new x).names ≡ (limit_at old x).names) ⊎ ((limit_at new x).names ≡ to.names)
            go (inl q) = inl (i ∙ q)
            go (inr q) = inr (i ∙ q)

        go : (x : ℕ) → (limit_at new x ≡ limit_at b x) ⊎ OneFell y to (limit_at b) (limit_at new) after x → (limit_at b x ≡ limit_at old x) ⊎ Fell (together (types_at ts us)) to (limit_at old) (limit_at b) now x → (limit_at new x ≡ limit_at old x) ⊎ Fell (together (types_at ts us)) to (limit_at old) (limit_at new) after x
        go x (inl q) (inl r) = inl (q ∙ r)
        go x (inl q) (inr f) = inr (record {
          has = one-stay b new y to now after lt o x f.has;
          part = f.part;
          names = names-of x (inl (ap (λ l. l.names) q)) (inr f);
          further = f.further;
        })
        go x (inr f) r = inr (record {
          has = f.has;
          part = subst (λ z. PartOf (together (types_at ts us)) (var z)) (sym f.is) (subst (PartOf (together (types_at ts us))) p part-here);
          names = names-of x f.names r;
          further = λ h. f.further (further-along _ _ _ (g.down x) h);
        })

    pub walked-visits : (new : List Limit) (next after : List ℕ) → ((y : ℕ) → type_at ts k ≡ var y → y < length b) → Visits ts k to b new rest next now after → Walked ts us to old new noted after then next
    walked-visits new next after lt (Visits.variable y p q o) = subst (Walked ts us to old new noted after then) (sym q) (walked-variable y new after p (lt y p) o)
    walked-visits new next after lt (Visits.applied h parts p o q r z) = subst (λ l. Walked ts us to old l noted after then next) (sym r) (subst (λ l. Walked ts us to old b noted l then next) (sym z) (walked-applied next h parts p o q))

  pub refuses-in : (c : UnifyRefused) → RefusesName (type_at ts k) to c → RefusesIn (together (types_at ts us)) to c
  refuses-in Clash h = (h.0, h.1, subst (PartOf (together (types_at ts us))) h.2 part-here, h.3)
  refuses-in Circular h = h
  refuses-in Large h = h
  refuses-in Memory h = tt

-- nothing is pending
module _ (ts : List Typ) (to : Limit) (b : ℕ → Limit) (done : List ℕ) (through : (k : ℕ) → Has done k → Through ts to b done [] k) where
  all-limited : (n : ℕ) → ((j : ℕ) → nodes (type_at ts j) < n → Has done j → Limited b to (type_at ts j)) → (ks : List ℕ) → all_nodes (types_at ts ks) < n → ((j : ℕ) → Has ks j → Has done j ⊎ Has [] j) → AllLimited b to (types_at ts ks)
  all-limited n again [] lt h = tt
  all-limited n again (k ∷ ks) lt h = (one (h k (inl refl)), all-limited n again ks (omega arith) (λ j i. h j (inr i)))
    where
      one : Has done k ⊎ Has [] k → Limited b to (type_at ts k)
      one (inl i) = again k (omega arith) i
      one (inr i) = absurd i

  limited-by : (n k : ℕ) → nodes (type_at ts k) < n → Has done k → Limited b to (type_at ts k)
  limited-by zero k lt h = absurd (omega arith)
  limited-by (suc n) k lt h = go (through k h) (λ j. limited-by n j)
    where
      go : Through ts to b done [] k → ((j : ℕ) → nodes (type_at ts j) < n → Has done j → Limited b to (type_at ts j)) → Limited b to (type_at ts k)
      go (Through.variable y p q) again = subst (Limited b to) (sym p) q
      go (Through.applied f parts p o i) again = let z = ap nodes p in subst (Limited b to) (sym p) (o, all-limited n again parts (omega arith) i)

pub walked-ends : (ts : List Typ) (us : List ℕ) (to : Limit) (old b : List Limit) (noted now done l : List ℕ) → length l ≡ 0 → Walked ts us to old b noted now done l → LowersType (together (types_at ts us)) to old b noted now
walked-ends ts us to old b noted now done (x ∷ l) e g = absurd (omega arith)
walked-ends ts us to old b noted now done [] e g = record {
  limited = (tt, all-limited ts to (limit_at b) done g.through (suc (all_nodes (types_at ts us))) (λ j lt h. limited-by ts to (limit_at b) done g.through (suc (nodes (type_at ts j))) j (omega arith) h) us (omega arith) g.start);
  down = g.down;
  from = g.from;
  stay = g.stay;
  fewer = g.fewer;
}

-- what is looked at next has fewer nodes
pub visit-lighter : (ts : List Typ) (to : Limit) (b new : List Limit) (old rest next now after : List ℕ) (k : ℕ) → old ≡ rest ++ k ∷ [] → Visits ts k to b new rest next now after → weights (λ v. 0) (types_at ts next) < weights (λ v. 0) (types_at ts old)
visit-lighter ts to b new old rest next now after k e (Visits.variable y p q o) = let z = ap (λ l. weights (λ v. 0) (types_at ts l)) q in let w = pop-lighter (λ v. 0) ts old rest k e in omega arith
visit-lighter ts to b new old rest next now after k e (Visits.applied h parts p o q r z) =
    let a = ap (λ l. weights (λ v. 0) (types_at ts l)) q ∙ weights-append (λ v. 0) ts rest parts in
    let c = ap (λ l. weights (λ v. 0) (types_at ts l)) e ∙ weights-append (λ v. 0) ts rest (k ∷ []) in
    let d = ap (weight (λ v. 0)) p in
    omega arith

-- a variable that stands in a type whose variables are below n is below n
beside-below : (n : ℕ) (t u : Typ) (ts us : Typs) → Beside t u ts us → are_below n ts ≡ true → is_below n t ≡ true
beside-below n t u (more x ts) (more y us) (Beside.here _ _ _ _) h = (and_parts (is_below n t) (are_below n ts) h).0
beside-below n t u (more x ts) (more y us) (Beside.later _ _ _ _ _ _ b) h = beside-below n t u ts us b (and_parts (is_below n x) (are_below n ts) h).1
beside-below n t u none us b h = elim b [ ]
beside-below n t u (more x ts) none b h = elim b [ ]

pub part-below : (n : ℕ) (t u : Typ) → PartOf t u → is_below n t ≡ true → is_below n u ≡ true
part-below n t _ PartOf.whole h = h
part-below n t _ (PartOf.part c ts u q b) h = beside-below n u u ts ts b (part-below n t (con c ts) q h)

pub variable-below : (n m : ℕ) (t u : Typ) (y : ℕ) → PartOf t u → u ≡ var y → is_below n t ≡ true → m ≡ n → y < m
variable-below n m t u y q p h e = let lt = ltb-true y n (subst (λ z. is_below n z ≡ true) p (part-below n t u q h)) in omega arith
