-- The arguments of a datatype's constructors are gone along.
use Rattle.std.proofs.Common.{◌≡◌, ℕ, zero, suc, ◌+◌, ◌-◌, ◌<◌, ◌≤◌, ◌⊎◌, inl, inr, List, [], ◌∷◌, ◌++◌, map, take, drop, length, slice_get, slice_index_or, Option, Some, None, option_map, Bool, true, false, nat_eq, ◌&&◌, if◌then◌else◌, refl, sym, ap, ap₂, ◌∙◌, subst, arith}
use Rattle.std.specs.Map.{lookup}
use Rattle.std.proofs.lemmas.Bool.{eqb-true, eq-eqb, cases_order, false≢true}
use Rattle.std.proofs.lemmas.List.{append-nil, append_assoc}
use Rattle.mlc_names.specs.declared.label.Label.{Label}
use Rattle.ty_core.specs.Types.{Symbol, arrow, labels, name, Typ, var, con, Typs, typs_of}
use Rattle.ty_core.specs.Statics.{replace}
use Rattle.ty_core.specs.declared.name.TyName.{TyName}
use Rattle.ty_table.specs.TypeAt.{type_at, types_at, AllBelow}
use Rattle.ir_poly.specs.Types as clean
use Rattle.ir_poly.specs.Types.{find, nth_type, argument_at, unit_type}
use Rattle.ir_tables.specs.declared.constructors.Constructor.{Constructor}
use Rattle.ir_tables.specs.Rows.{constructor_at, constructors_at}
use Rattle.monomorphise.specs.Monomorphise.{same_name}
use Rattle.monomorphise.specs.Expansion.{IsPart, this_part, further_part}
use Rattle.monomorphise.proofs.Names.{name-is, symbol-same}
use Rattle.mono_close.specs.Closing.{or_unit, standing, AreHeld, AreRight, Longer}
use Rattle.mono_close.proofs.Tables.{type-longer, length-longer, below-longer, type-got, type-held, replace-same}
use Rattle.mono_needed.specs.Gathered.{NeedsAtOnce, a_field, an_argument}
use Rattle.mono_needed.specs.Gathering.{Has, At, IsLatest, IsChained, own_argument, IsPushed, nothing, its_number, OpensArguments, Opens}
use Rattle.mono_needed.proofs.Gather.{has-either, below-has, below-append, at-front, at-back, at-longer}
use Rattle.mono_needed.proofs.Chain.{UpTo, IsNext, latest-next, latest-covers}

-- rows and constructors

found-row : (rows : List Constructor) (ts : List Typ) (y : TyName) (c : ℕ) (k : clean.Constructor) → find (constructors_at ts rows) y c ≡ Some k → (i : ℕ) × (r : Constructor) × (slice_get rows i ≡ Some r) × (r.datatype.stamp ≡ y.stamp) × (r.number ≡ c)
found-row [] ts y c k e = absurd (cc)
found-row (r ∷ rows) ts y c k e = go (nat_eq r.datatype.stamp y.stamp) (nat_eq r.number c) refl refl e (found-row rows ts y c k)
  where
    deeper : (i : ℕ) × (q : Constructor) × (slice_get rows i ≡ Some q) × (q.datatype.stamp ≡ y.stamp) × (q.number ≡ c) → (i : ℕ) × (q : Constructor) × (slice_get (r ∷ rows) i ≡ Some q) × (q.datatype.stamp ≡ y.stamp) × (q.number ≡ c)
    deeper h = (suc h.0, h.1, h.2, h.3, h.4)

    go : (a b : Bool) → nat_eq r.datatype.stamp y.stamp ≡ a → nat_eq r.number c ≡ b → (if a && b then Some (constructor_at ts r) else find (constructors_at ts rows) y c) ≡ Some k
        → (find (constructors_at ts rows) y c ≡ Some k → (i : ℕ) × (q : Constructor) × (slice_get rows i ≡ Some q) × (q.datatype.stamp ≡ y.stamp) × (q.number ≡ c))
        → (i : ℕ) × (q : Constructor) × (slice_get (r ∷ rows) i ≡ Some q) × (q.datatype.stamp ≡ y.stamp) × (q.number ≡ c)
    go true true p q e rest = (0, r, refl, eqb-true r.datatype.stamp y.stamp p, eqb-true r.number c q)
    go true false p q e rest = deeper (rest e)
    go false b p q e rest = deeper (rest e)

some-row : {r q : Constructor} → Some r ≡ Some q → r ≡ q
some-row e = cc

some-typ : {t u : Typ} → Some t ≡ Some u → t ≡ u
some-typ e = cc

own-found : (y : TyName) (o : Option clean.Constructor) (a : Typ) → own_argument y o ≡ Some a → (k : clean.Constructor) × (o ≡ Some k)
own-found y None a e = absurd (cc)
own-found y (Some k) a e = (k, refl)

-- the walk along a datatype's rows

module _ (rows : List Constructor) (ts : List Typ) (y : TyName) (s : ℕ → Typ) where
  abbrev pub Own : ℕ → Typ → Type 0
  Own c a = own_argument y (find (constructors_at ts rows) y c) ≡ Some a

  -- the argument of the number c is there
  abbrev pub Done : List Typ → List ℕ → ℕ → Type 0
  Done us ks c = (a : Typ) → Own c a → At us ks (replace s a)

  pub record Arguing (us : List Typ) (old pending : List ℕ) (next : Option ℕ) : Type 0 where
    pub numbers : List ℕ
    pub is : pending ≡ old ++ numbers
    pub below : AllBelow (length us) numbers
    pub sound : (k : ℕ) → Has numbers k → (c : ℕ) × (a : Typ) × Own c a × (type_at us k ≡ replace s a)
    pub rest : (i : ℕ) (r : Constructor) → slice_get rows i ≡ Some r → r.datatype.stamp ≡ y.stamp → UpTo i next ⊎ Done us numbers r.number
    pub next_is : IsNext rows y.stamp next

  pub argue-begins : (us : List Typ) (old : List ℕ) (last : ℕ → Option ℕ) (before : List (Option ℕ)) (next : Option ℕ) → IsChained rows last before → next ≡ last y.stamp → Arguing us old old next
  argue-begins us old last before next h e = subst (Arguing us old old) (sym e) (record {
    numbers = [];
    is = sym (append-nil old);
    below = tt;
    sound = λ k i. absurd i;
    rest = λ i r a b. inl (latest-covers rows (length rows) y.stamp (last y.stamp) (h.last_is y.stamp) i (within rows i r a) (record { row = r; at = a; same = b }));
    next_is = latest-next rows (length rows) y.stamp (last y.stamp) (h.last_is y.stamp);
  })
    where
      within : (rows : List Constructor) (i : ℕ) (r : Constructor) → slice_get rows i ≡ Some r → i < length rows
      within [] i r e = absurd (cc)
      within (q ∷ rows) zero r e = omega arith
      within (q ∷ rows) (suc i) r e = let h = within rows i r e in omega arith

  done-more : (us ws : List Typ) (ks new : List ℕ) (c : ℕ) → Longer us ws → AllBelow (length us) ks → Done us ks c → Done ws (ks ++ new) c
  done-more us ws ks new c l b d a e = at-front ws ks new (replace s a) (at-longer us ws ks (replace s a) l b (d a e))

  -- one row is gone over
  module _ (us ws : List Typ) (old mid new : List ℕ) (j c : ℕ) (q : Constructor) (next : Option ℕ) (longer : Longer us ws) (at : slice_get rows j ≡ Some q) (number : c ≡ q.number) (latest : IsLatest rows j y.stamp next) (g : Arguing us old mid (Some j)) where
    module _ (added : List ℕ) (is : new ≡ mid ++ added) (below : AllBelow (length ws) added) (sound : (k : ℕ) → Has added k → (a : Typ) × Own c a × (type_at ws k ≡ replace s a)) (here : Done ws (g.numbers ++ added) c) where
      still : (k : ℕ) → Has (g.numbers ++ added) k → (c : ℕ) × (a : Typ) × Own c a × (type_at ws k ≡ replace s a)
      still k h = either (has-either g.numbers added k h)
        where
          either : Has g.numbers k ⊎ Has added k → (c : ℕ) × (a : Typ) × Own c a × (type_at ws k ≡ replace s a)
          either (inl i) = let p = g.sound k i in (p.0, p.1, p.2, type-longer us ws k longer (below-has (length us) g.numbers k g.below i) ∙ p.3)
          either (inr i) = let p = sound k i in (c, p.0, p.1, p.2)

      rest-now : (i : ℕ) (r : Constructor) → slice_get rows i ≡ Some r → r.datatype.stamp ≡ y.stamp → UpTo i next ⊎ Done ws (g.numbers ++ added) r.number
      rest-now i r a b = either (g.rest i r a b)
        where
          order : i ≤ j → (i ≡ j) ⊎ ((i < j) ⊎ (j < i)) → UpTo i next ⊎ Done ws (g.numbers ++ added) r.number
          order le (inl e) = let p : Some q ≡ Some r = sym at ∙ ap (slice_get rows) (sym e) ∙ a in inr (subst (Done ws (g.numbers ++ added)) (number ∙ ap (λ r. r.number) (some-row p)) here)
          order le (inr (inl l)) = inl (latest-covers rows j y.stamp next latest i l (record { row = r; at = a; same = b }))
          order le (inr (inr l)) = absurd (omega arith)

          either : i ≤ j ⊎ Done us g.numbers r.number → UpTo i next ⊎ Done ws (g.numbers ++ added) r.number
          either (inl le) = order le (cases_order i j)
          either (inr d) = inr (done-more us ws g.numbers added r.number longer g.below d)

      moved : Arguing ws old new next
      moved = record {
        numbers = g.numbers ++ added;
        is = is ∙ ap (λ l. l ++ added) g.is ∙ append_assoc old g.numbers added;
        below = below-append (length ws) g.numbers added (below-longer (length us) (length ws) g.numbers (length-longer us ws longer) g.below) below;
        sound = still;
        rest = rest-now;
        next_is = latest-next rows j y.stamp next latest;
      }

    pub argue-goes : (z : ℕ → Typ) → ((v : ℕ) → z v ≡ s v) → (o : Option Typ) → o ≡ own_argument y (find (constructors_at ts rows) y c) → IsPushed ws z mid new o → Arguing ws old new next
    argue-goes z same o e (nothing i) = moved [] (i ∙ sym (append-nil mid)) tt (λ k h. absurd h) (λ a w. let p : None ≡ Some a = e ∙ w in absurd (cc))
    argue-goes z same o e (its_number b n h i) =
        moved (n ∷ []) i (type-held ws n (replace z b) h, tt) (λ k p. one k p) (λ a w. at-back ws g.numbers (n ∷ []) (replace s a) (record { number = n; among = inl refl; is = is-it ∙ ap (replace s) (some-typ (e ∙ w)) }))
      where
        is-it : type_at ws n ≡ replace s b
        is-it = type-got ws n (replace z b) h ∙ replace-same z s same b

        one : (k : ℕ) → Has (n ∷ []) k → (a : Typ) × Own c a × (type_at ws k ≡ replace s a)
        one k (inl p) = (b, sym e, ap (type_at ws) p ∙ is-it)
        one k (inr p) = absurd p

  pub argue-ends : (us : List Typ) (old pending : List ℕ) (next : Option ℕ) → next ≡ None → Arguing us old pending next → OpensArguments (constructors_at ts rows) y s us old pending
  argue-ends us old pending next e g' = so (subst (Arguing us old pending) e g')
    where
      so : Arguing us old pending None → OpensArguments (constructors_at ts rows) y s us old pending
      so g = record { numbers = g.numbers; is = g.is; below = g.below; sound = g.sound; complete = λ c a w. one c a w (own-found y (find (constructors_at ts rows) y c) a w) }
        where
          none-left : (n : ℕ) → ⊥ ⊎ Done us g.numbers n → Done us g.numbers n
          none-left n (inl h) = absurd h
          none-left n (inr d) = d

          one : (c : ℕ) (a : Typ) → Own c a → (k : clean.Constructor) × (find (constructors_at ts rows) y c ≡ Some k) → At us g.numbers (replace s a)
          one c a w f = let r = found-row rows ts y c f.0 f.1 in subst (Done us g.numbers) r.4 (none-left r.1.number (g.rest r.0 r.1 r.2 r.3)) a w

-- the types of parts stand for parameters

none-behind : (slots : List (ℕ × ℕ)) → drop (length slots) slots ≡ []
none-behind [] = refl
none-behind (x ∷ slots) = none-behind slots

pub all-left : (slots new : List (ℕ × ℕ)) → new ≡ drop (length slots - 0) slots → new ≡ []
all-left slots new e = e ∙ ap (λ n. drop n slots) (let p : length slots - 0 ≡ length slots = omega arith in p) ∙ none-behind slots

pub record Binding (slots : List (ℕ × ℕ)) (parts : List ℕ) (i : ℕ) : Type 0 where
  pub found : (v : ℕ) → lookup (nat_eq v) slots ≡ slice_get (take i parts) v
  pub held : (n : ℕ) → AllBelow n parts → AreHeld n slots

got-none : (v : ℕ) (parts : List ℕ) → slice_get (take 0 parts) v ≡ None
got-none v parts = refl

pub binding-begins : (slots : List (ℕ × ℕ)) (parts : List ℕ) → slots ≡ [] → Binding slots parts 0
binding-begins slots parts e = subst (λ l. Binding l parts 0) (sym e) (record { found = λ v. sym (got-none v parts); held = λ n b. tt })

got-here : (parts : List ℕ) (i d : ℕ) → i < length parts → slice_get (take (suc i) parts) i ≡ Some (slice_index_or parts i d)
got-here [] i d lt = absurd (omega arith)
got-here (p ∷ parts) zero d lt = refl
got-here (p ∷ parts) (suc i) d lt = got-here parts i d (omega arith)

got-there : (parts : List ℕ) (i v : ℕ) → i < length parts → (v ≡ i → ⊥) → slice_get (take (suc i) parts) v ≡ slice_get (take i parts) v
got-there [] i v lt n = absurd (omega arith)
got-there (p ∷ parts) zero zero lt n = absurd (n refl)
got-there (p ∷ parts) zero (suc v) lt n = refl
got-there (p ∷ parts) (suc i) zero lt n = refl
got-there (p ∷ parts) (suc i) (suc v) lt n = got-there parts i v (omega arith) (λ e. n (ap suc e))

got-more : (parts : List ℕ) (i v d : ℕ) → i < length parts → slice_get (take (suc i) parts) v ≡ (if nat_eq v i then Some (slice_index_or parts i d) else slice_get (take i parts) v)
got-more parts i v d lt = go (nat_eq v i) refl
  where
    go : (b : Bool) → nat_eq v i ≡ b → slice_get (take (suc i) parts) v ≡ (if b then Some (slice_index_or parts i d) else slice_get (take i parts) v)
    go true e = ap (slice_get (take (suc i) parts)) (eqb-true v i e) ∙ got-here parts i d lt
    go false e = got-there parts i v lt (λ p. false≢true (sym e ∙ eq-eqb v i p))

part-below : (parts : List ℕ) (n i d : ℕ) → i < length parts → AllBelow n parts → slice_index_or parts i d < n
part-below [] n i d lt b = absurd (omega arith)
part-below (p ∷ parts) n zero d lt b = b.0
part-below (p ∷ parts) n (suc i) d lt b = part-below parts n i d (omega arith) b.1

pub binding-goes : (slots new : List (ℕ × ℕ)) (parts : List ℕ) (i d : ℕ) → i < length parts → new ≡ (i, slice_index_or parts i d) ∷ slots → Binding slots parts i → Binding new parts (i + 1)
binding-goes slots new parts i d lt e b = subst (λ l. Binding l parts (i + 1)) (sym e) (record {
  found = λ v. ap (λ o. if nat_eq v i then Some (slice_index_or parts i d) else o) (b.found v) ∙ sym (got-more parts i v d lt) ∙ ap (λ m. slice_get (take m parts) v) one-more;
  held = λ n h. (part-below parts n i d lt h, b.held n h);
})
  where
    one-more : suc i ≡ i + 1
    one-more = omega arith

take-all : (l : List ℕ) (n : ℕ) → length l ≤ n → take n l ≡ l
take-all [] zero le = refl
take-all [] (suc n) le = refl
take-all (x ∷ l) zero le = absurd (omega arith)
take-all (x ∷ l) (suc n) le = ap (λ l. x ∷ l) (take-all l n (omega arith))

pub binding-found : (slots : List (ℕ × ℕ)) (parts : List ℕ) (i v : ℕ) → length parts ≤ i → Binding slots parts i → lookup (nat_eq v) slots ≡ slice_get parts v
binding-found slots parts i v le b = b.found v ∙ ap (λ l. slice_get l v) (take-all parts i le)

nth-part : (us : List Typ) (parts : List ℕ) (v : ℕ) → or_unit us (slice_get parts v) ≡ nth_type (map (type_at us) parts) v
nth-part us [] v = refl
nth-part us (p ∷ parts) zero = refl
nth-part us (p ∷ parts) (suc v) = nth-part us parts v

standing-parts : (us : List Typ) (slots : List (ℕ × ℕ)) (parts : List ℕ) → ((v : ℕ) → lookup (nat_eq v) slots ≡ slice_get parts v) → (v : ℕ) → standing us slots v ≡ nth_type (map (type_at us) parts) v
standing-parts us slots parts f v = ap (or_unit us) (f v) ∙ nth-part us parts v

-- what equality needs at once

pub opens-variable : (constructors : List clean.Constructor) (us : List Typ) (t : Typ) (v : ℕ) (old : List ℕ) → t ≡ var v → Opens constructors t us old old
opens-variable constructors us t v old e = record { numbers = []; is = sym (append-nil old); below = tt; sound = λ k h. absurd h; complete = λ u n. none-of u n }
  where
    none-of : (u : Typ) → NeedsAtOnce constructors t u → At us [] u
    none-of u (a_field ls ts i p) = let q : var v ≡ con (labels ls) ts = sym e ∙ i in absurd (cc)
    none-of u (an_argument c h) = let q : var v ≡ con (name h.datatype) (typs_of h.arguments) = sym e ∙ h.type in absurd (cc)

pub opens-arrow : (constructors : List clean.Constructor) (us : List Typ) (t : Typ) (g : Symbol) (ps : Typs) (old : List ℕ) → t ≡ con g ps → g ≡ arrow → Opens constructors t us old old
opens-arrow constructors us t g ps old e a = record { numbers = []; is = sym (append-nil old); below = tt; sound = λ k h. absurd h; complete = λ u n. none-of u n }
  where
    whole : t ≡ con arrow ps
    whole = e ∙ ap (λ g. con g ps) a

    none-of : (u : Typ) → NeedsAtOnce constructors t u → At us [] u
    none-of u (a_field ls ts i p) = let q : con arrow ps ≡ con (labels ls) ts = sym whole ∙ i in absurd (cc)
    none-of u (an_argument c h) = let q : con arrow ps ≡ con (name h.datatype) (typs_of h.arguments) = sym whole ∙ h.type in absurd (cc)

part-at : (us : List Typ) (parts : List ℕ) (k : ℕ) → Has parts k → IsPart (type_at us k) (types_at us parts)
part-at us [] k h = absurd h
part-at us (p ∷ parts) k (inl e) = subst (λ z. IsPart (type_at us z) (types_at us (p ∷ parts))) (sym e) this_part
part-at us (p ∷ parts) k (inr h) = further_part (part-at us parts k h)

at-part : (us : List Typ) (parts : List ℕ) (u : Typ) → IsPart u (types_at us parts) → At us parts u
at-part us [] u i = elim i [ ]
at-part us (p ∷ parts) u this_part = record { number = p; among = inl refl; is = refl }
at-part us (p ∷ parts) u (further_part i) = let a = at-part us parts u i in record { number = a.number; among = inr a.among; is = a.is }

pub opens-record : (constructors : List clean.Constructor) (us : List Typ) (t : Typ) (g : Symbol) (ls : List Label) (parts old new : List ℕ) → (t ≡ con g (types_at us parts)) × AllBelow (length us) parts → g ≡ labels ls → new ≡ old ++ parts → Opens constructors t us old new
opens-record constructors us t g ls parts old new v a n = record { numbers = parts; is = n; below = v.1; sound = λ k h. a_field ls (types_at us parts) whole (part-at us parts k h); complete = λ u h. one u h }
  where
    whole : t ≡ con (labels ls) (types_at us parts)
    whole = v.0 ∙ ap (λ g. con g (types_at us parts)) a

    one : (u : Typ) → NeedsAtOnce constructors t u → At us parts u
    one u (a_field ks ts i p) = let q : con (labels ls) (types_at us parts) ≡ con (labels ks) ts = sym whole ∙ i in let r : types_at us parts ≡ ts = cc in at-part us parts u (subst (IsPart u) (sym r) p)
    one u (an_argument c h) = let q : con (labels ls) (types_at us parts) ≡ con (name h.datatype) (typs_of h.arguments) = sym whole ∙ h.type in absurd (cc)

typs-same : (ts us : List Typ) → typs_of ts ≡ typs_of us → ts ≡ us
typs-same [] [] e = refl
typs-same [] (u ∷ us) e = absurd (cc)
typs-same (t ∷ ts) [] e = absurd (cc)
typs-same (t ∷ ts) (u ∷ us) e = let p : t ≡ u = cc in let q : typs_of ts ≡ typs_of us = cc in ap₂ (λ x l. x ∷ l) p (typs-same ts us q)

own-is : (y : TyName) (k : clean.Constructor) (a : Typ) → own_argument y (Some k) ≡ Some a → (k.datatype ≡ y) × (k.argument ≡ Some a)
own-is y k a e = go (same_name k.datatype y) refl e
  where
    go : (b : Bool) → same_name k.datatype y ≡ b → (if b then k.argument else None) ≡ Some a → (k.datatype ≡ y) × (k.argument ≡ Some a)
    go true d e = (name-is k.datatype y d, e)
    go false d e = absurd (cc)

is-own : (y : TyName) (k : clean.Constructor) (a : Typ) → k.datatype ≡ y → k.argument ≡ Some a → own_argument y (Some k) ≡ Some a
is-own y k a d e = ap (λ b. if b then k.argument else None) (ap (λ z. same_name z y) d ∙ symbol-same (name y)) ∙ e

argument-some : (ts : List Typ) (o : Option Typ) (u : Typ) → argument_at ts o ≡ Some u → (a : Typ) × (o ≡ Some a) × (u ≡ replace (nth_type ts) a)
argument-some ts None u e = absurd (cc)
argument-some ts (Some a) u e = (a, refl, sym (some-typ e))

pub opens-datatype : (constructors : List clean.Constructor) (us ws : List Typ) (t : Typ) (g : Symbol) (y : TyName) (slots : List (ℕ × ℕ)) (parts old new : List ℕ) → (t ≡ con g (types_at us parts)) × AllBelow (length us) parts → g ≡ name y
    → ((v : ℕ) → lookup (nat_eq v) slots ≡ slice_get parts v) → OpensArguments constructors y (standing us slots) ws old new → Opens constructors t ws old new
opens-datatype constructors us ws t g y slots parts old new v a f o = record { numbers = o.numbers; is = o.is; below = o.below; sound = sound; complete = λ u h. one u h }
  where
    ts : List Typ
    ts = map (type_at us) parts

    whole : t ≡ con (name y) (typs_of ts)
    whole = v.0 ∙ ap (λ g. con g (types_at us parts)) a

    same : (w : ℕ) → standing us slots w ≡ nth_type ts w
    same = standing-parts us slots parts f

    sound : (k : ℕ) → Has o.numbers k → NeedsAtOnce constructors t (type_at ws k)
    sound k h =
        let p = o.sound k h in
        let q = own-found y (find constructors y p.0) p.1 p.2 in
        let i = own-is y q.0 p.1 (sym (ap (own_argument y) q.1) ∙ p.2) in
        an_argument p.0 (record {
          datatype = y;
          arguments = ts;
          row = q.0;
          found = q.1;
          same = i.0;
          type = whole;
          argument = ap (argument_at ts) i.1 ∙ ap Some (sym (p.3 ∙ replace-same (standing us slots) (nth_type ts) same p.1));
        })

    one : (u : Typ) → NeedsAtOnce constructors t u → At ws o.numbers u
    one u (a_field ls ks i p) = let q : con (name y) (typs_of ts) ≡ con (labels ls) ks = sym whole ∙ i in absurd (cc)
    one u (an_argument c h) =
        let q : con (name y) (typs_of ts) ≡ con (name h.datatype) (typs_of h.arguments) = sym whole ∙ h.type in
        let d : y ≡ h.datatype = cc in
        let e : typs_of ts ≡ typs_of h.arguments = cc in
        let l = typs-same ts h.arguments e in
        let w = argument-some h.arguments h.row.argument u h.argument in
        let own : own_argument y (find constructors y c) ≡ Some w.0 = ap (own_argument y) (ap (λ z. find constructors z c) d ∙ h.found) ∙ is-own y h.row w.0 (h.same ∙ sym d) w.1 in
        let is : replace (standing us slots) w.0 ≡ u = replace-same (standing us slots) (nth_type ts) same w.0 ∙ ap (λ l. replace (nth_type l) w.0) l ∙ sym w.2 in
        subst (At ws o.numbers) is (o.complete c w.0 own)

-- the argument of a row

pub own-yes : (ts : List Typ) (r : Constructor) (y : TyName) → r.datatype ≡ y → option_map (type_at ts) r.argument ≡ own_argument y (Some (constructor_at ts r))
own-yes ts r y d = sym (ap (λ b. if b then option_map (type_at ts) r.argument else None) (ap (λ z. same_name z y) d ∙ symbol-same (name y)))

pub own-no : (ts : List Typ) (r : Constructor) (y : TyName) → (r.datatype ≡ y → ⊥) → None ≡ own_argument y (Some (constructor_at ts r))
own-no ts r y n = go (same_name r.datatype y) refl
  where
    go : (b : Bool) → same_name r.datatype y ≡ b → None ≡ (if b then option_map (type_at ts) r.argument else None)
    go true d = absurd (n (name-is r.datatype y d))
    go false d = refl

pub none-right : (ts us : List Typ) (s : ℕ → Typ) (known : ℕ → Option ℕ) → ((k : ℕ) → known k ≡ None) → AreRight ts s known us
none-right ts us s known h k n e = let p : None ≡ Some n = sym (h k) ∙ e in absurd (cc)
