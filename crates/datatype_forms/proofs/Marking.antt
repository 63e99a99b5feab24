-- Types of one type expression, where datatypes are the type names of their places: with other equality attributes they are the same.
use Rattle.std.proofs.Common.{◌≡◌, ◌⊎◌, inl, inr, ◌≤◌, ◌+◌, ◌-◌, ℕ, zero, suc, Bool, true, false, cond, List, [], ◌∷◌, ◌++◌, length, Option, Some, None, nat_eq, nat_lt, slice_get, refl, sym, ap, ap₂, subst, ◌∙◌, arith}
use Rattle.std.specs.Prelude.{option_map, if◌then◌else◌}
use Rattle.std.specs.Option.{option_or}
use Rattle.std.proofs.lemmas.Bool.{le-ltb, lt-ltb, ltb-true}
use Rattle.ty_core.specs.Types.{Symbol, arrow, labels, name, Typ, Typs, var, con, none, more}
use Rattle.ty_core.specs.Statics.{TypeFunction, named, variables}
use Rattle.ty_core.specs.declared.name.TyName.{TyName}
use Rattle.ty_core.specs.declared.name.Equality.TheVariants.{ByArguments, Never}
use Rattle.sml_tree.specs.declared.ident.Tyvar.{Tyvar}
use Rattle.sml_tree.specs.BareTree.{ConBind, DataBind, Ty}
use Rattle.core_rules.specs.Objects.{Context, Env, Map, TypeStructure, at, plus, types, types_env, Over, AllOver, SymbolOver}
use Rattle.core_rules.specs.Elaborated.{bare_structures, behind_of, names_of, scope, type_in, with_parameters}
use Rattle.core_rules.proofs.LookUps.{at-joined, nat-tells}
use Rattle.datatype_equality.specs.Respects.{attribute_by, said, symbol_with, type_with, types_with}
use Rattle.datatype_forms.specs.Arguments.{AreArguments, AreBehind, AreStanding, OverIf, RowOver, RowsOver, in_names, row_with, rows_with}
use Rattle.datatype_forms.proofs.Alike.{Thrice, no_one, each_one, moved, Alike, alike_var, alike_con, AllAlike, none_alike, more_alike, FunctionsAlike, ContextsAlike, types-alike}

-- the first so many names have their attributes, and others have them as qs says
abbrev pub Marked : ℕ → ℕ → List Bool → Symbol → Symbol → Symbol → Type 0
Marked first count qs h i j = ((h ≡ i) × (h ≡ j)) ⊎ ((j ≡ symbol_with first qs i) × SymbolOver count i)

module _ (first count : ℕ) (qs : List Bool) where
  kept-symbol : (h : Symbol) → SymbolOver first h → symbol_with first qs h ≡ h
  kept-symbol arrow h = refl
  kept-symbol (labels ls) h = refl
  kept-symbol (name n) h = ap (λ b. name (record { stamp = n.stamp; arity = n.arity; equality = attribute_by n.equality (cond b None (slice_get qs (n.stamp - first))) })) h

  wider-symbol : first ≤ count → (h : Symbol) → SymbolOver first h → SymbolOver count h
  wider-symbol le arrow h = tt
  wider-symbol le (labels ls) h = tt
  wider-symbol le (name n) h = let lt = ltb-true n.stamp first h in lt-ltb n.stamp count (omega (arith, lt, le))

  marked-symbol : first ≤ count → (h i j : Symbol) → Marked first count qs h i j → SymbolOver first h → (j ≡ symbol_with first qs i) × SymbolOver count i
  marked-symbol le h i j (inl e) o =
      (subst (λ z. z ≡ symbol_with first qs i) e.1 (subst (λ z. h ≡ symbol_with first qs z) e.0 (sym (kept-symbol h o))), subst (SymbolOver count) e.0 (wider-symbol le h o))
  marked-symbol le h i j (inr e) o = e

  mutual
    pub marked-type : first ≤ count → {t u v : Typ} → Alike (Marked first count qs) t u v → Over first t → (v ≡ type_with first qs u) × Over count u
    marked-type le (alike_var v) o = (refl, tt)
    marked-type le (alike_con {h = h} {i = i} {j = j} p as_) o =
        let e = marked-symbol le h i j p o.0 in
        let f = marked-types le as_ o.1 in
        (ap₂ con e.0 f.0, (e.1, f.1))

    marked-types : first ≤ count → {ts us vs : Typs} → AllAlike (Marked first count qs) ts us vs → AllOver first ts → (vs ≡ types_with first qs us) × AllOver count us
    marked-types le none_alike o = (refl, tt)
    marked-types le (more_alike a as_) o =
        let e = marked-type le a o.0 in
        let f = marked-types le as_ o.1 in
        (ap₂ more e.0 f.0, (e.1, f.1))

  -- what is outside is the same in all

  mutual
    same-type : (t : Typ) → Alike (Marked first count qs) t t t
    same-type (var v) = alike_var v
    same-type (con h ts) = alike_con (inl (refl, refl)) (same-types ts)

    same-types : (ts : Typs) → AllAlike (Marked first count qs) ts ts ts
    same-types none = none_alike
    same-types (more t ts) = more_alike (same-type t) (same-types ts)

  same-function : (o : Option TypeFunction) → Thrice (FunctionsAlike (Marked first count qs)) o o o
  same-function None = no_one
  same-function (Some f) = each_one (record { second = refl; third = refl; bodies = same-type f.body })

  parameter-by : (b : Bool) (k : ℕ) (o : Option Typ) → Thrice (Alike (Marked first count qs)) o o o
      → Thrice (Alike (Marked first count qs)) (cond b (Some (var k)) o) (cond b (Some (var k)) o) (cond b (Some (var k)) o)
  parameter-by true k o h = each_one (alike_var k)
  parameter-by false k o h = h

  parameters-same : (k : ℕ) (as_ : List Tyvar) (a : ℕ) → Thrice (Alike (Marked first count qs)) (at nat_eq (scope k var as_) a) (at nat_eq (scope k var as_) a) (at nat_eq (scope k var as_) a)
  parameters-same k [] a = no_one
  parameters-same k (x ∷ as_) a = parameter-by (nat_eq a x.name) k (at nat_eq (scope (suc k) var as_) a) (parameters-same (suc k) as_ a)

  -- the new names

  pub data NamesAlike : List TyName → List TyName → List TyName → List DataBind → Type 0 where
    no_names_alike : {bs : List DataBind} → NamesAlike [] [] [] bs
    names_alike : (x y z : TyName) (b : DataBind) {xs ys zs : List TyName} {bs : List DataBind} → Marked first count qs (name x) (name y) (name z) → y.arity ≡ x.arity → z.arity ≡ x.arity
        → NamesAlike xs ys zs bs → NamesAlike (x ∷ xs) (y ∷ ys) (z ∷ zs) (b ∷ bs)

  variables-same : (v n : ℕ) → AllAlike (Marked first count qs) (variables v n) (variables v n) (variables v n)
  variables-same v zero = none_alike
  variables-same v (suc n) = more_alike (alike_var v) (variables-same (suc v) n)

  named-alike : (x y z : TyName) → Marked first count qs (name x) (name y) (name z) → y.arity ≡ x.arity → z.arity ≡ x.arity → FunctionsAlike (Marked first count qs) (named x) (named y) (named z)
  named-alike x y z p e f = record {
    second = e;
    third = f;
    bodies = alike_con p
        (subst (λ k. AllAlike (Marked first count qs) (variables 0 x.arity) (variables 0 y.arity) (variables 0 k)) (sym f)
        (subst (λ k. AllAlike (Marked first count qs) (variables 0 x.arity) (variables 0 k) (variables 0 x.arity)) (sym e) (variables-same 0 x.arity)));
  }

  abbrev found : Map ℕ TypeStructure → Map ℕ TypeStructure → ℕ → Option TypeFunction
  found us fs x = option_map (λ y. y.function) (option_or (at nat_eq fs x) (at nat_eq us x))

  names-found : (us : Map ℕ TypeStructure) (x : ℕ) {xs ys zs : List TyName} {bs : List DataBind} → NamesAlike xs ys zs bs
      → Thrice (FunctionsAlike (Marked first count qs)) (found us (bare_structures xs bs) x) (found us (bare_structures ys bs) x) (found us (bare_structures zs bs) x)
  names-found us x no_names_alike = same-function (option_map (λ y. y.function) (at nat_eq us x))
  names-found us x (names_alike n o p b {xs = xs} {ys = ys} {zs = zs} {bs = bs} m e f h) = by (nat_eq x b.tycon) (names-found us x h)
    where
      by : (c : Bool) → Thrice (FunctionsAlike (Marked first count qs)) (found us (bare_structures xs bs) x) (found us (bare_structures ys bs) x) (found us (bare_structures zs bs) x)
          → Thrice (FunctionsAlike (Marked first count qs))
          (option_map (λ y. y.function) (option_or (cond c (Some (record { function = named n; constructors = [] })) (at nat_eq (bare_structures xs bs) x)) (at nat_eq us x)))
          (option_map (λ y. y.function) (option_or (cond c (Some (record { function = named o; constructors = [] })) (at nat_eq (bare_structures ys bs) x)) (at nat_eq us x)))
          (option_map (λ y. y.function) (option_or (cond c (Some (record { function = named p; constructors = [] })) (at nat_eq (bare_structures zs bs) x)) (at nat_eq us x)))
      by true g = each_one (named-alike n o p m e f)
      by false g = g

  named-in : (e : Env) (fs : Map ℕ TypeStructure) (x : ℕ) → option_map (λ y. y.function) (at nat_eq (types (plus e (types_env fs))) x) ≡ found (types e) fs x
  named-in e fs x = ap (option_map (λ y. y.function)) (at-joined nat_eq nat-tells (types e) fs x)

  contexts-alike : (c : Context) (as_ : List Tyvar) {xs ys zs : List TyName} {bs : List DataBind} → NamesAlike xs ys zs bs
      → ContextsAlike (Marked first count qs) (with_parameters (in_names c xs bs) as_) (with_parameters (in_names c ys bs) as_) (with_parameters (in_names c zs bs) as_)
  contexts-alike c as_ {xs = xs} {ys = ys} {zs = zs} {bs = bs} h = record { tyvars = λ a. parameters-same 0 as_ a; types = types-of }
    where
      types-of : (q : List ℕ) (x : ℕ) → Thrice (FunctionsAlike (Marked first count qs)) (option_map (λ y. y.function) (type_in (in_names c xs bs).env q x))
          (option_map (λ y. y.function) (type_in (in_names c ys bs).env q x)) (option_map (λ y. y.function) (type_in (in_names c zs bs).env q x))
      types-of [] x =
          moved (sym (named-in c.env (bare_structures xs bs) x)) (sym (named-in c.env (bare_structures ys bs) x)) (sym (named-in c.env (bare_structures zs bs) x)) (names-found (types c.env) x h)
      types-of (r ∷ q) x = same-function (option_map (λ y. y.function) (type_in (in_names c xs bs).env (r ∷ q) x))

  -- arguments

  one-marked : first ≤ count → {o p q : Option Typ} (t u : Typ) → o ≡ Some t → p ≡ Some u → Thrice (Alike (Marked first count qs)) o p q → Over first t
      → (q ≡ Some (type_with first qs u)) × Over count u
  one-marked le t u e f no_one o = absurd (cc)
  one-marked le t u e f (each_one {a = a} {b = b} m) o =
      let ea : a ≡ t = cc in
      let eb : b ≡ u = cc in
      let r = marked-type le m (subst (Over first) (sym ea) o) in
      (ap Some (r.0 ∙ ap (type_with first qs) eb), subst (Over count) eb r.1)

  pub record Marks (o : Option (Option Typ)) (u : Option Typ) : Type 0 where
    pub is : o ≡ Some (option_map (type_with first qs) u)
    pub over : OverIf count u

  behind-by : first ≤ count → {o p q : Option Typ} → Thrice (Alike (Marked first count qs)) o p q → (t u : Option Typ) → option_map Some o ≡ Some t → option_map Some p ≡ Some u → OverIf first t
      → Marks (option_map Some q) u
  behind-by le no_one t u e f o = absurd (cc)
  behind-by le (each_one {a = a} {b = b} m) t u e f o =
      let ea : Some a ≡ t = cc in
      let eb : Some b ≡ u = cc in
      let r = marked-type le m (subst (OverIf first) (sym ea) o) in
      subst (Marks (Some (Some _))) eb (record { is = ap (λ x. Some (Some x)) r.0; over = r.1 })

  behind-marked : first ≤ count → (c d e : Context) → ContextsAlike (Marked first count qs) c d e → (ty : Option Ty) (t u : Option Typ) → behind_of c ty ≡ Some t → behind_of d ty ≡ Some u
      → OverIf first t → Marks (behind_of e ty) u
  behind-marked le c d e k None t u p q o = let h : None ≡ u = cc in subst (Marks (Some None)) h (record { is = refl; over = tt })
  behind-marked le c d e k (Some ty) t u p q o = behind-by le (types-alike (Marked first count qs) (inl (refl, refl)) (λ ls. inl (refl, refl)) c d e k ty) t u p q o

  row-marked : first ≤ count → (c d e : Context) (as_ : List Tyvar) → ContextsAlike (Marked first count qs) (with_parameters c as_) (with_parameters d as_) (with_parameters e as_)
      → (bs : List ConBind) (ts us : List (Option Typ)) → AreBehind c as_ bs ts → AreBehind d as_ bs us → RowOver first ts → AreBehind e as_ bs (row_with first qs us) × RowOver count us
  row-marked le c d e as_ k [] [] [] h g o = (tt, tt)
  row-marked le c d e as_ k [] [] (u ∷ us) h g o = absurd g
  row-marked le c d e as_ k [] (t ∷ ts) us h g o = absurd h
  row-marked le c d e as_ k (b ∷ bs) [] us h g o = absurd h
  row-marked le c d e as_ k (b ∷ bs) (t ∷ ts) [] h g o = absurd g
  row-marked le c d e as_ k (b ∷ bs) (t ∷ ts) (u ∷ us) h g o =
      let m = behind-marked le (with_parameters c as_) (with_parameters d as_) (with_parameters e as_) k b.of_ty t u h.0 g.0 o.0 in
      let r = row-marked le c d e as_ k bs ts us h.1 g.1 o.1 in
      ((m.is, r.0), (m.over, r.1))

  -- where the arguments have no names but those in use when each datatype is another name in use, they are those of any attributes
  rows-marked : first ≤ count → (c d e : Context)
      → ((as_ : List Tyvar) → ContextsAlike (Marked first count qs) (with_parameters c as_) (with_parameters d as_) (with_parameters e as_)) → (bs : List DataBind) (tss uss : List (List (Option Typ)))
      → AreArguments c bs tss → AreArguments d bs uss → RowsOver first tss → AreArguments e bs (rows_with first qs uss) × RowsOver count uss
  rows-marked le c d e k [] [] [] h g o = (tt, tt)
  rows-marked le c d e k [] [] (us ∷ uss) h g o = absurd g
  rows-marked le c d e k [] (ts ∷ tss) uss h g o = absurd h
  rows-marked le c d e k (b ∷ bs) [] uss h g o = absurd h
  rows-marked le c d e k (b ∷ bs) (ts ∷ tss) [] h g o = absurd g
  rows-marked le c d e k (b ∷ bs) (ts ∷ tss) (us ∷ uss) h g o =
      let m = row-marked le c d e b.tyvars (k b.tyvars) b.cons ts us h.0 g.0 o.0 in
      let r = rows-marked le c d e k bs tss uss h.1 g.1 o.1 in
      ((m.0, r.0), (m.1, r.1))

  pub arguments_marked : first ≤ count → (c : Context) {xs ys zs : List TyName} (bs : List DataBind) (tss uss : List (List (Option Typ))) → NamesAlike xs ys zs bs → AreArguments (in_names c xs bs) bs tss
      → AreArguments (in_names c ys bs) bs uss → RowsOver first tss → AreArguments (in_names c zs bs) bs (rows_with first qs uss) × RowsOver count uss
  arguments_marked le c {xs = xs} {ys = ys} {zs = zs} bs tss uss n h g o =
      rows-marked le (in_names c xs bs) (in_names c ys bs) (in_names c zs bs) (λ as_. contexts-alike c as_ n) bs tss uss h g o

-- names of their places: with one list of attributes, and with another one

pub found-at : {A : Type 0} (pre : List A) (x : A) (xs : List A) → slice_get (pre ++ x ∷ xs) (length pre) ≡ Some x
found-at [] x xs = refl
found-at (y ∷ pre) x xs = found-at pre x xs

past-first : (first n : ℕ) → nat_lt (first + n) first ≡ false
past-first first n = le-ltb (first + n) first (omega arith)

said-at : (first : ℕ) (pre qs : List Bool) (q : Bool) → said first (pre ++ q ∷ qs) (first + length pre) ≡ Some q
said-at first pre qs q =
    ap (λ b. cond b None (slice_get (pre ++ q ∷ qs) ((first + length pre) - first))) (past-first first (length pre))
    ∙ ap (slice_get (pre ++ q ∷ qs)) (let e : (first + length pre) - first ≡ length pre = omega arith in e) ∙ found-at pre q qs

marked-by : (first k a : ℕ) (pre qs : List Bool) (p q : Bool) → k ≡ first + length pre
    → symbol_with first (pre ++ q ∷ qs) (name (record { stamp = k; arity = a; equality = if p then ByArguments else Never }))
    ≡ name (record { stamp = k; arity = a; equality = if q then ByArguments else Never })
marked-by first k a pre qs p q e =
    let s : said first (pre ++ q ∷ qs) k ≡ Some q = ap (said first (pre ++ q ∷ qs)) e ∙ said-at first pre qs q in
    ap (λ o. name (record { stamp = k; arity = a; equality = attribute_by (if p then ByArguments else Never) o })) s ∙ by q
  where
    by : (q : Bool) → name (record { stamp = k; arity = a; equality = attribute_by (if p then ByArguments else Never) (Some q) })
        ≡ name (record { stamp = k; arity = a; equality = if q then ByArguments else Never })
    by true = refl
    by false = refl

pub append-one : {A : Type 0} (xs : List A) (y : A) (ys : List A) → (xs ++ y ∷ []) ++ ys ≡ xs ++ y ∷ ys
append-one [] y ys = refl
append-one (x ∷ xs) y ys = ap (λ l. x ∷ l) (append-one xs y ys)

pub length-one : {A : Type 0} (xs : List A) (y : A) → length (xs ++ y ∷ []) ≡ length xs + 1
length-one [] y = refl
length-one (x ∷ xs) y = let e = length-one xs y in omega (arith, e)

names-behind : (first count k : ℕ) (pre ps qs : List Bool) (xs : List TyName) (bs : List DataBind) → k ≡ first + length pre → k + length bs ≤ count → length ps ≡ length bs → length qs ≡ length bs
    → AreStanding xs bs → NamesAlike first count (pre ++ qs) xs (names_of k ps bs) (names_of k qs bs) bs
names-behind first count k pre [] [] [] [] e le lp lq h = no_names_alike
names-behind first count k pre [] [] (x ∷ xs) [] e le lp lq h = absurd h
names-behind first count k pre (p ∷ ps) qs xs [] e le lp lq h = absurd (omega (arith, lp))
names-behind first count k pre [] (q ∷ qs) xs [] e le lp lq h = absurd (omega (arith, lq))
names-behind first count k pre [] qs xs (b ∷ bs) e le lp lq h = absurd (omega (arith, lp))
names-behind first count k pre (p ∷ ps) [] xs (b ∷ bs) e le lp lq h = absurd (omega (arith, lq))
names-behind first count k pre (p ∷ ps) (q ∷ qs) [] (b ∷ bs) e le lp lq h = absurd h
names-behind first count k pre (p ∷ ps) (q ∷ qs) (x ∷ xs) (b ∷ bs) e le lp lq h =
    names_alike x (record { stamp = k; arity = length b.tyvars; equality = if p then ByArguments else Never }) (record { stamp = k; arity = length b.tyvars; equality = if q then ByArguments else Never }) b
    (inr (sym (marked-by first k (length b.tyvars) pre qs p q e), lt-ltb k count (omega (arith, le)))) (sym h.0) (sym h.0)
    (subst (λ l. NamesAlike first count l xs (names_of (suc k) ps bs) (names_of (suc k) qs bs) bs) (append-one pre q qs)
    (names-behind first count (suc k) (pre ++ q ∷ []) ps qs xs bs (let n = length-one pre q in omega (arith, n, e)) (omega (arith, le)) (omega (arith, lp)) (omega (arith, lq)) h.1))

pub names_alike_behind : (first : ℕ) (ps qs : List Bool) (xs : List TyName) (bs : List DataBind) → length ps ≡ length bs → length qs ≡ length bs → AreStanding xs bs
    → NamesAlike first (first + length bs) qs xs (names_of first ps bs) (names_of first qs bs) bs
names_alike_behind first ps qs xs bs lp lq h = names-behind first (first + length bs) first [] ps qs xs bs (omega arith) (omega arith) lp lq h
