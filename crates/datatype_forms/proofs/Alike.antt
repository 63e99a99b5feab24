-- Types of one type expression in contexts that have other type functions: they are alike, symbol by symbol.
use Rattle.std.proofs.Common.{◌≡◌, ℕ, zero, suc, Bool, true, false, cond, List, [], ◌∷◌, map, Option, Some, None, nat_eq, refl, sym, ap, ap₂, subst}
use Rattle.std.specs.Prelude.{option_map, option_and_then, unwrap_or}
use Rattle.std.specs.Option.{option_zip}
use Rattle.mlc_names.specs.declared.label.Label.{Label}
use Rattle.ty_core.specs.Types.{Symbol, arrow, labels, Typ, Typs, var, con, none, more, typs_of}
use Rattle.ty_core.specs.Statics.{TypeFunction, apply, argument, count, replace, replace_all}
use Rattle.ty_basis.specs.Types.{Row, function_type, labels_in, row_type}
use Rattle.label_rows.specs.Order.{label_before}
use Rattle.sml_tree.specs.BareTree as bare
use Rattle.core_rules.specs.Objects.{Context, TypeStructure, at, put_field, sorted}
use Rattle.core_rules.specs.Elaborated.{type_in, type_of, types_of, row_of}

-- three that there are, related, or none of them
pub data Thrice {A : Type 0} (R : A → A → A → Type 0) : Option A → Option A → Option A → Type 0 where
  no_one : Thrice R None None None
  each_one : {a b c : A} → R a b c → Thrice R (Some a) (Some b) (Some c)

pub moved : {A : Type 0} {R : A → A → A → Type 0} {o p q i j k : Option A} → i ≡ o → j ≡ p → k ≡ q → Thrice R i j k → Thrice R o p q
moved {R = R} {o = o} {p = p} {i = i} {j = j} {k = k} d e f h =
    subst (λ z. Thrice R o p z) f (subst (λ z. Thrice R o z k) e (subst (λ z. Thrice R z j k) d h))

module _ (P : Symbol → Symbol → Symbol → Type 0) where
  mutual
    pub data Alike : Typ → Typ → Typ → Type 0 where
      alike_var : (v : ℕ) → Alike (var v) (var v) (var v)
      alike_con : {h i j : Symbol} {ts us vs : Typs} → P h i j → AllAlike ts us vs → Alike (con h ts) (con i us) (con j vs)

    pub data AllAlike : Typs → Typs → Typs → Type 0 where
      none_alike : AllAlike none none none
      more_alike : {t u v : Typ} {ts us vs : Typs} → Alike t u v → AllAlike ts us vs → AllAlike (more t ts) (more u us) (more v vs)

  pub record FunctionsAlike (f g h : TypeFunction) : Type 0 where
    pub second : g.arity ≡ f.arity
    pub third : h.arity ≡ f.arity
    pub bodies : Alike f.body g.body h.body

  -- the same type variables, and type functions that are alike
  pub record ContextsAlike (c d e : Context) : Type 0 where
    pub tyvars : (a : ℕ) → Thrice Alike (at nat_eq c.tyvars a) (at nat_eq d.tyvars a) (at nat_eq e.tyvars a)
    pub types : (qs : List ℕ) (x : ℕ) → Thrice FunctionsAlike (option_map (λ y. y.function) (type_in c.env qs x)) (option_map (λ y. y.function) (type_in d.env qs x))
        (option_map (λ y. y.function) (type_in e.env qs x))

  -- types put for variables

  mutual
    replace-alike : (f g h : ℕ → Typ) → ((v : ℕ) → Alike (f v) (g v) (h v)) → {t u v : Typ} → Alike t u v → Alike (replace f t) (replace g u) (replace h v)
    replace-alike f g h k (alike_var v) = k v
    replace-alike f g h k (alike_con p as_) = alike_con p (replace-all f g h k as_)

    replace-all : (f g h : ℕ → Typ) → ((v : ℕ) → Alike (f v) (g v) (h v)) → {ts us vs : Typs} → AllAlike ts us vs → AllAlike (replace_all f ts) (replace_all g us) (replace_all h vs)
    replace-all f g h k none_alike = none_alike
    replace-all f g h k (more_alike a as_) = more_alike (replace-alike f g h k a) (replace-all f g h k as_)

  counts : {ts us vs : Typs} → AllAlike ts us vs → (count us ≡ count ts) × (count vs ≡ count ts)
  counts none_alike = (refl, refl)
  counts (more_alike a as_) = let e = counts as_ in (ap suc e.0, ap suc e.1)

  argument-thrice : {ts us vs : Typs} (v : ℕ) → AllAlike ts us vs → Thrice Alike (argument ts v) (argument us v) (argument vs v)
  argument-thrice v none_alike = no_one
  argument-thrice zero (more_alike a as_) = each_one a
  argument-thrice (suc v) (more_alike a as_) = argument-thrice v as_

  or-alike : {o p q : Option Typ} (v : ℕ) → Thrice Alike o p q → Alike (unwrap_or o (var v)) (unwrap_or p (var v)) (unwrap_or q (var v))
  or-alike v no_one = alike_var v
  or-alike v (each_one a) = a

  applied-if : (b c d : Bool) {t u v : Typ} → c ≡ b → d ≡ b → Alike t u v → Thrice Alike (cond b (Some t) None) (cond c (Some u) None) (cond d (Some v) None)
  applied-if true true true e f a = each_one a
  applied-if false false false e f a = no_one
  applied-if true false d e f a = absurd (cc)
  applied-if true true false e f a = absurd (cc)
  applied-if false true d e f a = absurd (cc)
  applied-if false false true e f a = absurd (cc)

  apply-alike : {f g h : TypeFunction} {ts us vs : Typs} → FunctionsAlike f g h → AllAlike ts us vs → Thrice Alike (apply f ts) (apply g us) (apply h vs)
  apply-alike {f = f} {g = g} {h = h} {ts = ts} {us = us} {vs = vs} k as_ =
      let n = counts as_ in
      applied-if (nat_eq (count ts) f.arity) (nat_eq (count us) g.arity) (nat_eq (count vs) h.arity) (ap₂ nat_eq n.0 k.second) (ap₂ nat_eq n.1 k.third)
      (replace-alike (λ v. unwrap_or (argument ts v) (var v)) (λ v. unwrap_or (argument us v) (var v)) (λ v. unwrap_or (argument vs v) (var v)) (λ v. or-alike v (argument-thrice v as_)) k.bodies)

  -- fields

  pub data FieldsAlike : Row → Row → Row → Type 0 where
    no_fields_alike : FieldsAlike [] [] []
    fields_alike : (l : Label) {t u v : Typ} {r s q : Row} → Alike t u v → FieldsAlike r s q → FieldsAlike ((l, t) ∷ r) ((l, u) ∷ s) ((l, v) ∷ q)

  put-by : (c : Bool) (l m : Label) {t u v w x y : Typ} {r s q i j k : Row} → Alike t u v → Alike w x y → FieldsAlike r s q → FieldsAlike i j k
      → FieldsAlike (cond c ((m, w) ∷ i) ((l, t) ∷ (m, w) ∷ r)) (cond c ((m, x) ∷ j) ((l, u) ∷ (m, x) ∷ s)) (cond c ((m, y) ∷ k) ((l, v) ∷ (m, y) ∷ q))
  put-by true l m a b fs gs = fields_alike m b gs
  put-by false l m a b fs gs = fields_alike l a (fields_alike m b fs)

  put-alike : (l : Label) {t u v : Typ} {r s q : Row} → Alike t u v → FieldsAlike r s q → FieldsAlike (put_field (l, t) r) (put_field (l, u) s) (put_field (l, v) q)
  put-alike l a no_fields_alike = fields_alike l a no_fields_alike
  put-alike l a (fields_alike m b fs) = put-by (label_before m l) l m a b fs (put-alike l a fs)

  sorted-alike : {r s q : Row} → FieldsAlike r s q → FieldsAlike (sorted r) (sorted s) (sorted q)
  sorted-alike no_fields_alike = no_fields_alike
  sorted-alike (fields_alike l a fs) = put-alike l a (sorted-alike fs)

  labels-same : {r s q : Row} → FieldsAlike r s q → (labels_in s ≡ labels_in r) × (labels_in q ≡ labels_in r)
  labels-same no_fields_alike = (refl, refl)
  labels-same (fields_alike l a fs) = let e = labels-same fs in (ap (λ ls. l ∷ ls) e.0, ap (λ ls. l ∷ ls) e.1)

  parts-alike : {r s q : Row} → FieldsAlike r s q → AllAlike (typs_of (map (λ f. f.1) r)) (typs_of (map (λ f. f.1) s)) (typs_of (map (λ f. f.1) q))
  parts-alike no_fields_alike = none_alike
  parts-alike (fields_alike l a fs) = more_alike a (parts-alike fs)

  -- type expressions

  zipped : {A B C : Type 0} {R : A → A → A → Type 0} {S : B → B → B → Type 0} {U : C → C → C → Type 0} (f : A × B → C) {a b c : Option A} {d e g : Option B}
      → ((i j k : A) (l m n : B) → R i j k → S l m n → U (f (i, l)) (f (j, m)) (f (k, n))) → Thrice R a b c → Thrice S d e g
      → Thrice U (option_map f (option_zip a d)) (option_map f (option_zip b e)) (option_map f (option_zip c g))
  zipped f k no_one h = no_one
  zipped f k (each_one r) no_one = no_one
  zipped f k (each_one {a = i} {b = j} {c = o} r) (each_one {a = l} {b = m} {c = n} s) = each_one (k i j o l m n r s)

  mapped : {A B : Type 0} {R : A → A → A → Type 0} {S : B → B → B → Type 0} (f : A → B) {a b c : Option A} → ((i j k : A) → R i j k → S (f i) (f j) (f k)) → Thrice R a b c
      → Thrice S (option_map f a) (option_map f b) (option_map f c)
  mapped f k no_one = no_one
  mapped f k (each_one {a = i} {b = j} {c = o} r) = each_one (k i j o r)

  abbrev applied : Option TypeFunction → Option Typs → Option Typ
  applied f o = option_and_then (λ us. option_and_then (λ g. apply g us) f) o

  applied-alike : {f g h : Option TypeFunction} {o p q : Option Typs} → Thrice FunctionsAlike f g h → Thrice AllAlike o p q → Thrice Alike (applied f o) (applied g p) (applied h q)
  applied-alike k no_one = no_one
  applied-alike no_one (each_one as_) = no_one
  applied-alike (each_one k) (each_one as_) = apply-alike k as_

  applied-same : (c : Context) (qs : List ℕ) (x : ℕ) (o : Option Typs)
      → applied (option_map (λ y. y.function) (type_in c.env qs x)) o ≡ option_and_then (λ us. option_and_then (λ s. apply s.function us) (type_in c.env qs x)) o
  applied-same c qs x None = refl
  applied-same c qs x (Some us) = by (type_in c.env qs x)
    where
      by : (o : Option TypeStructure) → option_and_then (λ g. apply g us) (option_map (λ y. y.function) o) ≡ option_and_then (λ s. apply s.function us) o
      by None = refl
      by (Some s) = refl

  module _ (arrows : P arrow arrow arrow) (records : (ls : List Label) → P (labels ls) (labels ls) (labels ls)) where
    record-alike : {r s q : Row} → FieldsAlike r s q → Alike (row_type (sorted r)) (row_type (sorted s)) (row_type (sorted q))
    record-alike {r = r} {s = s} {q = q} fs =
        let gs = sorted-alike fs in
        let e = labels-same gs in
        alike_con (subst (λ ls. P (labels (labels_in (sorted r))) (labels (labels_in (sorted s))) (labels ls)) (sym e.1)
        (subst (λ ls. P (labels (labels_in (sorted r))) (labels ls) (labels (labels_in (sorted r)))) (sym e.0) (records (labels_in (sorted r))))) (parts-alike gs)

    module _ (c d e : Context) (k : ContextsAlike c d e) where
      named-alike : (qs : List ℕ) (x : ℕ) {o p q : Option Typs} → Thrice AllAlike o p q
          → Thrice Alike (option_and_then (λ us. option_and_then (λ s. apply s.function us) (type_in c.env qs x)) o)
          (option_and_then (λ us. option_and_then (λ s. apply s.function us) (type_in d.env qs x)) p)
          (option_and_then (λ us. option_and_then (λ s. apply s.function us) (type_in e.env qs x)) q)
      named-alike qs x {o = o} {p = p} {q = q} h =
          moved (applied-same c qs x o) (applied-same d qs x p) (applied-same e qs x q) (applied-alike (k.types qs x) h)

      mutual
        pub types-alike : (t : bare.Ty) → Thrice Alike (type_of c t) (type_of d t) (type_of e t)
        types-alike (bare.var p a) = k.tyvars a.name
        types-alike (bare.fields p fs) = mapped (λ r. row_type (sorted r)) (λ r s q h. record-alike h) (row-alike fs)
        types-alike (bare.con p ts q x) = named-alike x.qualifiers x.id (all-alike ts)
        types-alike (bare.arrow p t u) =
            zipped (λ r. function_type r.0 r.1) (λ t u v w x y a b. alike_con arrows (more_alike a (more_alike b none_alike))) (types-alike t) (types-alike u)
        types-alike (bare.ill p) = no_one

        all-alike : (ts : bare.Tys) → Thrice AllAlike (types_of c ts) (types_of d ts) (types_of e ts)
        all-alike bare.no_tys = each_one none_alike
        all-alike (bare.ty t ts) = zipped (λ r. more r.0 r.1) (λ t u v ts us vs a as_. more_alike a as_) (types-alike t) (all-alike ts)

        row-alike : (fs : bare.TyFields) → Thrice FieldsAlike (row_of c fs) (row_of d fs) (row_of e fs)
        row-alike bare.no_ty_fields = each_one no_fields_alike
        row-alike (bare.ty_field l t fs) = zipped (λ r. (l, r.0) ∷ r.1) (λ t u v r s q a gs. fields_alike l a gs) (types-alike t) (row-alike fs)
