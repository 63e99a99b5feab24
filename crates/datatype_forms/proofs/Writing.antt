-- Types of what stands behind `of` with abbreviations written out: they are those with the abbreviations as type functions.
use Rattle.std.proofs.Common.{◌≡◌, ◌+◌, ℕ, zero, suc, Bool, true, false, List, [], ◌∷◌, length, Option, Some, None, nat_eq, refl, sym, ap, subst, ◌∙◌, eqb-true, arith}
use Rattle.std.specs.Prelude.{option_map, option_and_then, unwrap_or, if◌then◌else◌}
use Rattle.std.specs.Option.{option_zip}
use Rattle.std.proofs.lemmas.Bool.{eq-eqb, lt-ltb, ltb-true}
use Rattle.std.specs.Prelude.{nat_lt}
use Rattle.mlc_base.specs.declared.place.Place.{Place}
use Rattle.mlc_names.specs.declared.label.Label.{Label}
use Rattle.ty_core.specs.Types.{Typ, Typs, var, none, more}
use Rattle.ty_core.specs.Statics.{TypeFunction, apply, argument, count, replace, replace_all}
use Rattle.ty_basis.specs.Types.{Row, function_type, row_type}
use Rattle.sml_tree.specs.declared.ident.Tyvar.{Tyvar}
use Rattle.sml_tree.specs.Terminal.{LongId}
use Rattle.sml_tree.specs.BareTree.{Ty, Tys, no_tys, ty, TyFields, no_ty_fields, ty_field, TypeBind}
use Rattle.sml_tree.specs.BareTree as bare
use Rattle.sml_tree.specs.Derived.{abbreviation, expand_ty, expand_tys, expand_ty_fields, put_ty, put_tys, put_ty_fields, same_length, tys_list, written_out}
use Rattle.sml_tree.specs.Derived as derived
use Rattle.core_rules.specs.Objects.{Context, TypeStructure, at, sorted}
use Rattle.core_rules.specs.Elaborated.{row_of, scope, type_in, type_of, types_of, with_parameters}
use Rattle.ir_poly.proofs.ReplaceLemmas.{replace-replace, row_read, row_type-read}
use Rattle.elab_typed.specs.Laws.{IsClosed}
use Rattle.elab_typed.proofs.Under.{sorted-under}

-- what comes of the first, if anything does, comes of the second
pub data Follows {A : Type 0} : Option A → Option A → Type 0 where
  from_none : {o : Option A} → Follows None o
  from_some : (a : A) → Follows (Some a) (Some a)

same : {A : Type 0} (o : Option A) → Follows o o
same None = from_none
same (Some a) = from_some a

mapped : {A B : Type 0} (f : A → B) {o p : Option A} → Follows o p → Follows (option_map f o) (option_map f p)
mapped f from_none = from_none
mapped f (from_some a) = from_some (f a)

zipped : {A B : Type 0} {o p : Option A} {q r : Option B} → Follows o p → Follows q r → Follows (option_zip o q) (option_zip p r)
zipped from_none h = from_none
zipped (from_some a) from_none = from_none
zipped (from_some a) (from_some b) = from_some (a, b)

chained : {A B : Type 0} (f : A → Option B) {o p : Option A} → Follows o p → Follows (option_and_then f o) (option_and_then f p)
chained f from_none = from_none
chained f (from_some a) = same (f a)

pub follows : {A : Type 0} {o p : Option A} (a : A) → Follows o p → o ≡ Some a → p ≡ Some a
follows a from_none e = absurd (cc)
follows a (from_some b) e = e

-- types put for variables

count-put : (s : ℕ → Typ) (us : Typs) → count (replace_all s us) ≡ count us
count-put s none = refl
count-put s (more u us) = ap suc (count-put s us)

argument-put : (s : ℕ → Typ) (us : Typs) (v : ℕ) (d e : Typ) → nat_lt v (count us) ≡ true → unwrap_or (argument (replace_all s us) v) d ≡ replace s (unwrap_or (argument us v) e)
argument-put s none v d e h = absurd (omega (arith, ltb-true v 0 h))
argument-put s (more u us) zero d e h = refl
argument-put s (more u us) (suc v) d e h = argument-put s us v d e (lt-ltb v (count us) (omega (arith, ltb-true (suc v) (suc (count us)) h)))

apply-put : (s : ℕ → Typ) (f : TypeFunction) (us : Typs) → IsClosed f → apply f (replace_all s us) ≡ option_map (replace s) (apply f us)
apply-put s f us k =
    ap (λ n. if nat_eq n f.arity then Some (replace (λ v. unwrap_or (argument (replace_all s us) v) (var v)) f.body) else None) (count-put s us)
    ∙ go (nat_eq (count us) f.arity) refl
  where
    go : (b : Bool) → nat_eq (count us) f.arity ≡ b → (if b then Some (replace (λ v. unwrap_or (argument (replace_all s us) v) (var v)) f.body) else None)
        ≡ option_map (replace s) (if b then Some (replace (λ v. unwrap_or (argument us v) (var v)) f.body) else None)
    go true e = ap Some
        (k (λ v. unwrap_or (argument (replace_all s us) v) (var v)) (λ v. replace s (unwrap_or (argument us v) (var v)))
        (λ v h. argument-put s us v (var v) (var v) (subst (λ n. nat_lt v n ≡ true) (sym (eqb-true (count us) f.arity e)) h))
        ∙ sym (replace-replace s (λ v. unwrap_or (argument us v) (var v)) f.body))
    go false e = refl

applied-put : (s : ℕ → Typ) (o : Option TypeStructure) (p : Option Typs) → ((f : TypeStructure) → o ≡ Some f → IsClosed f.function)
    → option_and_then (λ us. option_and_then (λ (x : TypeStructure). apply x.function us) o) (option_map (replace_all s) p)
    ≡ option_map (replace s) (option_and_then (λ us. option_and_then (λ (x : TypeStructure). apply x.function us) o) p)
applied-put s o None k = refl
applied-put s None (Some us) k = refl
applied-put s (Some f) (Some us) k = apply-put s f.function us (k f refl)

record-put : (s : ℕ → Typ) (o : Option Row) → option_map (λ r. row_type (sorted r)) (option_map (row_read s) o) ≡ option_map (replace s) (option_map (λ r. row_type (sorted r)) o)
record-put s None = refl
record-put s (Some r) = ap Some (sym (row_type-read s (sorted r) ∙ ap row_type (sorted-under s r)))

arrow-put : (s : ℕ → Typ) (o p : Option Typ) → option_map (λ r. function_type r.0 r.1) (option_zip (option_map (replace s) o) (option_map (replace s) p))
    ≡ option_map (replace s) (option_map (λ r. function_type r.0 r.1) (option_zip o p))
arrow-put s None p = refl
arrow-put s (Some t) None = refl
arrow-put s (Some t) (Some u) = refl

more-put : (s : ℕ → Typ) (o : Option Typ) (p : Option Typs) → option_map (λ r. more r.0 r.1) (option_zip (option_map (replace s) o) (option_map (replace_all s) p))
    ≡ option_map (replace_all s) (option_map (λ r. more r.0 r.1) (option_zip o p))
more-put s None p = refl
more-put s (Some t) None = refl
more-put s (Some t) (Some ts) = refl

field-put : (s : ℕ → Typ) (l : Label) (o : Option Typ) (p : Option Row) → option_map (λ (r : Typ × Row). (l, r.0) ∷ r.1) (option_zip (option_map (replace s) o) (option_map (row_read s) p))
    ≡ option_map (row_read s) (option_map (λ (r : Typ × Row). (l, r.0) ∷ r.1) (option_zip o p))
field-put s l None p = refl
field-put s l (Some t) None = refl
field-put s l (Some t) (Some r) = refl

-- the arguments of an abbreviation

record Parts (c : Context) (t : Ty) (ts : Tys) (us : Typs) : Type 0 where
  first : Typ
  rest : Typs
  are : us ≡ more first rest
  first_of : type_of c t ≡ Some first
  rest_of : types_of c ts ≡ Some rest

parts-of : (c : Context) (t : Ty) (ts : Tys) (us : Typs) → types_of c (ty t ts) ≡ Some us → Parts c t ts us
parts-of c t ts us e = by (type_of c t) (types_of c ts) refl refl e
  where
    by : (o : Option Typ) (p : Option Typs) → type_of c t ≡ o → types_of c ts ≡ p → option_map (λ r. more r.0 r.1) (option_zip o p) ≡ Some us → Parts c t ts us
    by None p f g e = absurd (cc)
    by (Some u) None f g e = absurd (cc)
    by (Some u) (Some vs) f g e = record { first = u; rest = vs; are = let q : more u vs ≡ us = cc in sym q; first_of = f; rest_of = g }

as-many : (c : Context) (as_ : List Tyvar) (ts : Tys) (us : Typs) → types_of c ts ≡ Some us → same_length as_ (tys_list ts) ≡ true → count us ≡ length as_
as-many c [] no_tys us e l = let q : none ≡ us = cc in ap count (sym q)
as-many c [] (ty t ts) us e l = absurd (cc)
as-many c (a ∷ as_) no_tys us e l = absurd (cc)
as-many c (a ∷ as_) (ty t ts) us e l = let p = parts-of c t ts us e in ap count p.are ∙ ap suc (as-many c as_ ts p.rest p.rest_of l)

not-as-many : (c : Context) (as_ : List Tyvar) (ts : Tys) (us : Typs) → types_of c ts ≡ Some us → same_length as_ (tys_list ts) ≡ false → count us ≡ length as_ → ⊥
not-as-many c [] no_tys us e l n = absurd (cc)
not-as-many c [] (ty t ts) us e l n = let p = parts-of c t ts us e in let m : suc (count p.rest) ≡ 0 = ap count (sym p.are) ∙ n in omega (arith, m)
not-as-many c (a ∷ as_) no_tys us e l n =
    let q : none ≡ us = cc in let m : 0 ≡ suc (length as_) = ap count q ∙ n in omega (arith, m)
not-as-many c (a ∷ as_) (ty t ts) us e l n =
    let p = parts-of c t ts us e in
    let m : suc (count p.rest) ≡ suc (length as_) = ap count (sym p.are) ∙ n in
    not-as-many c as_ ts p.rest p.rest_of l (omega (arith, m))

fits : (c : Context) (as_ : List Tyvar) (ts : Tys) (us : Typs) (z : Bool) → types_of c ts ≡ Some us → same_length as_ (tys_list ts) ≡ z → z ≡ nat_eq (count us) (length as_)
fits c as_ ts us true e l = sym (eq-eqb (count us) (length as_) (as-many c as_ ts us e l))
fits c as_ ts us false e l = by (nat_eq (count us) (length as_)) refl
  where
    by : (b : Bool) → nat_eq (count us) (length as_) ≡ b → false ≡ b
    by true q = absurd (not-as-many c as_ ts us e l (eqb-true (count us) (length as_) q))
    by false q = refl

abbrev given : Typs → ℕ → Typ
given us v = unwrap_or (argument us v) (var v)

parameter : (c : Context) (g : ℕ → Typ) (p : Place) (a : Tyvar) (k : ℕ) (as_ : List Tyvar) (ts : Tys) (us : Typs) → types_of c ts ≡ Some us → same_length as_ (tys_list ts) ≡ true
    → ((v : ℕ) (t : Typ) → argument us v ≡ Some t → g (k + v) ≡ t) → Follows (option_map (replace g) (at nat_eq (scope k var as_) a.name)) (type_of c (derived.argument as_ (tys_list ts) p a))
parameter c g p a k [] ts us e l h = from_none
parameter c g p a k (b ∷ as_) no_tys us e l h = absurd (cc)
parameter c g p a k (b ∷ as_) (ty t ts) us e l h =
    let q = parts-of c t ts us e in
    by (nat_eq a.name b.name) q.first q.first_of (ap g (let z : k ≡ k + 0 = omega arith in z) ∙ h 0 q.first (ap (λ vs. argument vs 0) q.are))
    (parameter c g p a (suc k) as_ ts q.rest q.rest_of l (λ v u i. ap g (let z : suc k + v ≡ k + suc v = omega arith in z) ∙ h (suc v) u (ap (λ vs. argument vs (suc v)) q.are ∙ i)))
  where
    by : (z : Bool) (u : Typ) → type_of c t ≡ Some u → g k ≡ u → Follows (option_map (replace g) (at nat_eq (scope (suc k) var as_) a.name)) (type_of c (derived.argument as_ (tys_list ts) p a))
        → Follows (option_map (replace g) (if z then Some (var k) else at nat_eq (scope (suc k) var as_) a.name)) (type_of c (if z then t else derived.argument as_ (tys_list ts) p a))
    by true u f here rest = subst (Follows (Some (g k))) (ap Some here ∙ sym f) (from_some (g k))
    by false u f here rest = rest

abbrev pub AreClosed : Context → Type 0
AreClosed c = (qs : List ℕ) (x : ℕ) (f : TypeStructure) → type_in c.env qs x ≡ Some f → IsClosed f.function

module _ (c : Context) (closed : AreClosed c) (as_ : List Tyvar) (ts : Tys) (us : Typs) (e : types_of c ts ≡ Some us) (l : same_length as_ (tys_list ts) ≡ true) where
  moved : {A : Type 0} {o p q : Option A} → o ≡ p → Follows o q → Follows p q
  moved {q = q} e h = subst (λ z. Follows z q) e h

  mutual
    put : (t : Ty) → Follows (option_map (replace (given us)) (type_of (with_parameters c as_) t)) (type_of c (put_ty as_ (tys_list ts) t))
    put (bare.var p a) = parameter c (given us) p a 0 as_ ts us e l (λ v t i. ap (given us) (let z : 0 + v ≡ v = omega arith in z) ∙ ap (λ o. unwrap_or o (var v)) i)
    put (bare.fields p fs) = moved (record-put (given us) (row_of (with_parameters c as_) fs)) (mapped (λ r. row_type (sorted r)) (put-row fs))
    put (bare.con p vs q x) =
        moved (applied-put (given us) (type_in c.env x.qualifiers x.id) (types_of (with_parameters c as_) vs) (closed x.qualifiers x.id))
        (chained (λ us. option_and_then (λ (f : TypeStructure). apply f.function us) (type_in c.env x.qualifiers x.id)) (put-all vs))
    put (bare.arrow p t u) =
        moved (arrow-put (given us) (type_of (with_parameters c as_) t) (type_of (with_parameters c as_) u)) (mapped (λ r. function_type r.0 r.1) (zipped (put t) (put u)))
    put (bare.ill p) = from_none

    put-all : (vs : Tys) → Follows (option_map (replace_all (given us)) (types_of (with_parameters c as_) vs)) (types_of c (put_tys as_ (tys_list ts) vs))
    put-all no_tys = from_some none
    put-all (ty t vs) =
        moved (more-put (given us) (type_of (with_parameters c as_) t) (types_of (with_parameters c as_) vs)) (mapped (λ r. more r.0 r.1) (zipped (put t) (put-all vs)))

    put-row : (fs : TyFields) → Follows (option_map (row_read (given us)) (row_of (with_parameters c as_) fs)) (row_of c (put_ty_fields as_ (tys_list ts) fs))
    put-row no_ty_fields = from_some []
    put-row (ty_field k t fs) =
        moved (field-put (given us) k (type_of (with_parameters c as_) t) (row_of (with_parameters c as_) fs)) (mapped (λ r. (k, r.0) ∷ r.1) (zipped (put t) (put-row fs)))

-- abbreviations as type functions

abbrev pub function_by : Context → List ℕ → ℕ → Option TypeBind → Option TypeFunction
function_by c qs x None = option_map (λ f. f.function) (type_in c.env qs x)
function_by c qs x (Some b) = option_map (λ t. record { arity = length b.tyvars; body = t }) (type_of (with_parameters c b.tyvars) b.ty)

abbrev applied : Option TypeFunction → Typs → Option Typ
applied o us = option_and_then (λ g. apply g us) o

applied-same : (o : Option TypeStructure) (us : Typs) → applied (option_map (λ f. f.function) o) us ≡ option_and_then (λ (f : TypeStructure). apply f.function us) o
applied-same None us = refl
applied-same (Some f) us = refl

module _ (c d : Context) (bs : List TypeBind) (closed : AreClosed c) (tyvars : (a : ℕ) → at nat_eq d.tyvars a ≡ at nat_eq c.tyvars a)
    (functions : (x : LongId) → option_map (λ f. f.function) (type_in d.env x.qualifiers x.id) ≡ function_by c x.qualifiers x.id (abbreviation bs x)) where
  abbreviated : (p : Place) (ts : Tys) (us : Typs) (q : Place) (x : LongId) → types_of c ts ≡ Some us → (b : TypeBind)
      → Follows (applied (function_by c x.qualifiers x.id (Some b)) us) (type_of c (written_out p ts q x (Some b)))
  abbreviated p ts us q x e b = by (type_of (with_parameters c b.tyvars) b.ty) refl (same_length b.tyvars (tys_list ts)) refl
    where
      by : (o : Option Typ) → type_of (with_parameters c b.tyvars) b.ty ≡ o → (z : Bool) → same_length b.tyvars (tys_list ts) ≡ z
          → Follows (applied (option_map (λ t. record { arity = length b.tyvars; body = t }) o) us) (type_of c (if z then put_ty b.tyvars (tys_list ts) b.ty else bare.ill p))
      by None f z l = from_none
      by (Some t) f true l =
          subst (λ (m : Bool). Follows (if m then Some (replace (given us) t) else None) (type_of c (put_ty b.tyvars (tys_list ts) b.ty))) (fits c b.tyvars ts us true e l)
          (subst (λ o. Follows (option_map (replace (given us)) o) (type_of c (put_ty b.tyvars (tys_list ts) b.ty))) f (put c closed b.tyvars ts us e l b.ty))
      by (Some t) f false l =
          subst (λ (m : Bool). Follows (if m then Some (replace (given us) t) else None) None) (fits c b.tyvars ts us false e l) from_none

  named : (p : Place) (ts : Tys) (us : Typs) (q : Place) (x : LongId) → types_of c ts ≡ Some us → (m : Option TypeBind)
      → Follows (applied (function_by c x.qualifiers x.id m) us) (type_of c (written_out p ts q x m))
  named p ts us q x e None =
      subst (λ o. Follows (applied (option_map (λ f. f.function) (type_in c.env x.qualifiers x.id)) us) (option_and_then (λ vs. option_and_then (λ (f : TypeStructure). apply f.function vs) (type_in c.env x.qualifiers x.id)) o))
      (sym e) (subst (Follows (applied (option_map (λ f. f.function) (type_in c.env x.qualifiers x.id)) us)) (applied-same (type_in c.env x.qualifiers x.id) us) (same (applied (option_map (λ f. f.function) (type_in c.env x.qualifiers x.id)) us)))
  named p ts us q x e (Some b) = abbreviated p ts us q x e b

  expanded : (p : Place) (ts : Tys) (q : Place) (x : LongId) {o r : Option Typs} → Follows o r → types_of c ts ≡ r
      → Follows (option_and_then (λ us. option_and_then (λ (f : TypeStructure). apply f.function us) (type_in d.env x.qualifiers x.id)) o) (type_of c (written_out p ts q x (abbreviation bs x)))
  expanded p ts q x from_none e = from_none
  expanded p ts q x (from_some us) e =
      subst (λ o. Follows o (type_of c (written_out p ts q x (abbreviation bs x)))) (ap (λ o. applied o us) (sym (functions x)) ∙ applied-same (type_in d.env x.qualifiers x.id) us)
      (named p ts us q x e (abbreviation bs x))

  mutual
    pub written : (t : Ty) → Follows (type_of d t) (type_of c (expand_ty bs t))
    written (bare.var p a) = subst (Follows (at nat_eq d.tyvars a.name)) (tyvars a.name) (same (at nat_eq d.tyvars a.name))
    written (bare.fields p fs) = mapped (λ r. row_type (sorted r)) (written-row fs)
    written (bare.con p ts q x) = expanded p (expand_tys bs ts) q x (written-all ts) refl
    written (bare.arrow p t u) = mapped (λ r. function_type r.0 r.1) (zipped (written t) (written u))
    written (bare.ill p) = from_none

    written-all : (ts : Tys) → Follows (types_of d ts) (types_of c (expand_tys bs ts))
    written-all no_tys = from_some none
    written-all (ty t ts) = mapped (λ r. more r.0 r.1) (zipped (written t) (written-all ts))

    written-row : (fs : TyFields) → Follows (row_of d fs) (row_of c (expand_ty_fields bs fs))
    written-row no_ty_fields = from_some []
    written-row (ty_field l t fs) = mapped (λ r. (l, r.0) ∷ r.1) (zipped (written t) (written-row fs))
