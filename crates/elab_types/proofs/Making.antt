-- What the parts of a type expression stand for makes what it stands for.
use Rattle.std.proofs.Common.{◌≡◌, ℕ, zero, suc, ◌<◌, ◌≤◌, Bool, true, false, cond, List, [], ◌∷◌, map, length, take, nat_eq, max, Option, Some, None, slice_get, unwrap_or, refl, sym, ap, ap₂, subst, ◌∙◌, arith}
use Rattle.std.specs.Prelude.{option_map, option_and_then}
use Rattle.std.specs.Option.{option_zip}
use Rattle.std.specs.Map.{lookup}
use Rattle.std.proofs.Common.{eq-eqb, get_or, nat_lt, ◌-◌, Vec, Box, Global}
use Rattle.std.proofs.lemmas.Bool.{eqb-true}
use Rattle.ty_instance.specs.Images.{image_at}
use Rattle.std.proofs.lemmas.Option.{slice_get_within, get_or_from_slice_get}
use Rattle.mlc_names.specs.declared.label.Label.{Label}
use Rattle.mlc_names.specs.declared.label.Label.TheVariants.{Number}
use Rattle.mlc_base.specs.declared.place.Place.{Place}
use Rattle.ty_core.specs.Types.{Typ, var, con, Typs, none, more, typs_of, labels}
use Rattle.ty_core.specs.Statics.{TypeFunction, apply, argument, count, replace, replace_all}
use Rattle.ty_basis.specs.Types.{Row, function_type, row_type}
use Rattle.ty_table.specs.TypeAt.{type_at, types_at, top, tops}
use Rattle.ty_instance.proofs.of_ty_solve.Holding.{type-stays}
use Rattle.sml_tree.specs.BareTree as bare
use Rattle.sml_tree.specs.BareTree.{Ty}
use Rattle.sml_tree.specs.Terminal.{LongId}
use Rattle.sml_tree.specs.declared.ident.Tyvar.{Tyvar}
use Rattle.sml_tree.specs.declared.ident.LongId.{LongId as LongIdCode}
use Rattle.sml_tree.specs.declared.tree.Ty as code
use Rattle.sml_tree.specs.declared.tree.Ty.TheVariants.{Record, Con, Product, Arrow}
use Rattle.sml_tree.specs.declared.tree.TyField.{TyField}
use Rattle.sml_tree.specs.declared.tree.TyPart.{TyPart}
use Rattle.sml_tree.specs.Derived.{tys_of, TyAt, numbered_tys, product, arrows}
use Rattle.sml_tree.specs.TreeOf.{ty_of, long_id_of, ty_fields_of, ty_field_of, ty_part_of}
use Rattle.core_rules.specs.Objects as static
use Rattle.core_rules.specs.Objects.{Context, TypeStructure}
use Rattle.core_rules.specs.Elaborated.{type_of, types_of, row_of, type_in}
use Rattle.label_rows.specs.Sorting.{sorted}
use Rattle.label_rows.proofs.Mapped.{sorted-map}
use Rattle.label_rows.specs.declared.sort.Field.{Field}
use Rattle.elab_types.specs.Building.{labels_of, parts_of, numbered_from, functions}
use Rattle.elab_types.specs.Reading.{entry_of, function_in, Reads, Holds}
use Rattle.elab_types.specs.declared.refused.Refused.{Refused}
use Rattle.elab_types.specs.Annotations.{IsRefusal, IsTypeOf, Each, AreTypesOf, each_type, labels_at, tys_at, types_behind, applied_at}
use Rattle.elab_types.specs.declared.scope.TypeEntry.{TypeEntry}
use Rattle.elab_types.specs.declared.scope.TypeScope.{TypeScope}
use Rattle.elab_types.proofs.Holding.{tyvar-held}
use Rattle.elab_types.proofs.Keeping.{entry-closed, holds_later, reads-later, zip-none, Collected, refused-in, typed-as}
use Rattle.elab_types.proofs.Trees.{ty_of-Record, ty_of-Con, ty_of-Product, ty_of-Arrow}

-- type variables

pub var-is : (old : List Typ) (s : TypeScope) (p : Place) (a : Tyvar) (k : ℕ) → Holds old s → lookup (nat_eq a.name) s.tyvars ≡ Some k → IsTypeOf old old s (bare.var p a) k
var-is old s p a k h e = record { held = tyvar-held old s h a.name k e; is = λ f c r. r.tyvars a.name ∙ ap (option_map (λ k. replace f (type_at old k))) e }

pub var-none : (old : List Typ) (s : TypeScope) (p : Place) (a : Tyvar) → lookup (nat_eq a.name) s.tyvars ≡ None → (f : ℕ → Typ) (c : Context) → Reads old s f c → type_of c (bare.var p a) ≡ None
var-none old s p a e f c r = r.tyvars a.name ∙ ap (option_map (λ k. replace f (type_at old k))) e

-- type constructors

each-types : (c : Context) (f : ℕ → Typ) (ts : List Typ) (tys : List Ty) (ks : List ℕ) → Each c f ts tys ks → types_of c (tys_of tys) ≡ Some (replace_all f (types_at ts ks))
each-types c f ts [] [] h = refl
each-types c f ts [] (k ∷ ks) h = absurd h
each-types c f ts (t ∷ tys) [] h = absurd h
each-types c f ts (t ∷ tys) (k ∷ ks) h = ap₂ (λ o p. option_map (λ r. more r.0 r.1) (option_zip o p)) h.0 (each-types c f ts tys ks h.1)

types-none : (c : Context) (tys : List Ty) → each_type c tys ≡ None → types_of c (tys_of tys) ≡ None
types-none c tys e = same tys ∙ ap (option_map typs_of) e
  where
    step : (o : Option Typ) (p : Option Typs) (q : Option (List Typ)) → p ≡ option_map typs_of q
        → option_map (λ r. more r.0 r.1) (option_zip o p) ≡ option_map typs_of (option_map (λ r. r.0 ∷ r.1) (option_zip o q))
    step None p q e = refl
    step (Some t) p None e = ap (λ p. option_map (λ r. more r.0 r.1) (option_zip (Some t) p)) e
    step (Some t) p (Some us) e = ap (λ p. option_map (λ r. more r.0 r.1) (option_zip (Some t) p)) e

    same : (tys : List Ty) → types_of c (tys_of tys) ≡ option_map typs_of (each_type c tys)
    same [] = refl
    same (t ∷ tys) = step (type_of c t) (types_of c (tys_of tys)) (each_type c tys) (same tys)

count-same : (f : ℕ → Typ) (us : Typs) → count (replace_all f us) ≡ count us
count-same f none = refl
count-same f (more t ts) = ap suc (count-same f ts)

argument-same : (f : ℕ → Typ) (us : Typs) (v : ℕ) (d : Typ) → v < count us → unwrap_or (argument (replace_all f us) v) d ≡ replace f (unwrap_or (argument us v) d)
argument-same f none v d lt = absurd (omega (arith, lt))
argument-same f (more t ts) zero d lt = refl
argument-same f (more t ts) (suc v) d lt = argument-same f ts v d (omega (arith, lt))

left-max : (a b n : ℕ) → max a b ≤ n → a ≤ n
left-max a b n h = grind (arith, h)

right-max : (a b n : ℕ) → max a b ≤ n → b ≤ n
right-max a b n h = grind (arith, h)

mutual
  put-closed : (f : ℕ → Typ) (us : Typs) (t : Typ) → top t ≤ count us
      → replace (λ v. unwrap_or (argument (replace_all f us) v) (var v)) t ≡ replace f (replace (λ v. unwrap_or (argument us v) (var v)) t)
  put-closed f us (var v) le = argument-same f us v (var v) (omega (arith, le))
  put-closed f us (con h ts) le = ap (con h) (put-all-closed f us ts le)

  put-all-closed : (f : ℕ → Typ) (us : Typs) (ts : Typs) → tops ts ≤ count us
      → replace_all (λ v. unwrap_or (argument (replace_all f us) v) (var v)) ts ≡ replace_all f (replace_all (λ v. unwrap_or (argument us v) (var v)) ts)
  put-all-closed f us none le = refl
  put-all-closed f us (more t ts) le =
      ap₂ more (put-closed f us t (left-max (top t) (tops ts) (count us) le)) (put-all-closed f us ts (right-max (top t) (tops ts) (count us) le))

applied-same : (f : ℕ → Typ) (g : TypeFunction) (us : Typs) → top g.body ≤ g.arity → apply g (replace_all f us) ≡ option_map (replace f) (apply g us)
applied-same f g us le =
    ap (λ n. cond (nat_eq n g.arity) (Some (replace (λ v. unwrap_or (argument (replace_all f us) v) (var v)) g.body)) None) (count-same f us)
    ∙ by (nat_eq (count us) g.arity) refl
  where
    by : (b : Bool) → nat_eq (count us) g.arity ≡ b
        → cond b (Some (replace (λ v. unwrap_or (argument (replace_all f us) v) (var v)) g.body)) None
        ≡ option_map (replace f) (cond b (Some (replace (λ v. unwrap_or (argument us v) (var v)) g.body)) None)
    by true q = ap Some (put-closed f us g.body (let e = eqb-true (count us) g.arity q in omega (arith, le, e)))
    by false q = refl

-- what a type constructor of the context gives is what that of the scope does
constructor-applied : (ts : List Typ) (s : TypeScope) (f : ℕ → Typ) (c : Context) (qs : List ℕ) (x : ℕ) (ks : List ℕ) → Holds ts s → Reads ts s f c
    → option_and_then (λ y. apply y.function (replace_all f (types_at ts ks))) (type_in c.env qs x) ≡ option_map (replace f) (applied_at ts s qs x ks)
constructor-applied ts s f c qs x ks h r =
    through (type_in c.env qs x) ∙ ap (option_and_then (λ g. apply g (replace_all f (types_at ts ks)))) (r.types qs x) ∙ by (entry_of s qs x) (λ e q. entry-closed ts s h qs x e q)
  where
    through : (o : Option TypeStructure) → option_and_then (λ y. apply y.function (replace_all f (types_at ts ks))) o
        ≡ option_and_then (λ g. apply g (replace_all f (types_at ts ks))) (option_map (λ y. y.function) o)
    through None = refl
    through (Some y) = refl

    by : (o : Option TypeEntry) → ((e : TypeEntry) → o ≡ Some e → top (type_at ts e.body) ≤ e.arity)
        → option_and_then (λ g. apply g (replace_all f (types_at ts ks))) (option_map (function_in ts) o)
        ≡ option_map (replace f) (option_and_then (λ e. apply (function_in ts e) (types_at ts ks)) o)
    by None b = refl
    by (Some e) b = applied-same f (function_in ts e) (types_at ts ks) (b e refl)

con-of : (old T : List Typ) (s : TypeScope) (p q : Place) (x : LongId) (tys : List Ty) (ks : List ℕ) → Holds old s → Holds T s → Collected old T s tys ks
    → (f : ℕ → Typ) (c : Context) → Reads old s f c → type_of c (bare.con p (tys_of tys) q x) ≡ option_map (replace f) (applied_at T s x.qualifiers x.id ks)
con-of old T s p q x tys ks h hT l f c r =
    ap (option_and_then (λ us. option_and_then (λ s. apply s.function us) (type_in c.env x.qualifiers x.id))) (each-types c f T tys ks (l.are.are f c r))
    ∙ constructor-applied T s f c x.qualifiers x.id ks hT (reads-later old T s f c l.kept h r)

pub con-is : (old T new : List Typ) (s : TypeScope) (p q : Place) (x : LongId) (tys : List Ty) (ks : List ℕ) (r : ℕ) → Holds old s → Holds T s → Collected old T s tys ks
    → applied_at T s x.qualifiers x.id ks ≡ Some (type_at new r) → r < length new → IsTypeOf old new s (bare.con p (tys_of tys) q x) r
con-is old T new s p q x tys ks r h hT l e lt = record { held = lt; is = λ f c d. con-of old T s p q x tys ks h hT l f c d ∙ ap (option_map (replace f)) e }

pub con-none : (old T : List Typ) (s : TypeScope) (p q : Place) (x : LongId) (tys : List Ty) (ks : List ℕ) → Holds old s → Holds T s → Collected old T s tys ks
    → (f : ℕ → Typ) (c : Context) → Reads old s f c → applied_at T s x.qualifiers x.id ks ≡ None → type_of c (bare.con p (tys_of tys) q x) ≡ None
con-none old T s p q x tys ks h hT l f c r e = con-of old T s p q x tys ks h hT l f c r ∙ ap (option_map (replace f)) e

pub arguments-none : (c : Context) (p q : Place) (x : LongId) (tys : List Ty) → each_type c tys ≡ None → type_of c (bare.con p (tys_of tys) q x) ≡ None
arguments-none c p q x tys e = ap (option_and_then (λ us. option_and_then (λ s. apply s.function us) (type_in c.env x.qualifiers x.id))) (types-none c tys e)

-- records

abbrev typed : (ℕ → Typ) → List Typ → Field → Label × Typ
typed f ts d = (d.label, replace f (type_at ts d.part))

module _ (f : ℕ → Typ) (ts : List Typ) where
  sorted-typed : (ds : List Field) → static.sorted (map (typed f ts) ds) ≡ map (typed f ts) (sorted ds)
  sorted-typed ds = sym (sorted-map (λ d. d.label) (λ p. p.0) (typed f ts) (λ d. refl) ds)

  labels-typed : (ds : List Field) → map (λ r. r.0) (map (typed f ts) ds) ≡ labels_of ds
  labels-typed [] = refl
  labels-typed (d ∷ ds) = ap (λ l. d.label ∷ l) (labels-typed ds)

  parts-typed : (ds : List Field) → typs_of (map (λ r. r.1) (map (typed f ts) ds)) ≡ replace_all f (types_at ts (parts_of ds))
  parts-typed [] = refl
  parts-typed (d ∷ ds) = ap (more (replace f (type_at ts d.part))) (parts-typed ds)

  row-typed : (ds : List Field) → row_type (static.sorted (map (typed f ts) ds)) ≡ replace f (con (labels (labels_of (sorted ds))) (types_at ts (parts_of (sorted ds))))
  row-typed ds = ap row_type (sorted-typed ds) ∙ ap₂ (λ ls us. con (labels ls) us) (labels-typed (sorted ds)) (parts-typed (sorted ds))

  fields-row : (c : Context) (as_ : List TyField) (ds : List Field) → labels_of ds ≡ labels_at as_ → Each c f ts (tys_at as_) (parts_of ds)
      → row_of c (ty_fields_of (map ty_field_of as_)) ≡ Some (map (typed f ts) ds)
  fields-row c [] [] e h = refl
  fields-row c [] (d ∷ ds) e h = absurd h
  fields-row c (a ∷ as_) [] e h = absurd h
  fields-row c (a ∷ as_) (d ∷ ds) e h =
      let l : d.label ≡ (ty_field_of a).label = cc in let m : labels_of ds ≡ labels_at as_ = cc in
      ap₂ (λ o q. option_map (λ r. ((ty_field_of a).label, r.0) ∷ r.1) (option_zip o q)) h.0 (fields-row c as_ ds m h.1)
      ∙ ap (λ l. Some ((l, replace f (type_at ts d.part)) ∷ map (typed f ts) ds)) (sym l)

  numbers-row : (c : Context) (n : ℕ) (tys : List Ty) (ks : List ℕ) → Each c f ts tys ks → row_of c (numbered_tys n tys) ≡ Some (map (typed f ts) (numbered_from n ks))
  numbers-row c n [] [] h = refl
  numbers-row c n [] (k ∷ ks) h = absurd h
  numbers-row c n (t ∷ tys) [] h = absurd h
  numbers-row c n (t ∷ tys) (k ∷ ks) h = ap₂ (λ o q. option_map (λ r. (Number n, r.0) ∷ r.1) (option_zip o q)) h.0 (numbers-row c (suc n) tys ks h.1)

type-found : (new : List Typ) (r : ℕ) (t : Typ) → slice_get new r ≡ Some t → type_at new r ≡ t
type-found new r t e = get_or_from_slice_get new r t (var 0) e

pub record-is : (old T new : List Typ) (s : TypeScope) (p : Place) (as_ : List TyField) (ds : List Field) (r : ℕ) → Collected old T s (tys_at as_) (parts_of ds) → labels_of ds ≡ labels_at as_
    → slice_get new r ≡ Some (con (labels (labels_of (sorted ds))) (types_at T (parts_of (sorted ds)))) → IsTypeOf old new s (bare.fields p (ty_fields_of (map ty_field_of as_))) r
record-is old T new s p as_ ds r l e g = record {
  held = slice_get_within new r _ g;
  is = λ f c d. ap (option_map (λ r. row_type (static.sorted r))) (fields-row f T c as_ ds e (l.are.are f c d)) ∙ ap Some (row-typed f T ds ∙ ap (replace f) (sym (type-found new r _ g)));
}

pub product-is : (old T new : List Typ) (s : TypeScope) (p : Place) (tys : List Ty) (ks : List ℕ) (r : ℕ) → Collected old T s tys ks
    → slice_get new r ≡ Some (con (labels (labels_of (sorted (numbered_from 1 ks)))) (types_at T (parts_of (sorted (numbered_from 1 ks))))) → IsTypeOf old new s (product p tys) r
product-is old T new s p tys ks r l g = record {
  held = slice_get_within new r _ g;
  is = λ f c d. ap (option_map (λ r. row_type (static.sorted r))) (numbers-row f T c 1 tys ks (l.are.are f c d)) ∙ ap Some (row-typed f T (numbered_from 1 ks) ∙ ap (replace f) (sym (type-found new r _ g)));
}

-- what follows a field is missing, or its own type is
row-step : {B : Type 0} (g : Typ × Row → B) (h : Typ × List Typ → List Typ) (o : Option Typ) (p : Option Row) (q : Option (List Typ)) → (q ≡ None → p ≡ None) → option_map h (option_zip o q) ≡ None → option_map g (option_zip o p) ≡ None
row-step g h None p q k e = refl
row-step g h (Some t) p None k e = ap (λ p. option_map g (option_zip (Some t) p)) (k refl)
row-step g h (Some t) p (Some us) k e = absurd (cc)

fields-none : (c : Context) (as_ : List TyField) → each_type c (tys_at as_) ≡ None → row_of c (ty_fields_of (map ty_field_of as_)) ≡ None
fields-none c [] e = absurd (cc)
fields-none c (a ∷ as_) e =
    row-step (λ r. ((ty_field_of a).label, r.0) ∷ r.1) (λ r. r.0 ∷ r.1) (type_of c (ty_field_of a).ty) (row_of c (ty_fields_of (map ty_field_of as_))) (each_type c (tys_at as_)) (fields-none c as_) e

numbers-none : (c : Context) (n : ℕ) (tys : List Ty) → each_type c tys ≡ None → row_of c (numbered_tys n tys) ≡ None
numbers-none c n [] e = absurd (cc)
numbers-none c n (t ∷ tys) e =
    row-step (λ r. (Number n, r.0) ∷ r.1) (λ r. r.0 ∷ r.1) (type_of c t) (row_of c (numbered_tys (suc n) tys)) (each_type c tys) (numbers-none c (suc n) tys) e

pub record-none : (c : Context) (p : Place) (as_ : List TyField) → each_type c (tys_at as_) ≡ None → type_of c (bare.fields p (ty_fields_of (map ty_field_of as_))) ≡ None
record-none c p as_ e = ap (option_map (λ r. row_type (static.sorted r))) (fields-none c as_ e)

pub product-none : (c : Context) (p : Place) (tys : List Ty) → each_type c tys ≡ None → type_of c (product p tys) ≡ None
product-none c p tys e = ap (option_map (λ r. row_type (static.sorted r))) (numbers-none c 1 tys e)

-- functions

arrows-typed : (c : Context) (f : ℕ → Typ) (ts : List Typ) (p : Place) (t : Ty) (u : Typ) (as_ : List TyPart) (ks : List ℕ) → type_of c t ≡ Some (replace f u) → Each c f ts (types_behind as_) ks
    → type_of c (arrows p t (map ty_part_of as_)) ≡ Some (replace f (functions u (map (type_at ts) ks)))
arrows-typed c f ts p t u [] [] e h = e
arrows-typed c f ts p t u [] (k ∷ ks) e h = absurd h
arrows-typed c f ts p t u (a ∷ as_) [] e h = absurd h
arrows-typed c f ts p t u (a ∷ as_) (k ∷ ks) e h =
    ap₂ (λ o q. option_map (λ r. function_type r.0 r.1) (option_zip o q)) e (arrows-typed c f ts (ty_part_of a).place (ty_part_of a).ty (type_at ts k) as_ ks h.0 h.1)

pub arrows-are : (old T T' new : List Typ) (s : TypeScope) (p : Place) (t : Ty) (as_ : List TyPart) (k : ℕ) (ks : List ℕ) (r : ℕ) → Holds old s → IsTypeOf old T s t k → take (length old) T ≡ old
    → Collected T T' s (types_behind as_) ks → slice_get new r ≡ Some (functions (type_at T' k) (map (type_at T') ks)) → IsTypeOf old new s (arrows p t (map ty_part_of as_)) r
arrows-are old T T' new s p t as_ k ks r h is e l g = record {
  held = slice_get_within new r _ g;
  is = λ f c d. arrows-typed c f T' p t (type_at T' k) as_ ks (is.is f c d ∙ ap (λ u. Some (replace f u)) (sym (type-stays T T' k l.kept is.held))) (l.are.are f c (reads-later old T s f c e h d))
      ∙ ap (λ u. Some (replace f u)) (sym (type-found new r _ g));
}

pub first-none : (c : Context) (p : Place) (t : Ty) (as_ : List TyAt) → type_of c t ≡ None → type_of c (arrows p t as_) ≡ None
first-none c p t [] e = e
first-none c p t (a ∷ as_) e = ap (λ o. option_map (λ r. function_type r.0 r.1) (option_zip o (type_of c (arrows a.place a.ty as_)))) e

pub behind-none : (c : Context) (p : Place) (t : Ty) (as_ : List TyPart) → each_type c (types_behind as_) ≡ None → type_of c (arrows p t (map ty_part_of as_)) ≡ None
behind-none c p t [] e = absurd (cc)
behind-none c p t (a ∷ as_) e =
    ap (option_map (λ r. function_type r.0 r.1)) (zip-none (type_of c t) (type_of c (arrows (ty_part_of a).place (ty_part_of a).ty (map ty_part_of as_)))
    (by (type_of c (ty_part_of a).ty) refl (each_type c (types_behind as_)) refl (λ y. behind-none c (ty_part_of a).place (ty_part_of a).ty as_ y)))
  where
    by : (o : Option Typ) → type_of c (ty_part_of a).ty ≡ o → (q : Option (List Typ)) → each_type c (types_behind as_) ≡ q
        → (each_type c (types_behind as_) ≡ None → type_of c (arrows (ty_part_of a).place (ty_part_of a).ty (map ty_part_of as_)) ≡ None)
        → type_of c (arrows (ty_part_of a).place (ty_part_of a).ty (map ty_part_of as_)) ≡ None
    by None x q y h = first-none c (ty_part_of a).place (ty_part_of a).ty (map ty_part_of as_) x
    by (Some u) x None y h = h y
    by (Some u) x (Some us) y h = absurd (let z = ap₂ (λ o q. option_map (λ r. r.0 ∷ r.1) (option_zip o q)) (sym x) (sym y) ∙ e in cc)

-- instances of type constructors

count-types : (ts : List Typ) (ks : List ℕ) → count (types_at ts ks) ≡ length ks
count-types ts [] = refl
count-types ts (k ∷ ks) = ap suc (count-types ts ks)

pub wrong-count : (ts : List Typ) (s : TypeScope) (qs : List ℕ) (x : ℕ) (ks : List ℕ) (e : TypeEntry) → entry_of s qs x ≡ Some e → (length ks ≡ e.arity → ⊥) → applied_at ts s qs x ks ≡ None
wrong-count ts s qs x ks e h n = ap (option_and_then (λ e. apply (function_in ts e) (types_at ts ks))) h ∙ by (nat_eq (count (types_at ts ks)) e.arity) refl
  where
    by : (b : Bool) → nat_eq (count (types_at ts ks)) e.arity ≡ b
        → cond b (Some (replace (λ v. unwrap_or (argument (types_at ts ks) v) (var v)) (type_at ts e.body))) None ≡ None
    by true q = absurd (n (sym (count-types ts ks) ∙ eqb-true (count (types_at ts ks)) e.arity q))
    by false q = refl

mutual
  replace-agree : (f g : ℕ → Typ) (n : ℕ) → ((v : ℕ) → v < n → f v ≡ g v) → (t : Typ) → top t ≤ n → replace f t ≡ replace g t
  replace-agree f g n h (var v) le = h v (omega (arith, le))
  replace-agree f g n h (con y ts) le = ap (con y) (all-agree f g n h ts le)

  all-agree : (f g : ℕ → Typ) (n : ℕ) → ((v : ℕ) → v < n → f v ≡ g v) → (ts : Typs) → tops ts ≤ n → replace_all f ts ≡ replace_all g ts
  all-agree f g n h none le = refl
  all-agree f g n h (more t ts) le = ap₂ more (replace-agree f g n h t (left-max (top t) (tops ts) n le)) (all-agree f g n h ts (right-max (top t) (tops ts) n le))

argument-at : (ts : List Typ) (ks : List ℕ) (v : ℕ) (d : Typ) → v < length ks → unwrap_or (argument (types_at ts ks) v) d ≡ type_at ts (get_or ks v 0)
argument-at ts [] v d lt = absurd (omega (arith, lt))
argument-at ts (k ∷ ks) zero d lt = refl
argument-at ts (k ∷ ks) (suc v) d lt = argument-at ts ks v d (omega (arith, lt))

image-is : (ts : List Typ) (ks : List ℕ) (v : ℕ) → v < length ks → unwrap_or (argument (types_at ts ks) v) (var v) ≡ image_at ts ks v
image-is ts ks v lt = argument-at ts ks v (var v) lt ∙ by (nat_lt v (length ks)) refl
  where
    by : (b : Bool) → nat_lt v (length ks) ≡ b → type_at ts (get_or ks v 0) ≡ cond b (type_at ts (get_or ks v 0)) (var (v - length ks))
    by true q = refl
    by false q = absurd (grind (arith, lt, q))

pub applied-is : (ts new : List Typ) (s : TypeScope) (qs : List ℕ) (x : ℕ) (ks : List ℕ) (e : TypeEntry) (r : ℕ) → Holds ts s → entry_of s qs x ≡ Some e → length ks ≡ e.arity
    → slice_get new r ≡ Some (replace (image_at ts ks) (type_at ts e.body)) → applied_at ts s qs x ks ≡ Some (type_at new r)
applied-is ts new s qs x ks e r h q n g =
    ap (option_and_then (λ e. apply (function_in ts e) (types_at ts ks))) q ∙ by (nat_eq (count (types_at ts ks)) e.arity) refl ∙ ap Some (agree ∙ sym (type-found new r _ g))
  where
    agree : replace (λ v. unwrap_or (argument (types_at ts ks) v) (var v)) (type_at ts e.body) ≡ replace (image_at ts ks) (type_at ts e.body)
    agree = replace-agree _ _ e.arity (λ v lt. image-is ts ks v (subst (λ m. v < m) (sym n) lt)) (type_at ts e.body) (entry-closed ts s h qs x e q)

    by : (b : Bool) → nat_eq (count (types_at ts ks)) e.arity ≡ b
        → cond b (Some (replace (λ v. unwrap_or (argument (types_at ts ks) v) (var v)) (type_at ts e.body))) None ≡ Some (replace (λ v. unwrap_or (argument (types_at ts ks) v) (var v)) (type_at ts e.body))
    by true z = refl
    by false z = absurd (let w = eq-eqb (count (types_at ts ks)) e.arity (count-types ts ks ∙ n) in cc)

-- nodes of the code's tree

pub record-ok : (old T new : List Typ) (s : TypeScope) (ty : code.Ty) (p : Place) (fs : Vec TyField Global) (l : List TyField) (ds m : List Field) (r : ℕ) → ty ≡ Record p fs → l ≡ fs.items
    → take (length old) T ≡ old → AreTypesOf old T s (tys_at l) (parts_of ds) → labels_of ds ≡ labels_at l → m ≡ ds
    → slice_get new r ≡ Some (con (labels (labels_of (sorted m))) (types_at T (parts_of (sorted m)))) → IsTypeOf old new s (ty_of ty) r
record-ok old T new s ty p fs l ds m r e d k are ls q g =
    typed-as old new s (ty_of ty) (bare.fields p (ty_fields_of (map ty_field_of l))) r (ap ty_of e ∙ ty_of-Record p fs ∙ ap (λ l. bare.fields p (ty_fields_of (map ty_field_of l))) (sym d))
    (record-is old T new s p l ds r (record { kept = k; are = are }) ls (g ∙ ap (λ m. Some (con (labels (labels_of (sorted m))) (types_at T (parts_of (sorted m))))) q))

pub product-ok : (old T new : List Typ) (s : TypeScope) (ty : code.Ty) (p : Place) (ts : Vec code.Ty Global) (l : List code.Ty) (ks ps : List ℕ) (fs m : List Field) (r : ℕ) → ty ≡ Product p ts → l ≡ ts.items
    → take (length old) T ≡ old → AreTypesOf old T s (map ty_of l) ks → ps ≡ ks → fs ≡ numbered_from 1 ps → m ≡ fs
    → slice_get new r ≡ Some (con (labels (labels_of (sorted m))) (types_at T (parts_of (sorted m)))) → IsTypeOf old new s (ty_of ty) r
product-ok old T new s ty p ts l ks ps fs m r e d k are a b q g =
    typed-as old new s (ty_of ty) (product p (map ty_of l)) r (ap ty_of e ∙ ty_of-Product p ts ∙ ap (λ l. product p (map ty_of l)) (sym d))
    (product-is old T new s p (map ty_of l) ks r (record { kept = k; are = are })
    (g ∙ ap (λ m. Some (con (labels (labels_of (sorted m))) (types_at T (parts_of (sorted m))))) (q ∙ b ∙ ap (numbered_from 1) a)))

pub con-ok : (old T new : List Typ) (s : TypeScope) (ty : code.Ty) (p q : Place) (ts : Vec code.Ty Global) (x : LongIdCode) (l : List code.Ty) (ks m : List ℕ) (r : ℕ) → ty ≡ Con p ts q x → l ≡ ts.items → Holds old s
    → take (length old) T ≡ old → AreTypesOf old T s (map ty_of l) ks → m ≡ ks → applied_at T s x.qualifiers.items x.id m ≡ Some (type_at new r) → r < length new → IsTypeOf old new s (ty_of ty) r
con-ok old T new s ty p q ts x l ks m r e d h k are a g lt =
    typed-as old new s (ty_of ty) (bare.con p (tys_of (map ty_of l)) q (long_id_of x)) r (ap ty_of e ∙ ty_of-Con p ts q x ∙ ap (λ l. bare.con p (tys_of (map ty_of l)) q (long_id_of x)) (sym d))
    (con-is old T new s p q (long_id_of x) (map ty_of l) ks r h (holds_later old T s k h) (record { kept = k; are = are }) (ap (applied_at T s x.qualifiers.items x.id) (sym a) ∙ g) lt)

pub con-refused : (old T : List Typ) (s : TypeScope) (ty : code.Ty) (p q : Place) (ts : Vec code.Ty Global) (x : LongIdCode) (l : List code.Ty) (ks m : List ℕ) (e : Refused) → ty ≡ Con p ts q x → l ≡ ts.items → Holds old s
    → take (length old) T ≡ old → AreTypesOf old T s (map ty_of l) ks → m ≡ ks → IsRefusal T s (λ _. applied_at T s x.qualifiers.items x.id m) e → IsRefusal old s (λ c. type_of c (ty_of ty)) e
con-refused old T s ty p q ts x l ks m e i d h k are a is =
    refused-in old T s (λ _. applied_at T s x.qualifiers.items x.id m) (λ c. type_of c (ty_of ty)) e (λ f c r. reads-later old T s f c k h r)
    (λ f c r n. ap (type_of c) (ap ty_of i ∙ ty_of-Con p ts q x ∙ ap (λ l. bare.con p (tys_of (map ty_of l)) q (long_id_of x)) (sym d))
    ∙ con-none old T s p q (long_id_of x) (map ty_of l) ks h (holds_later old T s k h) (record { kept = k; are = are }) f c r (ap (applied_at T s x.qualifiers.items x.id) (sym a) ∙ n)) is

pub arguments-refused : (old : List Typ) (s : TypeScope) (ty : code.Ty) (p q : Place) (ts : Vec code.Ty Global) (x : LongIdCode) (l : List code.Ty) (e : Refused) → ty ≡ Con p ts q x → l ≡ ts.items
    → IsRefusal old s (λ c. each_type c (map ty_of l)) e → IsRefusal old s (λ c. type_of c (ty_of ty)) e
arguments-refused old s ty p q ts x l e i d is =
    refused-in old old s (λ c. each_type c (map ty_of l)) (λ c. type_of c (ty_of ty)) e (λ f c r. r)
    (λ f c r n. ap (type_of c) (ap ty_of i ∙ ty_of-Con p ts q x ∙ ap (λ l. bare.con p (tys_of (map ty_of l)) q (long_id_of x)) (sym d)) ∙ arguments-none c p q (long_id_of x) (map ty_of l) n) is

pub record-refused : (old : List Typ) (s : TypeScope) (ty : code.Ty) (p : Place) (fs : Vec TyField Global) (l : List TyField) (e : Refused) → ty ≡ Record p fs → l ≡ fs.items
    → IsRefusal old s (λ c. each_type c (tys_at l)) e → IsRefusal old s (λ c. type_of c (ty_of ty)) e
record-refused old s ty p fs l e i d is =
    refused-in old old s (λ c. each_type c (tys_at l)) (λ c. type_of c (ty_of ty)) e (λ f c r. r)
    (λ f c r n. ap (type_of c) (ap ty_of i ∙ ty_of-Record p fs ∙ ap (λ l. bare.fields p (ty_fields_of (map ty_field_of l))) (sym d)) ∙ record-none c p l n) is

pub product-refused : (old : List Typ) (s : TypeScope) (ty : code.Ty) (p : Place) (ts : Vec code.Ty Global) (l : List code.Ty) (e : Refused) → ty ≡ Product p ts → l ≡ ts.items
    → IsRefusal old s (λ c. each_type c (map ty_of l)) e → IsRefusal old s (λ c. type_of c (ty_of ty)) e
product-refused old s ty p ts l e i d is =
    refused-in old old s (λ c. each_type c (map ty_of l)) (λ c. type_of c (ty_of ty)) e (λ f c r. r)
    (λ f c r n. ap (type_of c) (ap ty_of i ∙ ty_of-Product p ts ∙ ap (λ l. product p (map ty_of l)) (sym d)) ∙ product-none c p (map ty_of l) n) is

pub arrow-ok : (old T T' new : List Typ) (s : TypeScope) (ty : code.Ty) (p : Place) (t : Box code.Ty Global) (first : code.Ty) (ts : Vec TyPart Global) (l : List TyPart) (k : ℕ) (ks m : List ℕ) (r : ℕ)
    → ty ≡ Arrow p t ts → first ≡ t.value → l ≡ ts.items → Holds old s → IsTypeOf old T s (ty_of first) k → take (length old) T ≡ old → take (length T) T' ≡ T → AreTypesOf T T' s (types_behind l) ks → m ≡ ks
    → slice_get new r ≡ Some (functions (type_at T' k) (map (type_at T') m)) → IsTypeOf old new s (ty_of ty) r
arrow-ok old T T' new s ty p t first ts l k ks m r e v d h is a b are q g =
    typed-as old new s (ty_of ty) (arrows p (ty_of first) (map ty_part_of l)) r
    (ap ty_of e ∙ ty_of-Arrow p t ts ∙ ap₂ (λ t l. arrows p (ty_of t) (map ty_part_of l)) (sym v) (sym d))
    (arrows-are old T T' new s p (ty_of first) l k ks r h is a (record { kept = b; are = are }) (g ∙ ap (λ m. Some (functions (type_at T' k) (map (type_at T') m))) q))

pub first-refused : (old : List Typ) (s : TypeScope) (ty : code.Ty) (p : Place) (t : Box code.Ty Global) (first : code.Ty) (ts : Vec TyPart Global) (e : Refused) → ty ≡ Arrow p t ts → first ≡ t.value
    → IsRefusal old s (λ c. type_of c (ty_of first)) e → IsRefusal old s (λ c. type_of c (ty_of ty)) e
first-refused old s ty p t first ts e i v is =
    refused-in old old s (λ c. type_of c (ty_of first)) (λ c. type_of c (ty_of ty)) e (λ f c r. r)
    (λ f c r n. ap (type_of c) (ap ty_of i ∙ ty_of-Arrow p t ts) ∙ first-none c p (ty_of t.value) (map ty_part_of ts.items) (ap (λ t. type_of c (ty_of t)) (sym v) ∙ n)) is

pub rest-refused : (old T : List Typ) (s : TypeScope) (ty : code.Ty) (p : Place) (t : Box code.Ty Global) (ts : Vec TyPart Global) (l : List TyPart) (e : Refused) → ty ≡ Arrow p t ts → l ≡ ts.items → Holds old s
    → take (length old) T ≡ old → IsRefusal T s (λ c. each_type c (types_behind l)) e → IsRefusal old s (λ c. type_of c (ty_of ty)) e
rest-refused old T s ty p t ts l e i d h k is =
    refused-in old T s (λ c. each_type c (types_behind l)) (λ c. type_of c (ty_of ty)) e (λ f c r. reads-later old T s f c k h r)
    (λ f c r n. ap (type_of c) (ap ty_of i ∙ ty_of-Arrow p t ts ∙ ap (λ l. arrows p (ty_of t.value) (map ty_part_of l)) (sym d)) ∙ behind-none c p (ty_of t.value) l n) is
