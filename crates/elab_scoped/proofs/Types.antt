-- The type variables of an annotation that stands for a type.
use Rattle.std.proofs.Common.{◌≡◌, ℕ, Bool, true, false, ◌||◌, cond, List, [], ◌∷◌, ◌++◌, map, Option, Some, None, nat_eq, refl}
use Rattle.std.specs.Prelude.{option_map, option_and_then}
use Rattle.std.specs.Option.{option_zip}
use Rattle.std.specs.List.{AllByRecursion}
use Rattle.sml_tree.specs.BareTree as bare
use Rattle.sml_tree.specs.Phrases.{Phrase, has_scope, in_some, in_ty, in_tys, in_ty_fields, tyvars_at}
use Rattle.ty_core.specs.Types.{Typ, Typs}
use Rattle.ty_basis.specs.Types.{Row}
use Rattle.core_rules.specs.Elaborated.{type_of, types_of, row_of, behind_of}
use Rattle.core_rules.specs.Objects.{at, Context, Map}
use Rattle.core_rules.specs.Words.{is_in}

-- phrases whose type variables are among these
abbrev pub AreKnown : List ℕ → List Phrase → Type 0
AreKnown ns = AllByRecursion (λ x. AllByRecursion (λ a. is_in nat_eq a.tyvar.name ns ≡ true) (tyvars_at x))

pub known-both : (ns : List ℕ) (xs ys : List Phrase) → AreKnown ns xs → AreKnown ns ys → AreKnown ns (xs ++ ys)
known-both ns [] ys h k = k
known-both ns (x ∷ xs) ys h k = (h.0, known-both ns xs ys h.1 k)

abbrev pub names_in : {A : Type 0} → Map ℕ A → List ℕ
names_in m = map (λ a. a.0) m

at-in : {A : Type 0} (m : Map ℕ A) (x : ℕ) (v : A) → at nat_eq m x ≡ Some v → is_in nat_eq x (names_in m) ≡ true
at-in [] x v e = cc
at-in (a ∷ m) x v e = by (nat_eq x a.0) e (at-in m x v)
  where
    by : (b : Bool) → cond b (Some a.1) (at nat_eq m x) ≡ Some v → (at nat_eq m x ≡ Some v → is_in nat_eq x (names_in m) ≡ true) → (b || is_in nat_eq x (names_in m)) ≡ true
    by true e k = refl
    by false e k = k e

-- both are there
record AreSome {A B : Type 0} (o : Option A) (p : Option B) : Type 0 where
  left : A
  right : B
  first : o ≡ Some left
  second : p ≡ Some right

are-some : {A B C : Type 0} (f : A × B → C) (o : Option A) (p : Option B) (c : C) → option_map f (option_zip o p) ≡ Some c → AreSome o p
are-some f None None c e = cc
are-some f None (Some b) c e = cc
are-some f (Some a) None c e = cc
are-some f (Some a) (Some b) c e = record { left = a; right = b; first = refl; second = refl }

record IsSome {A : Type 0} (o : Option A) : Type 0 where
  value : A
  is : o ≡ Some value

mapped-some : {A B : Type 0} (f : A → B) (o : Option A) (b : B) → option_map f o ≡ Some b → IsSome o
mapped-some f None b e = cc
mapped-some f (Some a) b e = record { value = a; is = refl }

then-some : {A B : Type 0} (f : A → Option B) (o : Option A) (b : B) → option_and_then f o ≡ Some b → IsSome o
then-some f None b e = cc
then-some f (Some a) b e = record { value = a; is = refl }

mutual
  pub ty-known : (c : Context) (ty : bare.Ty) (t : Typ) → type_of c ty ≡ Some t → AreKnown (names_in c.tyvars) (in_ty has_scope ty)
  ty-known c (bare.var p a) t e = ((at-in c.tyvars a.name t e, tt), tt)
  ty-known c (bare.fields p fs) t e = let r = mapped-some _ (row_of c fs) t e in (tt, fields-known c fs r.value r.is)
  ty-known c (bare.con p ts q x) t e = let r = then-some _ (types_of c ts) t e in (tt, tys-known c ts r.value r.is)
  ty-known c (bare.arrow p a b) t e =
      let r = are-some _ (type_of c a) (type_of c b) t e in
      (tt, known-both (names_in c.tyvars) (in_ty has_scope a) (in_ty has_scope b) (ty-known c a r.left r.first) (ty-known c b r.right r.second))
  ty-known c (bare.ill p) t e = cc

  tys-known : (c : Context) (tys : bare.Tys) (ts : Typs) → types_of c tys ≡ Some ts → AreKnown (names_in c.tyvars) (in_tys has_scope tys)
  tys-known c bare.no_tys ts e = tt
  tys-known c (bare.ty a as_) ts e =
      let r = are-some _ (type_of c a) (types_of c as_) ts e in
      known-both (names_in c.tyvars) (in_ty has_scope a) (in_tys has_scope as_) (ty-known c a r.left r.first) (tys-known c as_ r.right r.second)

  fields-known : (c : Context) (fs : bare.TyFields) (row : Row) → row_of c fs ≡ Some row → AreKnown (names_in c.tyvars) (in_ty_fields has_scope fs)
  fields-known c bare.no_ty_fields row e = tt
  fields-known c (bare.ty_field l a fs) row e =
      let r = are-some _ (type_of c a) (row_of c fs) row e in
      known-both (names_in c.tyvars) (in_ty has_scope a) (in_ty_fields has_scope fs) (ty-known c a r.left r.first) (fields-known c fs r.right r.second)

-- where there may be none
pub some-known : (c : Context) (o : Option bare.Ty) (a : Option Typ) → behind_of c o ≡ Some a → AreKnown (names_in c.tyvars) (in_some has_scope o)
some-known c None a e = tt
some-known c (Some ty) a e = let r = mapped-some _ (type_of c ty) a e in ty-known c ty r.value r.is
