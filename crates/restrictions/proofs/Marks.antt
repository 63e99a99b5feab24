-- What marks stand for: the places that are broken, and the type variables that occur.
use Rattle.std.proofs.Common.{◌≡◌, ℕ, suc, Bool, true, false, not, ◌&&◌, ◌||◌, List, [], ◌∷◌, ◌++◌, map, nat_eq, Option, Some, None, refl, sym, ap, ap₂, ◌∙◌, arith}
use Rattle.std.specs.Prelude.{flat_map}
use Rattle.std.specs.List.{Contains, list_all, list_any}
use Rattle.std.proofs.lemmas.Bool.{and_parts, eqb-true, eq-eqb}
use Rattle.std.proofs.lemmas.Grind.{flat_map-append}
use Rattle.std.proofs.lemmas.List.{append-nil}
use Rattle.std.proofs.lemmas.List.Folds.{flat_map-map, list_any-append, list_any_at}
use Rattle.mlc_base.specs.declared.place.Place.{Place}
use Rattle.sml_tree.specs.BareTree as bare
use Rattle.sml_tree.specs.Derived.{expand_con}
use Rattle.sml_tree.specs.Phrases.{con_bind, in_some, in_ty_fields, in_tys, in_ty, never, phrases}
use Rattle.sml_tree.specs.TreeOf.{con_bind_of}
use Rattle.sml_tree.specs.declared.ident.Tyvar.{Tyvar}
use Rattle.sml_tree.specs.declared.tree.ConBind.{ConBind}
use Rattle.core_rules.specs.Restrictions.{are_among, distinct, may_construct, ty_labels, unless}
use Rattle.core_rules.specs.Scoping.{tyvar_names, tyvars_in}
use Rattle.core_rules.specs.Words.{is_in, same_label}
use Rattle.restrictions.specs.Breaks.{con_bind_breaks, some_breaks, ty_breaks, ty_fields_breaks, tys_breaks}
use Rattle.restrictions.specs.Found.{StandFor}
use Rattle.restrictions.specs.Written.{Alike, HasCons, Notes, con_marks, mark_places, mark_tyvars, some_marks, ty_fields_marks, ty_marks, tys_marks, unless_mark, written_con}
use Rattle.restrictions.specs.declared.written.Mark.{Mark}
use Rattle.restrictions.proofs.Put.{split, vars}

-- the places of marks

unless-places : (b : Bool) (p : Place) → flat_map mark_places (unless_mark b p) ≡ unless b p
unless-places true p = refl
unless-places false p = refl

both-places : (xs ys : List Mark) (ps qs : List Place) → flat_map mark_places xs ≡ ps → flat_map mark_places ys ≡ qs → flat_map mark_places (xs ++ ys) ≡ ps ++ qs
both-places xs ys ps qs e f = flat_map-append mark_places xs ys ∙ ap₂ (λ a b. a ++ b) e f

mutual
  ty-places : (t : bare.Ty) → flat_map mark_places (ty_marks t) ≡ ty_breaks t
  ty-places (bare.var p a) = refl
  ty-places (bare.fields p fs) = both-places (ty_fields_marks fs) _ _ _ (fields-places fs) (unless-places (distinct same_label (ty_labels fs)) p)
  ty-places (bare.con p ts q c) = tys-places ts
  ty-places (bare.arrow p t u) = both-places (ty_marks t) (ty_marks u) _ _ (ty-places t) (ty-places u)
  ty-places (bare.ill p) = refl

  tys-places : (ts : bare.Tys) → flat_map mark_places (tys_marks ts) ≡ tys_breaks ts
  tys-places bare.no_tys = refl
  tys-places (bare.ty t ts) = both-places (ty_marks t) (tys_marks ts) _ _ (ty-places t) (tys-places ts)

  fields-places : (fs : bare.TyFields) → flat_map mark_places (ty_fields_marks fs) ≡ ty_fields_breaks fs
  fields-places bare.no_ty_fields = refl
  fields-places (bare.ty_field l t fs) = both-places (ty_marks t) (ty_fields_marks fs) _ _ (ty-places t) (fields-places fs)

some-places : (o : Option bare.Ty) → flat_map mark_places (some_marks o) ≡ some_breaks o
some-places None = refl
some-places (Some t) = ty-places t

con-places : (c : bare.ConBind) → flat_map mark_places (con_marks c) ≡ con_bind_breaks c
con-places c = both-places (some_marks c.of_ty) _ _ _ (some-places c.of_ty) (unless-places (may_construct c.vid) c.place)

cons-places : (cs : List bare.ConBind) → flat_map mark_places (flat_map con_marks cs) ≡ flat_map con_bind_breaks cs
cons-places [] = refl
cons-places (c ∷ cs) = both-places (con_marks c) (flat_map con_marks cs) _ _ (con-places c) (cons-places cs)

-- their type variables

unless-tyvars : (b : Bool) (p : Place) → flat_map mark_tyvars (unless_mark b p) ≡ []
unless-tyvars true p = refl
unless-tyvars false p = refl

both-tyvars : (xs ys : List Mark) (as_ bs : List Tyvar) → flat_map mark_tyvars xs ≡ as_ → flat_map mark_tyvars ys ≡ bs → flat_map mark_tyvars (xs ++ ys) ≡ as_ ++ bs
both-tyvars xs ys as_ bs e f = flat_map-append mark_tyvars xs ys ∙ ap₂ (λ a b. a ++ b) e f

alone-tyvars : (xs : List Mark) (b : Bool) (p : Place) (as_ : List Tyvar) → flat_map mark_tyvars xs ≡ as_ → flat_map mark_tyvars (xs ++ unless_mark b p) ≡ as_
alone-tyvars xs b p as_ e = both-tyvars xs (unless_mark b p) as_ [] e (unless-tyvars b p) ∙ append-nil as_

mutual
  ty-tyvars : (t : bare.Ty) → flat_map mark_tyvars (ty_marks t) ≡ vars t
  ty-tyvars (bare.var p a) = refl
  ty-tyvars (bare.fields p fs) = alone-tyvars (ty_fields_marks fs) (distinct same_label (ty_labels fs)) p _ (fields-tyvars fs)
  ty-tyvars (bare.con p ts q c) = tys-tyvars ts
  ty-tyvars (bare.arrow p t u) = both-tyvars (ty_marks t) (ty_marks u) _ _ (ty-tyvars t) (ty-tyvars u) ∙ sym (split (in_ty never t) (in_ty never u))
  ty-tyvars (bare.ill p) = refl

  tys-tyvars : (ts : bare.Tys) → flat_map mark_tyvars (tys_marks ts) ≡ tyvars_in (in_tys never ts)
  tys-tyvars bare.no_tys = refl
  tys-tyvars (bare.ty t ts) = both-tyvars (ty_marks t) (tys_marks ts) _ _ (ty-tyvars t) (tys-tyvars ts) ∙ sym (split (in_ty never t) (in_tys never ts))

  fields-tyvars : (fs : bare.TyFields) → flat_map mark_tyvars (ty_fields_marks fs) ≡ tyvars_in (in_ty_fields never fs)
  fields-tyvars bare.no_ty_fields = refl
  fields-tyvars (bare.ty_field l t fs) = both-tyvars (ty_marks t) (ty_fields_marks fs) _ _ (ty-tyvars t) (fields-tyvars fs) ∙ sym (split (in_ty never t) (in_ty_fields never fs))

some-tyvars : (o : Option bare.Ty) → flat_map mark_tyvars (some_marks o) ≡ tyvars_in (in_some never o)
some-tyvars None = refl
some-tyvars (Some t) = ty-tyvars t

con-tyvars : (c : bare.ConBind) → flat_map mark_tyvars (con_marks c) ≡ tyvars_in (phrases (con_bind c))
con-tyvars c = alone-tyvars (some_marks c.of_ty) (may_construct c.vid) c.place _ (some-tyvars c.of_ty)

cons-tyvars : (cs : List bare.ConBind) → flat_map mark_tyvars (flat_map con_marks cs) ≡ tyvars_in (flat_map (λ c. phrases (con_bind c)) cs)
cons-tyvars [] = refl
cons-tyvars (c ∷ cs) =
    both-tyvars (con_marks c) (flat_map con_marks cs) _ _ (con-tyvars c) (cons-tyvars cs) ∙ sym (split (phrases (con_bind c)) (flat_map (λ c. phrases (con_bind c)) cs))

-- lists that are alike

any-flat : {A B : Type 0} (t : B → Bool) (f : A → List B) (xs : List A) → list_any t (flat_map f xs) ≡ list_any (λ x. list_any t (f x)) xs
any-flat t f [] = refl
any-flat t f (x ∷ xs) = list_any-append t (f x) (flat_map f xs) ∙ ap (λ b. list_any t (f x) || b) (any-flat t f xs)

alike-flat : {A B : Type 0} (f : A → List B) (xs ys : List A) → Alike xs ys → Alike (flat_map f xs) (flat_map f ys)
alike-flat f xs ys h t = any-flat t f xs ∙ h (λ x. list_any t (f x)) ∙ sym (any-flat t f ys)

abbrev same-place : Place → Place → Bool
same-place p q = nat_eq q.file p.file && nat_eq q.byte p.byte

abbrev at : ℕ → ℕ → Place
at f b = record { file = f; byte = b }

same-self : (p : Place) → same-place p p ≡ true
same-self p = ap₂ (λ a b. a && b) (eq-eqb p.file p.file refl) (eq-eqb p.byte p.byte refl)

same-is : (p q : Place) → same-place p q ≡ true → q ≡ p
same-is p q e =
    let two = and_parts (nat_eq q.file p.file) (nat_eq q.byte p.byte) e in
    ap₂ at (eqb-true q.file p.file two.0) (eqb-true q.byte p.byte two.1)

tells : (p : Place) (xs : List Place) → Contains xs p → list_any (same-place p) xs ≡ true
tells p xs h = list_any_at (same-place p) xs h.0 p h.1 (ap (same-place p) h.2 ∙ same-self p)

told : (p : Place) (xs : List Place) → list_any (same-place p) xs ≡ true → Contains xs p
told p [] e = cc
told p (q ∷ xs) e = by (same-place p q) refl e (told p xs)
  where
    by : (b : Bool) → same-place p q ≡ b → (b || list_any (same-place p) xs) ≡ true → (list_any (same-place p) xs ≡ true → Contains xs p) → Contains (q ∷ xs) p
    by true s e h = (0, omega arith, same-is p q s)
    by false s e h = let c = h e in let lt = c.1 in (suc c.0, omega (arith, lt), c.2)

none-any : (xs : List Place) → list_any (λ p. true) xs ≡ false → xs ≡ []
none-any [] e = refl
none-any (x ∷ xs) e = cc

alike-stand : (xs ys : List Place) → Alike xs ys → StandFor xs ys
alike-stand xs ys h = record {
  some = λ p c. told p ys (sym (h (same-place p)) ∙ tells p xs c);
  none = λ n. none-any ys (sym (h (λ p. true)) ∙ ap (list_any (λ p. true)) n);
}

all-any : {A : Type 0} (t : A → Bool) (xs : List A) → list_all t xs ≡ not (list_any (λ x. not (t x)) xs)
all-any t [] = refl
all-any t (x ∷ xs) = ap (λ b. t x && b) (all-any t xs) ∙ by (t x) (list_any (λ x. not (t x)) xs)
  where
    by : (a b : Bool) → (a && not b) ≡ not (not a || b)
    by true true = refl
    by true false = refl
    by false b = refl

pub among-alike : (as_ xs ys : List Tyvar) → Alike xs ys → are_among as_ xs ≡ are_among as_ ys
among-alike as_ xs ys h =
    all-any (λ b. is_in nat_eq b.name (tyvar_names as_)) xs ∙ ap not (h (λ b. not (is_in nat_eq b.name (tyvar_names as_))))
    ∙ sym (all-any (λ b. is_in nat_eq b.name (tyvar_names as_)) ys)

-- constructors whose marks were parted

module _ (bs : List bare.TypeBind) (cs : List ConBind) where
  abbrev expanded : List bare.ConBind
  expanded = map (expand_con bs) (map con_bind_of cs)

  marks-are : flat_map (written_con bs) cs ≡ flat_map con_marks expanded
  marks-are = sym (flat_map-map con_marks (expand_con bs) (map con_bind_of cs) ∙ flat_map-map (λ c. con_marks (expand_con bs c)) con_bind_of cs)

  pub has-cons : (first marks : List Mark) (old new : List Place) (before after : List Tyvar) → first ≡ [] → Notes first marks (flat_map (written_con bs) cs)
      → new ≡ old ++ flat_map mark_places marks → after ≡ before ++ flat_map mark_tyvars marks → HasCons bs cs old new before after
  has-cons first marks old new before after e n f g =
      let whole : marks ≡ n.added = n.is ∙ ap (λ l. l ++ n.added) e in
      let alike : Alike marks (flat_map con_marks expanded) = λ t. ap (list_any t) whole ∙ n.alike t ∙ ap (list_any t) marks-are in
      record {
        found = record {
          added = flat_map mark_places marks;
          is = f;
          stands =
              alike-stand (flat_map mark_places marks) (flat_map con_bind_breaks expanded)
              (λ t. alike-flat mark_places marks (flat_map con_marks expanded) alike t ∙ ap (list_any t) (cons-places expanded));
        };
        occurring = flat_map mark_tyvars marks;
        are = g;
        alike = λ t. alike-flat mark_tyvars marks (flat_map con_marks expanded) alike t ∙ ap (list_any t) (cons-tyvars expanded);
      }
