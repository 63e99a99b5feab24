-- An abbreviation that is written out: what is in it, and in the arguments of the parameters that occur in it.
use Rattle.std.proofs.Common.{◌≡◌, ℕ, Bool, true, false, not, ◌&&◌, ◌||◌, cond, List, [], ◌∷◌, ◌++◌, map, length, nat_eq, refl, sym, ap, ap₂, ◌∙◌, arith}
use Rattle.std.specs.Prelude.{flat_map}
use Rattle.std.specs.List.{list_all, list_any}
use Rattle.std.proofs.lemmas.Bool.{eqb-true, eq-eqb, and_parts}
use Rattle.std.proofs.lemmas.Grind.{flat_map-append}
use Rattle.std.proofs.lemmas.List.{append-nil, map-append}
use Rattle.std.proofs.lemmas.List.Folds.{list_any-append}
use Rattle.mlc_base.specs.declared.place.Place.{Place}
use Rattle.sml_tree.specs.BareTree as bare
use Rattle.sml_tree.specs.Derived.{argument, put_ty, put_ty_fields, put_tys}
use Rattle.sml_tree.specs.Phrases.{Phrase, TyvarAt, in_ty, in_ty_fields, in_tys, never, tyvars_at}
use Rattle.sml_tree.specs.declared.ident.Tyvar.{Tyvar}
use Rattle.core_rules.specs.Restrictions.{distinct, ty_labels, unless}
use Rattle.core_rules.specs.Scoping.{tyvar_names, tyvars_in}
use Rattle.core_rules.specs.Words.{is_in, same_label}
use Rattle.restrictions.specs.Breaks.{ty_breaks, ty_fields_breaks, tys_breaks}
use Rattle.restrictions.specs.Written.{Alike, chosen, ty_fields_marks, ty_marks, tys_marks, unless_mark}
use Rattle.restrictions.specs.declared.written.Mark.{Mark}
use Rattle.restrictions.specs.declared.written.Mark.TheVariants.{Occurs}
use Rattle.restrictions.proofs.Standing.{none-left, none-right}

-- the type variables of a type

abbrev pub vars : bare.Ty → List Tyvar
vars t = tyvars_in (in_ty never t)

pub split : (xs ys : List Phrase) → tyvars_in (xs ++ ys) ≡ tyvars_in xs ++ tyvars_in ys
split xs ys = ap (map (λ (a : TyvarAt). a.tyvar)) (flat_map-append tyvars_at xs ys) ∙ map-append (λ (a : TyvarAt). a.tyvar) (flat_map tyvars_at xs) (flat_map tyvars_at ys)

-- what a parameter's argument has, and another variable
abbrev pub marks_at : List Tyvar → List bare.Ty → Tyvar → List Mark
marks_at (b ∷ bs) (t ∷ ts) a = cond (nat_eq a.name b.name) (ty_marks t) (marks_at bs ts a)
marks_at [] ts a = Occurs a ∷ []
marks_at (b ∷ bs) [] a = Occurs a ∷ []

argument-marks : (as_ : List Tyvar) (ts : List bare.Ty) (p : Place) (a : Tyvar) → ty_marks (argument as_ ts p a) ≡ marks_at as_ ts a
argument-marks [] ts p a = refl
argument-marks (b ∷ bs) [] p a = refl
argument-marks (b ∷ bs) (t ∷ ts) p a = by (nat_eq a.name b.name) (argument-marks bs ts p a)
  where
    by : (c : Bool) → ty_marks (argument bs ts p a) ≡ marks_at bs ts a → ty_marks (cond c t (argument bs ts p a)) ≡ cond c (ty_marks t) (marks_at bs ts a)
    by true h = refl
    by false h = h

same-labels : (as_ : List Tyvar) (ts : List bare.Ty) (fs : bare.TyFields) → ty_labels (put_ty_fields as_ ts fs) ≡ ty_labels fs
same-labels as_ ts bare.no_ty_fields = refl
same-labels as_ ts (bare.ty_field l t fs) = ap (λ ls. l ∷ ls) (same-labels as_ ts fs)

-- a test that was passed leaves no mark
passed : (b : Bool) (p : Place) → unless b p ≡ [] → unless_mark b p ≡ []
passed true p e = refl
passed false p e = cc

parts-marks : (as_ : List Tyvar) (us : List bare.Ty) (xs ys : List Phrase) (ms ns : List Mark) → ms ≡ flat_map (marks_at as_ us) (tyvars_in xs) → ns ≡ flat_map (marks_at as_ us) (tyvars_in ys)
    → ms ++ ns ≡ flat_map (marks_at as_ us) (tyvars_in (xs ++ ys))
parts-marks as_ us xs ys ms ns e f =
    ap₂ (λ a b. a ++ b) e f ∙ sym (flat_map-append (marks_at as_ us) (tyvars_in xs) (tyvars_in ys)) ∙ ap (flat_map (marks_at as_ us)) (sym (split xs ys))

mutual
  pub put-marks : (as_ : List Tyvar) (us : List bare.Ty) (t : bare.Ty) → ty_breaks t ≡ [] → ty_marks (put_ty as_ us t) ≡ flat_map (marks_at as_ us) (vars t)
  put-marks as_ us (bare.var p a) e = argument-marks as_ us p a ∙ sym (append-nil (marks_at as_ us a))
  put-marks as_ us (bare.fields p fs) e =
      ap₂ (λ a b. a ++ b) (put-fields as_ us fs (none-left (ty_fields_breaks fs) _ e))
      (ap (λ ls. unless_mark (distinct same_label ls) p) (same-labels as_ us fs) ∙ passed (distinct same_label (ty_labels fs)) p (none-right (ty_fields_breaks fs) _ e))
      ∙ append-nil (flat_map (marks_at as_ us) (tyvars_in (in_ty_fields never fs)))
  put-marks as_ us (bare.con p ts q c) e = put-list as_ us ts e
  put-marks as_ us (bare.arrow p t u) e =
      parts-marks as_ us (in_ty never t) (in_ty never u) _ _ (put-marks as_ us t (none-left (ty_breaks t) (ty_breaks u) e)) (put-marks as_ us u (none-right (ty_breaks t) (ty_breaks u) e))
  put-marks as_ us (bare.ill p) e = refl

  put-list : (as_ : List Tyvar) (us : List bare.Ty) (ts : bare.Tys) → tys_breaks ts ≡ [] → tys_marks (put_tys as_ us ts) ≡ flat_map (marks_at as_ us) (tyvars_in (in_tys never ts))
  put-list as_ us bare.no_tys e = refl
  put-list as_ us (bare.ty t ts) e =
      parts-marks as_ us (in_ty never t) (in_tys never ts) _ _ (put-marks as_ us t (none-left (ty_breaks t) (tys_breaks ts) e)) (put-list as_ us ts (none-right (ty_breaks t) (tys_breaks ts) e))

  put-fields : (as_ : List Tyvar) (us : List bare.Ty) (fs : bare.TyFields) → ty_fields_breaks fs ≡ []
      → ty_fields_marks (put_ty_fields as_ us fs) ≡ flat_map (marks_at as_ us) (tyvars_in (in_ty_fields never fs))
  put-fields as_ us bare.no_ty_fields e = refl
  put-fields as_ us (bare.ty_field l t fs) e =
      parts-marks as_ us (in_ty never t) (in_ty_fields never fs) _ _ (put-marks as_ us t (none-left (ty_breaks t) (ty_fields_breaks fs) e))
      (put-fields as_ us fs (none-right (ty_breaks t) (ty_fields_breaks fs) e))

-- Which arguments count.

turned : (x y : ℕ) → nat_eq x y ≡ nat_eq y x
turned x y = same-answer (nat_eq x y) (nat_eq y x) (λ e. eq-eqb y x (sym (eqb-true x y e))) (λ e. eq-eqb x y (sym (eqb-true y x e)))
  where
    same-answer : (a b : Bool) → (a ≡ true → b ≡ true) → (b ≡ true → a ≡ true) → a ≡ b
    same-answer true true f g = refl
    same-answer false false f g = refl
    same-answer true false f g = absurd (let e : false ≡ true = f refl in cc)
    same-answer false true f g = absurd (let e : false ≡ true = g refl in cc)

module _ (m : Mark → Bool) where
  -- a test of some of the arguments
  abbrev picks : (Tyvar → Bool) → List Tyvar → List bare.Ty → Bool
  picks f (a ∷ as_) (u ∷ us) = (f a && list_any m (ty_marks u)) || picks f as_ us
  picks f [] us = false
  picks f (a ∷ as_) [] = false

  chosen-picks : (f : Tyvar → Bool) (as_ : List Tyvar) (us : List bare.Ty) → list_any m (chosen (map f as_) (map ty_marks us)) ≡ picks f as_ us
  chosen-picks f [] us = refl
  chosen-picks f (a ∷ as_) [] = refl
  chosen-picks f (a ∷ as_) (u ∷ us) =
      list_any-append m (cond (f a) (ty_marks u) []) (chosen (map f as_) (map ty_marks us)) ∙ ap₂ (λ x y. x || y) (by (f a)) (chosen-picks f as_ us)
    where
      by : (b : Bool) → list_any m (cond b (ty_marks u) []) ≡ (b && list_any m (ty_marks u))
      by true = refl
      by false = refl

  picks-none : (as_ : List Tyvar) (us : List bare.Ty) → picks (λ a. false) as_ us ≡ false
  picks-none [] us = refl
  picks-none (a ∷ as_) [] = refl
  picks-none (a ∷ as_) (u ∷ us) = picks-none as_ us

  picks-either : (f g : Tyvar → Bool) (as_ : List Tyvar) (us : List bare.Ty) → picks (λ a. f a || g a) as_ us ≡ (picks f as_ us || picks g as_ us)
  picks-either f g [] us = refl
  picks-either f g (a ∷ as_) [] = refl
  picks-either f g (a ∷ as_) (u ∷ us) = ap (λ z. ((f a || g a) && list_any m (ty_marks u)) || z) (picks-either f g as_ us) ∙ by (f a) (g a) (list_any m (ty_marks u)) (picks f as_ us) (picks g as_ us)
    where
      by : (x y z v w : Bool) → (((x || y) && z) || (v || w)) ≡ (((x && z) || v) || ((y && z) || w))
      by true true true v w = refl
      by true true false true w = refl
      by true true false false w = refl
      by true false true v w = refl
      by true false false true w = refl
      by true false false false w = refl
      by false true true true w = refl
      by false true true false w = refl
      by false true false true w = refl
      by false true false false w = refl
      by false false z true w = refl
      by false false z false w = refl

  -- none of the parameters
  picks-other : (v : Tyvar) (as_ : List Tyvar) (us : List bare.Ty) → is_in nat_eq v.name (tyvar_names as_) ≡ false → picks (λ a. nat_eq a.name v.name) as_ us ≡ false
  picks-other v [] us e = refl
  picks-other v (a ∷ as_) [] e = refl
  picks-other v (a ∷ as_) (u ∷ us) e =
      by (nat_eq v.name a.name) (turned a.name v.name) e (picks-other v as_ us)
    where
      by : (b : Bool) → nat_eq a.name v.name ≡ b → (b || is_in nat_eq v.name (tyvar_names as_)) ≡ false
          → (is_in nat_eq v.name (tyvar_names as_) ≡ false → picks (λ a. nat_eq a.name v.name) as_ us ≡ false)
          → ((nat_eq a.name v.name && list_any m (ty_marks u)) || picks (λ a. nat_eq a.name v.name) as_ us) ≡ false
      by true q e h = absurd (cc)
      by false q e h = ap₂ (λ x y. (x && list_any m (ty_marks u)) || y) q (h e)

  -- one of them
  picks-one : (v : Tyvar) (as_ : List Tyvar) (us : List bare.Ty) → length as_ ≡ length us → distinct nat_eq (tyvar_names as_) ≡ true → is_in nat_eq v.name (tyvar_names as_) ≡ true
      → picks (λ a. nat_eq a.name v.name) as_ us ≡ list_any m (marks_at as_ us v)
  picks-one v [] us n d e = absurd (cc)
  picks-one v (a ∷ as_) [] n d e = absurd (omega (arith, n))
  picks-one v (a ∷ as_) (u ∷ us) n d e =
      by (nat_eq v.name a.name) refl (turned a.name v.name) e (picks-one v as_ us (omega (arith, n)) (and_parts (not (is_in nat_eq a.name (tyvar_names as_))) (distinct nat_eq (tyvar_names as_)) d).1)
    where
      alone : is_in nat_eq a.name (tyvar_names as_) ≡ false
      alone = other (is_in nat_eq a.name (tyvar_names as_)) ((and_parts (not (is_in nat_eq a.name (tyvar_names as_))) (distinct nat_eq (tyvar_names as_)) d).0)
        where
          other : (b : Bool) → not b ≡ true → b ≡ false
          other true h = cc
          other false h = refl

      by : (b : Bool) → nat_eq v.name a.name ≡ b → nat_eq a.name v.name ≡ nat_eq v.name a.name → (b || is_in nat_eq v.name (tyvar_names as_)) ≡ true
          → (is_in nat_eq v.name (tyvar_names as_) ≡ true → picks (λ a. nat_eq a.name v.name) as_ us ≡ list_any m (marks_at as_ us v))
          → ((nat_eq a.name v.name && list_any m (ty_marks u)) || picks (λ a. nat_eq a.name v.name) as_ us) ≡ list_any m (cond (nat_eq v.name a.name) (ty_marks u) (marks_at as_ us v))
      by true q r e h =
          let same : v.name ≡ a.name = eqb-true v.name a.name q in
          ap₂ (λ x y. (x && list_any m (ty_marks u)) || y) (r ∙ q) (picks-other v as_ us (ap (λ k. is_in nat_eq k (tyvar_names as_)) same ∙ alone))
          ∙ or-none (list_any m (ty_marks u)) ∙ sym (ap (λ c. list_any m (cond c (ty_marks u) (marks_at as_ us v))) q)
        where
          or-none : (b : Bool) → (b || false) ≡ b
          or-none true = refl
          or-none false = refl
      by false q r e h =
          ap₂ (λ x y. (x && list_any m (ty_marks u)) || y) (r ∙ q) (h e)
          ∙ sym (ap (λ c. list_any m (cond c (ty_marks u) (marks_at as_ us v))) q)

  choose : (vs as_ : List Tyvar) (us : List bare.Ty) → length as_ ≡ length us → distinct nat_eq (tyvar_names as_) ≡ true
      → list_all (λ b. is_in nat_eq b.name (tyvar_names as_)) vs ≡ true
      → picks (λ a. is_in nat_eq a.name (tyvar_names vs)) as_ us ≡ list_any m (flat_map (marks_at as_ us) vs)
  choose [] as_ us n d e = picks-none as_ us
  choose (v ∷ vs) as_ us n d e =
      let two = and_parts (is_in nat_eq v.name (tyvar_names as_)) (list_all (λ b. is_in nat_eq b.name (tyvar_names as_)) vs) e in
      picks-either (λ a. nat_eq a.name v.name) (λ a. is_in nat_eq a.name (tyvar_names vs)) as_ us
      ∙ ap₂ (λ x y. x || y) (picks-one v as_ us n d two.0) (choose vs as_ us n d two.1)
      ∙ sym (list_any-append m (marks_at as_ us v) (flat_map (marks_at as_ us) vs))

-- of an abbreviation in which nothing is broken, the arguments count whose parameters occur
pub put-alike : (as_ : List Tyvar) (us : List bare.Ty) (t : bare.Ty) → ty_breaks t ≡ [] → length as_ ≡ length us → distinct nat_eq (tyvar_names as_) ≡ true
    → list_all (λ b. is_in nat_eq b.name (tyvar_names as_)) (vars t) ≡ true
    → Alike (chosen (map (λ a. is_in nat_eq a.name (tyvar_names (vars t))) as_) (map ty_marks us)) (ty_marks (put_ty as_ us t))
put-alike as_ us t e n d h m =
    chosen-picks m (λ a. is_in nat_eq a.name (tyvar_names (vars t))) as_ us ∙ choose m (vars t) as_ us n d h ∙ ap (list_any m) (sym (put-marks as_ us t e))
