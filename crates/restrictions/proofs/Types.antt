-- The type variables of types, and where types begin.
use Rattle.std.proofs.Common.{◌≡◌, ◌<◌, List, [], ◌∷◌, ◌++◌, map, length, Vec, Box, Global, refl, sym, ap, ap₂, ◌∙◌, arith}
use Rattle.mlc_base.specs.declared.place.Place.{Place}
use Rattle.sml_tree.specs.BareTree as bare
use Rattle.sml_tree.specs.Derived.{TyAt, arrows}
use Rattle.sml_tree.specs.Phrases.{has_scope, in_ty, in_ty_fields, in_tys, never, ty}
use Rattle.sml_tree.specs.TreeOf.{TyFieldOf, node_ty, node_ty_field, node_ty_part, ty_of, ty_part_of}
use Rattle.sml_tree.specs.declared.tree.Ty.{Ty, Ty-F, fold-roll-Ty}
use Rattle.sml_tree.specs.declared.tree.Ty.TheVariants as tys
use Rattle.sml_tree.specs.declared.tree.TyPart.{TyPart}
use Rattle.core_rules.specs.Restrictions.{ty_place}

-- no type has a scope in it

mutual
  pub all-of-ty : (t : bare.Ty) → in_ty has_scope t ≡ in_ty never t
  all-of-ty (bare.var p a) = refl
  all-of-ty (bare.fields p fs) = ap (λ l. ty (bare.fields p fs) ∷ l) (all-of-fields fs)
  all-of-ty (bare.con p ts q c) = ap (λ l. ty (bare.con p ts q c) ∷ l) (all-of-tys ts)
  all-of-ty (bare.arrow p t u) = ap₂ (λ a b. ty (bare.arrow p t u) ∷ (a ++ b)) (all-of-ty t) (all-of-ty u)
  all-of-ty (bare.ill p) = refl

  all-of-tys : (ts : bare.Tys) → in_tys has_scope ts ≡ in_tys never ts
  all-of-tys bare.no_tys = refl
  all-of-tys (bare.ty t ts) = ap₂ (λ a b. a ++ b) (all-of-ty t) (all-of-tys ts)

  all-of-fields : (fs : bare.TyFields) → in_ty_fields has_scope fs ≡ in_ty_fields never fs
  all-of-fields bare.no_ty_fields = refl
  all-of-fields (bare.ty_field l t fs) = ap₂ (λ a b. a ++ b) (all-of-ty t) (all-of-fields fs)

none-of : {A : Type 0} (xs : List A) → length xs ≡ 0 → xs ≡ []
none-of [] e = refl
none-of (x ∷ xs) e = absurd (omega (arith, e))

arrows-begin : (p : Place) (t : bare.Ty) (us : List TyPart) → 0 < length us → ty_place (arrows p t (map ty_part_of us)) ≡ p
arrows-begin p t [] lt = absurd (omega (arith, lt))
arrows-begin p t (u ∷ us) lt = refl

pub begins-Arrow-alone : (x : Ty) (p : Place) (t : Box Ty Global) (us : Vec TyPart Global) → x ≡ tys.Arrow p t us → length us.items ≡ 0 → ty_place (ty_of t.value) ≡ ty_place (ty_of x)
begins-Arrow-alone x p t us q h =
    sym (ap (λ z. ty_place (ty_of z)) (q ∙ sym (tys.rolls-Arrow p t us)) ∙ ap ty_place (fold-roll-Ty bare.Ty TyFieldOf TyAt node_ty node_ty_field node_ty_part (Ty-F.Arrow p t us))
    ∙ ap (λ l. ty_place (arrows p (ty_of t.value) (map ty_part_of l))) (none-of us.items h))

pub begins-Arrow : (x : Ty) (p : Place) (t : Box Ty Global) (us : Vec TyPart Global) → x ≡ tys.Arrow p t us → 0 < length us.items → p ≡ ty_place (ty_of x)
begins-Arrow x p t us q h =
    sym (ap (λ z. ty_place (ty_of z)) (q ∙ sym (tys.rolls-Arrow p t us)) ∙ ap ty_place (fold-roll-Ty bare.Ty TyFieldOf TyAt node_ty node_ty_field node_ty_part (Ty-F.Arrow p t us))
    ∙ arrows-begin p (ty_of t.value) us.items h)
