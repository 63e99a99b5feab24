-- The types that are written, as numbers of a table.
use Rattle.std.specs.Prelude.{◌≡◌, ◌<◌, ℕ, List, [], ◌∷◌, map, length, Option, Some, None, option_map, option_and_then, ⊤}
use Rattle.std.specs.Option.{option_zip}
use Rattle.mlc_names.specs.declared.label.Label.{Label}
use Rattle.ty_core.specs.Types.{Typ}
use Rattle.ty_core.specs.Statics.{apply, replace}
use Rattle.ty_table.specs.TypeAt.{type_at, types_at, AllBelow}
use Rattle.sml_tree.specs.BareTree.{Ty}
use Rattle.sml_tree.specs.TreeOf.{ty_field_of, ty_part_of}
use Rattle.sml_tree.specs.declared.tree.TyField.{TyField}
use Rattle.sml_tree.specs.declared.tree.TyPart.{TyPart}
use Rattle.core_rules.specs.Objects.{Context}
use Rattle.core_rules.specs.Elaborated.{type_of}
use Rattle.elab_types.specs.Reading.{entry_of, function_in, Reads}
use Rattle.elab_types.specs.declared.scope.TypeScope.{TypeScope}
use Rattle.elab_types.specs.declared.refused.Refused.{Refused}
use Rattle.elab_types.specs.declared.refused.Refused.TheVariants.{Unbound, Mistyped, Broken, Large, Memory}

-- r stands for what the type expression does, in every context that the scope tells of
pub record IsTypeOf (old new : List Typ) (s : TypeScope) (ty : Ty) (r : ℕ) : Type 0 where
  pub held : r < length new
  pub is : (f : ℕ → Typ) (c : Context) → Reads old s f c → type_of c ty ≡ Some (replace f (type_at new r))

-- each of the numbers stands for what its type expression does
abbrev pub Each : Context → (ℕ → Typ) → List Typ → List Ty → List ℕ → Type 0
Each c f ts [] [] = ⊤
Each c f ts [] (k ∷ ks) = ⊥
Each c f ts (ty ∷ tys) [] = ⊥
Each c f ts (ty ∷ tys) (k ∷ ks) = (type_of c ty ≡ Some (replace f (type_at ts k))) × Each c f ts tys ks

pub record AreTypesOf (old new : List Typ) (s : TypeScope) (tys : List Ty) (ks : List ℕ) : Type 0 where
  pub held : AllBelow (length new) ks
  pub are : (f : ℕ → Typ) (c : Context) → Reads old s f c → Each c f new tys ks

-- the types of several type expressions, where each has one
abbrev pub each_type : Context → List Ty → Option (List Typ)
each_type c [] = Some []
each_type c (ty ∷ tys) = option_map (λ r. r.0 ∷ r.1) (option_zip (type_of c ty) (each_type c tys))

-- the labels and the types of fields
abbrev pub labels_at : List TyField → List Label
labels_at = map (λ a. (ty_field_of a).label)

abbrev pub tys_at : List TyField → List Ty
tys_at = map (λ a. (ty_field_of a).ty)

-- the types behind arrows
abbrev pub types_behind : List TyPart → List Ty
types_behind = map (λ a. (ty_part_of a).ty)

-- what a type constructor of the scope makes of its arguments
abbrev pub applied_at : List Typ → TypeScope → List ℕ → ℕ → List ℕ → Option Typ
applied_at ts s qs x ks = option_and_then (λ e. apply (function_in ts e) (types_at ts ks)) (entry_of s qs x)

-- in no context that the scope tells of there is an answer
abbrev pub HasNone : {A : Type 0} → List Typ → TypeScope → (Context → Option A) → Type 0
HasNone ts s answer = (f : ℕ → Typ) (c : Context) → Reads ts s f c → answer c ≡ None

-- but for want of memory a refusal comes only where there is none
abbrev pub IsRefusal : {A : Type 0} → List Typ → TypeScope → (Context → Option A) → Refused → Type 0
IsRefusal ts s answer Memory = ⊤
IsRefusal ts s answer (Large p) = ⊥
IsRefusal ts s answer (Unbound p) = HasNone ts s answer
IsRefusal ts s answer (Mistyped p) = HasNone ts s answer
IsRefusal ts s answer (Broken p) = HasNone ts s answer
