-- Annotations have a limit on the size of their types.
use Rattle.std.specs.Prelude.{◌≡◌, ◌<◌, ℕ, List, Some, ⊤}
use Rattle.ty_core.specs.Types.{Typ, nodes}
use Rattle.ty_core.specs.Statics.{replace}
use Rattle.sml_tree.specs.BareTree.{Ty}
use Rattle.core_rules.specs.Objects.{Context}
use Rattle.core_rules.specs.Elaborated.{type_of}
use Rattle.elab_types.specs.Reading.{Reads}
use Rattle.elab_types.specs.Annotations.{HasNone}
use Rattle.elab_types.specs.declared.scope.TypeScope.{TypeScope}
use Rattle.elab_types.specs.declared.refused.Refused.{Refused}
use Rattle.elab_types.specs.declared.refused.Refused.TheVariants.{Unbound, Mistyped, Broken, Large, Memory}

abbrev pub annotation_limit : ℕ
annotation_limit = 65536

-- a type that is larger, as it is written, over the variables of the scope's types
abbrev pub IsTooLarge : List Typ → TypeScope → Ty → Type 0
IsTooLarge ts s ty = (f : ℕ → Typ) (c : Context) → Reads ts s f c → (t : Typ) × (type_of c ty ≡ Some (replace f t)) × (annotation_limit < nodes t)

-- but for want of memory a refusal comes only where there is no type, or one that is too large
abbrev pub IsAnnotationRefused : List Typ → TypeScope → Ty → Refused → Type 0
IsAnnotationRefused ts s ty Memory = ⊤
IsAnnotationRefused ts s ty (Large p) = IsTooLarge ts s ty
IsAnnotationRefused ts s ty (Unbound p) = HasNone ts s (λ c. type_of c ty)
IsAnnotationRefused ts s ty (Mistyped p) = HasNone ts s (λ c. type_of c ty)
IsAnnotationRefused ts s ty (Broken p) = HasNone ts s (λ c. type_of c ty)
