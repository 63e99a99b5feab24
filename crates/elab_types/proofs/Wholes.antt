-- Refusals of annotations.
use Rattle.std.proofs.Common.{List}
use Rattle.ty_core.specs.Types.{Typ}
use Rattle.sml_tree.specs.BareTree.{Ty}
use Rattle.core_rules.specs.Elaborated.{type_of}
use Rattle.elab_types.specs.Annotations.{IsRefusal}
use Rattle.elab_types.specs.Whole.{IsAnnotationRefused}
use Rattle.elab_types.specs.declared.scope.TypeScope.{TypeScope}
use Rattle.elab_types.specs.declared.refused.Refused.{Refused}
use Rattle.elab_types.specs.declared.refused.Refused.TheVariants.{Unbound, Mistyped, Broken, Large, Memory}

pub passed-on : (ts : List Typ) (s : TypeScope) (ty : Ty) (e : Refused) → IsRefusal ts s (λ c. type_of c ty) e → IsAnnotationRefused ts s ty e
passed-on ts s ty Memory h = tt
passed-on ts s ty (Large p) h = absurd h
passed-on ts s ty (Unbound p) h = h
passed-on ts s ty (Mistyped p) h = h
passed-on ts s ty (Broken p) h = h
