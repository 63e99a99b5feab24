-- What a node is: a type name without arguments, a type name with one, a function, a record.
use Rattle.std.specs.Prelude.{◌≡◌, ℕ, List, [], ◌∷◌, Option, Some, None}
use Rattle.mlc_names.specs.declared.label.Label.{Label}
use Rattle.ty_core.specs.Types.{arrow, labels, name}
use Rattle.ty_core.specs.declared.name.TyName.{TyName}
use Rattle.ir_mono.specs.Types.{Node, node}

abbrev pub alone_in : TyName → List ℕ → Option TyName
alone_in y [] = Some y
alone_in y (p ∷ ps) = None

abbrev pub name_in : Node → Option TyName
name_in (node (name y) ps) = alone_in y ps
name_in (node arrow ps) = None
name_in (node (labels ls) ps) = None

abbrev pub single_in : TyName → List ℕ → Option (TyName × ℕ)
single_in y [] = None
single_in y (p ∷ []) = Some (y, p)
single_in y (p ∷ q ∷ ps) = None

abbrev pub applied_in : Node → Option (TyName × ℕ)
applied_in (node (name y) ps) = single_in y ps
applied_in (node arrow ps) = None
applied_in (node (labels ls) ps) = None

abbrev pub two_in : List ℕ → Option (ℕ × ℕ)
two_in [] = None
two_in (p ∷ []) = None
two_in (p ∷ q ∷ []) = Some (p, q)
two_in (p ∷ q ∷ r ∷ ps) = None

abbrev pub function_in : Node → Option (ℕ × ℕ)
function_in (node arrow ps) = two_in ps
function_in (node (labels ls) ps) = None
function_in (node (name y) ps) = None

abbrev pub record_in : Node → Option (List Label × List ℕ)
record_in (node (labels ls) ps) = Some (ls, ps)
record_in (node arrow ps) = None
record_in (node (name y) ps) = None

-- exactly one, two or three

module _ {A : Type 0} where
  abbrev pub one_of : List A → Option A
  one_of [] = None
  one_of (p ∷ []) = Some p
  one_of (p ∷ q ∷ ps) = None

  abbrev pub two_of : List A → Option (A × A)
  two_of [] = None
  two_of (p ∷ []) = None
  two_of (p ∷ q ∷ []) = Some (p, q)
  two_of (p ∷ q ∷ r ∷ ps) = None

  abbrev pub three_of : List A → Option (A × A × A)
  three_of [] = None
  three_of (p ∷ []) = None
  three_of (p ∷ q ∷ []) = None
  three_of (p ∷ q ∷ r ∷ []) = Some (p, q, r)
  three_of (p ∷ q ∷ r ∷ s ∷ ps) = None
