-- Types put for the variables of a type.
use Rattle.std.specs.Prelude.{◌≡◌, ℕ, List, Option, Some, None, nat_eq}
use Rattle.std.specs.Map.{lookup}
use Rattle.ir_tables.specs.of_ty_core.Types.{Typ, var, nodes}
use Rattle.ir_tables.specs.of_ty_core.Statics.{replace}
use Rattle.ir_tables.specs.of_ty_table.TypeAt.{type_at}
use Rattle.ir_tables.specs.of_ir_poly.Types.{unit_type}
use Rattle.ir_known.specs.declared.image.Rest.{Rest}
use Rattle.ir_known.specs.declared.image.Rest.TheVariants.{Itself, Unit}
use Rattle.ir_known.specs.Asked.{OpensBy}

abbrev pub rest_of : Rest → ℕ → Typ
rest_of Itself v = var v
rest_of Unit v = unit_type

abbrev pub found_or_rest : List Typ → Rest → Option ℕ → ℕ → Typ
found_or_rest ts rest (Some k) v = type_at ts k
found_or_rest ts rest None v = rest_of rest v

-- what is put for a variable
abbrev pub image_of : List Typ → List (ℕ × ℕ) → Rest → ℕ → Typ
image_of ts images rest v = found_or_rest ts rest (lookup (nat_eq v) images) v

abbrev pub Pair : Type 0
Pair = ℕ × ℕ

-- the second is the first with these types put for its variables
abbrev pub IsImage : List Typ → (ℕ → Typ) → Pair → Type 0
IsImage ts f p = type_at ts p.1 ≡ replace f (type_at ts p.0)

abbrev pub OpensImage : List Typ → (ℕ → Typ) → Pair → List Pair → List Pair → Type 0
OpensImage ts f = OpensBy (IsImage ts f) (λ p. nodes (type_at ts p.0))
