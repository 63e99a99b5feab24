-- What is asked of the types of records, in the words of the typing.
use Rattle.std.specs.Prelude.{◌≡◌, ℕ, true, List, Option, Some, map, length}
use Rattle.std.specs.Map.{lookup}
use Rattle.mlc_names.specs.declared.label.Label.{Label}
use Rattle.ty_core.specs.Types.{Typ}
use Rattle.ty_table.specs.TypeAt.{type_at}
use Rattle.prog_check.specs.of_ir_values.Values.{same_label}
use Rattle.ir_known.specs.of_ir_poly.Types.{row_type}
use Rattle.ir_known.specs.of_ir_poly.TestsChecked.{is_size}

-- fields whose types are given by number
abbrev pub field_types : List Typ → List (Label × ℕ) → List (Label × Typ)
field_types ts = map (λ f. (f.0, type_at ts f.1))

-- records of the type have a field of this type
abbrev pub HasField : Label → Typ → Typ → Type 0
HasField l u t = (r : List (Label × Typ)) × (u ≡ row_type r) × (lookup (same_label l) r ≡ Some t)

-- records of the type have so many fields, where a number is asked for
abbrev pub IsSized : Option ℕ → Typ → Type 0
IsSized size t = (r : List (Label × Typ)) × (t ≡ row_type r) × (is_size size (length r) ≡ true)
