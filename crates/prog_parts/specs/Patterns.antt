-- What is asked of each part of a pattern.
use Rattle.std.specs.Prelude.{ℕ, Bool, true, false, ◌&&◌, List, [], ◌∷◌, length, Option, Some, None}
use Rattle.std.specs.Map.{lookup}
use Rattle.mlc_names.specs.declared.label.Label.{Label}
use Rattle.mlc_names.specs.declared.label.Label.TheVariants.{Number}
use Rattle.ty_core.specs.Types.{Typ}
use Rattle.ty_core.specs.declared.scheme.Quantified.{Quantified}
use Rattle.ty_table.specs.TypeAt.{type_at}
use Rattle.ir_values.specs.Values.{same_label}
use Rattle.ir_poly.specs.Types.{ref_type, over}
use Rattle.ir_poly.specs.TestsChecked.{Knowns, exn_type, is_size}
use Rattle.ir_tables.specs.declared.tables.Tables.{Tables}
use Rattle.prog_known.specs.Environments.{table_in}
use Rattle.prog_check.specs.Same.{same_type, same_option}
use Rattle.prog_check.specs.Deciding.{row_in, on_row, argument_of, takes, exc_argument}
use Rattle.prog_check.specs.Checking.{check_pat}
use Rattle.prog_tree.specs.Readings.{reading}
use Rattle.prog_tree.specs.TreeOf.{pat_of, exc_of}
use Rattle.prog_tree.specs.declared.tree.Exception.{Exception}
use Rattle.prog_tree.specs.declared.tree.Head.{Head}
use Rattle.prog_tree.specs.declared.tree.Head.TheVariants as head
use Rattle.prog_tree.specs.declared.tree.Pair.{Pair}
use Rattle.prog_tree.specs.declared.tree.Pat.{Pat}
use Rattle.prog_tree.specs.declared.tree.PatField.{PatField}
use Rattle.prog_tree.specs.declared.tree.PatPart.{PatPart}
use Rattle.prog_tree.specs.declared.tree.Side.{Side}
use Rattle.prog_tree.specs.declared.tree.Side.TheVariants as side
use Rattle.prog_binds.specs.Chains.{first_type, part_type}

-- the type with which a part of a chain is matched, where the parts js follow: to the left the chain's type is that of the last part
abbrev pub outer_type : Side → ℕ → List PatPart → ℕ
outer_type side.Left u js = first_type u js
outer_type side.Right u js = u

-- the type that the parts after it have for theirs
abbrev pub next_type : Side → ℕ → ℕ → ℕ
next_type side.Left u b = u
next_type side.Right u b = b

abbrev pub next_part : Side → ℕ → PatPart → ℕ
next_part s u j = next_type s u j.pair.right

-- how many fields a record has, where there may be no further ones
abbrev pub size_if : Bool → List PatField → Option ℕ
size_if true fs = None
size_if false fs = Some (length fs)

-- an exception alone
abbrev pub exception_fits : Knowns → Exception → Typ → Bool
exception_fits G x u = takes None (exc_argument G (exc_of x)) && same_type u exn_type

abbrev pub has_size : Option ℕ → Typ → Bool
has_size size u = on_row (row_in u) (λ r. is_size size (length r))

module _ (D : List Quantified) where
  -- a part of a value of type u that has the label l
  abbrev pub is_part : Typ → Label → Typ → Bool
  is_part u l a = on_row (row_in u) (λ r. same_option (lookup (same_label l) r) (Some a)) && over D a

  -- a pair of two parts
  abbrev pub pair_fits : Typ → Typ → Typ → Bool
  pair_fits u a b = is_part u (Number 1) a && (is_part u (Number 2) b && has_size (Some 2) u)

module _ (t : Tables) (D : List Quantified) (G : Knowns) where
  -- a pattern that is matched with a value of the type of this number
  abbrev pub pat_holds : Pat → ℕ → Bool
  pat_holds p u = check_pat (table_in t) D G (pat_of (reading t) p) (type_at t.types u)

  -- what stands before an argument of a type
  abbrev pub head_fits : Head → Typ → Typ → Bool
  head_fits (head.Constructor c) a u = takes (Some a) (argument_of (table_in t) c u)
  head_fits head.Reference a u = same_type u (ref_type a)
  head_fits (head.Exception x) a u = takes (Some a) (exc_argument G (exc_of x)) && same_type u exn_type

  abbrev pub field_holds : ℕ → PatField → Bool
  field_holds u f = is_part D (type_at t.types u) f.label (type_at t.types f.ty) && pat_holds f.pat f.ty

  -- a constructor between two operands
  abbrev pub joint_fits : Head → Pair → Typ → Bool
  joint_fits h j u = head_fits h (type_at t.types j.ty) u
      && (over D (type_at t.types j.ty) && pair_fits D (type_at t.types j.ty) (type_at t.types j.left) (type_at t.types j.right))

  abbrev pub part_right : PatPart → ℕ → ℕ → Bool
  part_right j u own = joint_fits j.head j.pair (type_at t.types u) && pat_holds j.pat own

  abbrev pub part_holds : Side → ℕ → PatPart → List PatPart → Bool
  part_holds s u j js = part_right j (outer_type s u js) (part_type s j.pair.right js)
