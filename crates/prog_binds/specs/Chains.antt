-- What each part of a list puts in scope.
use Rattle.std.specs.Prelude.{ℕ, Bool, true, false, List, [], ◌∷◌, Vec}
use Rattle.std.specs.Global.{Global}
use Rattle.ty_core.specs.Types.{Typ}
use Rattle.ty_table.specs.TypeAt.{type_at}
use Rattle.ir_poly.specs.ProgChecked.{pat_onto, each_onto}
use Rattle.ir_poly.specs.TestsChecked.{Knowns}
use Rattle.ir_tables.specs.declared.tables.Tables.{Tables}
use Rattle.prog_known.specs.declared.manner.Manner.{Manner}
use Rattle.prog_known.specs.declared.manner.Manner.TheVariants.{Plain, Over}
use Rattle.prog_known.specs.Onto.{known_by}
use Rattle.prog_tree.specs.Readings.{reading}
use Rattle.prog_tree.specs.TreeOf.{pat_of}
use Rattle.prog_tree.specs.declared.tree.Binding.{Binding}
use Rattle.prog_tree.specs.declared.tree.Function.{Function}
use Rattle.prog_tree.specs.declared.tree.Pat.{Pat}
use Rattle.prog_tree.specs.declared.tree.PatField.{PatField}
use Rattle.prog_tree.specs.declared.tree.PatPart.{PatPart}
use Rattle.prog_tree.specs.declared.tree.Rule.{Rule}
use Rattle.prog_tree.specs.declared.tree.Side.{Side}
use Rattle.prog_tree.specs.declared.tree.Side.TheVariants as side

-- the type of the first operand of a chain that is matched at a type
abbrev pub first_type : ℕ → List PatPart → ℕ
first_type u [] = u
first_type u (j ∷ js) = j.pair.left

-- that of the operand of a part, which these follow; to the right the chain goes on inside the second part of the pair
abbrev pub part_type : Side → ℕ → List PatPart → ℕ
part_type side.Left u js = u
part_type side.Right u js = first_type u js

-- a binding's variables
abbrev pub manner_if : Bool → ℕ → Manner
manner_if true ps = Over ps
manner_if false ps = Plain

module _ (t : Tables) where
  abbrev pub pat_step : Manner → Pat → ℕ → Knowns → Knowns
  pat_step m p u = pat_onto (known_by t m) (pat_of (reading t) p) (type_at t.types u)

  abbrev pub field_step : Manner → PatField → List PatField → Knowns → Knowns
  field_step m f fs = pat_step m f.pat f.ty

  abbrev pub part_step : Manner → Side → PatPart → List PatPart → Knowns → Knowns
  part_step m s j js = pat_step m j.pat (part_type s j.pair.right js)

  abbrev pub member_step : Manner → Vec ℕ Global × ℕ × Function → Knowns → Knowns
  member_step m f = each_onto f.0.items (known_by t m (type_at t.types f.1))

  abbrev pub bind_step : ℕ → Binding × Rule → Knowns → Knowns
  bind_step ps b = pat_step (manner_if b.0.general ps) b.1.pat b.0.ty

  abbrev pub next_bind_step : ℕ → Binding × Rule → List (Binding × Rule) → Knowns → Knowns
  next_bind_step ps b bs = bind_step ps b
