-- The places that are known before a program's code.
use Rattle.std.specs.Prelude.{◌≡◌, ℕ, ◌+◌, ◌*◌, List, get_or}
use Rattle.mlc_prims.specs.declared.prim.PrimExn.{PrimExn}
use Rattle.ir_values.specs.Primitives.{raised_name}
use Rattle.ir_ssa.specs.Tree.{Program}
use Rattle.machine_code.specs.Image.{initial_at, names_at, packets_at, text_place}
use Rattle.machine_rows.specs.Table.{rows}
use Rattle.emit_rows.specs.Shapes.{packet_in}
use Rattle.emit_equality.specs.of_emit_code.declared.places.Places.{Places}
use Rattle.emit_equality.specs.Ways.{ArePlaces}

-- strings, identifiers' texts, the first exceptions' names and packets, and the comparisons of types stand where the image of the program has them
pub record KnowsConstants (texts : List (List ℕ)) (p : Program) (at : Places) : Type 0 where
  pub text_at : (i : ℕ) → get_or at.texts.items i 0 ≡ text_place 2 p.tables.strings i
  pub name_at : (i : ℕ) → get_or at.names.items i 0 ≡ text_place (names_at rows texts p) texts i
  pub first_at : at.initial ≡ initial_at rows texts p
  pub packet_at : (e : PrimExn) → packet_in at.packets e ≡ packets_at rows texts p + 2 * raised_name e
  pub type_at : ArePlaces p.tables.types at.types.items at.types_end
