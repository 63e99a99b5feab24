-- What the places that the code has stand for.
use Rattle.std.specs.Prelude.{◌+◌, get_or}
use Rattle.first_tables.specs.TablesOf.{tables_of}
use Rattle.first_tables.specs.declared.tables.Tables.{Tables}
use Rattle.emit_rows.specs.of_machine_code.Code as code
use Rattle.emit_rows.specs.of_machine_rows.Table.{rows}
use Rattle.emit_rows.specs.Shapes.{packet_in}
use Rattle.emit_code.specs.declared.places.Places.{Places}

abbrev pub places_of : Tables → Places → code.Places
places_of tables p = record {
  rows = rows;
  types = (tables_of tables).types;
  text_at = λ i. get_or p.texts.items i 0;
  name_at = λ i. get_or p.names.items i 0;
  initial_at = λ n. p.initial + n;
  packet_at = packet_in p.packets;
  fun_at = λ f. get_or p.funs.items f p.funs_end;
  set_at = λ s. get_or p.sets.items s p.sets_end;
  type_at = λ t. get_or p.types.items t p.types_end;
}
