-- What the code has of a program that is converted, and the numbers, sets and captures that it stands for.
use Rattle.std.specs.Prelude.{◌≡◌, ℕ, suc, List}
use Rattle.ir_mono.specs.Types as table
use Rattle.ir_mono.specs.Mono.{Program}
use Rattle.flow_sets.specs.Flow.{Flow}
use Rattle.closure_convert.specs.Scope.{Table, index_of}
use Rattle.closure_convert.specs.Capture.{entry_of, captured_in, pieces_in, table_of}
use Rattle.closure_meaning.specs.Convert.{Numbering}
use Rattle.flow_types.specs.of_closure_whole.Converted.{numbering}
use Rattle.ir_tables.specs.Tables.{string_at}
use Rattle.flow_types.specs.Flows.{Has}
use Rattle.capture_table.specs.Tables.{numbers_of}
use Rattle.closure_parts.specs.Named.{name_in}
use Rattle.closure_parts.specs.Indexed.{ArePlaces, text_in}
use Rattle.closure_parts.specs.Tagged.{HasTags}
use Rattle.closure_parts.specs.declared.setting.Setting.{Setting}

abbrev pub Row : Type 0
Row = table.Row

abbrev pub Texts : Type 0
Texts = List (List ℕ)

-- it has these types, strings, numbers, sets and captures
pub record Holds (setting : Setting) (types : List table.Row) (strings : List (List ℕ)) (n : Numbering) (F : Flow) (T : Table) : Type 0 where
  pub functions : (k : ℕ) → suc (index_of k (numbers_of setting.captures)) ≡ n.function k
  pub texts : (i : ℕ) → text_in setting.places i ≡ n.text (string_at strings i)
  pub tags : HasTags setting.tags n
  pub names : (x : ℕ) → name_in setting.names.entries x ≡ n.is_name x
  pub flow : Has setting.flow F
  pub captured : (k : ℕ) → captured_in (entry_of k setting.captures) ≡ T.captured k
  pub pieces : (k : ℕ) → pieces_in (entry_of k setting.captures) ≡ T.pieces k
  pub places : ArePlaces setting.places types

-- it has those of a program's conversion by these sets, with captures in the order of binding
abbrev pub HoldsBy : Setting → (strings : List (List ℕ)) → Flow → Program → Type 0
HoldsBy setting strings F p = Holds setting p.types strings (numbering strings F p) F (table_of p.types p.body)
