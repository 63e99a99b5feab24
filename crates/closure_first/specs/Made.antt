-- The conversion of a program that has no function by itself, by any sets: functions are numbered in the order of their codes, a string by its place, names of
-- exceptions are what is bound as one, and captures are in the order of binding.
use Rattle.std.specs.Prelude.{ℕ, List}
use Rattle.ir_mono.specs.Mono.{Program}
use Rattle.ir_first.specs.Tree as out
use Rattle.flow_sets.specs.Flow.{Flow}
use Rattle.closure_convert.specs.Capture.{table_of}
use Rattle.closure_meaning.specs.Convert.{program}
use Rattle.closure_bodies.specs.of_closure_whole.Converted.{numbering}

abbrev pub converted_by : Flow → List (List ℕ) → Program → out.Program
converted_by F strings p = program (numbering strings F p) strings F (table_of p.types p.body) p
