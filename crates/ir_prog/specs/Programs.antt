-- The program with source matches that a program of the code stands for.
use Rattle.std.specs.Prelude.{◌≡◌, ℕ, suc, List, [], unwrap_or}
use Rattle.mlc_runs.specs.Outcome.{Outcome}
use Rattle.mlc_runs.specs.Passes.{greatest_expansion, initial_exceptions}
use Rattle.ty_table.specs.TypeAt.{type_at}
use Rattle.ir_poly.specs.Prog.{Decs}
use Rattle.ir_poly.specs.ProgWeight.{decs_weight}
use Rattle.ir_poly.specs.Tests.{Tests}
use Rattle.ir_poly.specs.TestsChecked.{exn_type}
use Rattle.ir_poly.specs.WellFormed as clean
use Rattle.ir_poly.specs.WellFormed.{meaning_of_prog, IsProg, table_of}
use Rattle.ir_tables.specs.Tables.{initial_of, program_of}
use Rattle.match_compile.specs.Compile.{compiled}
use Rattle.match_compile.specs.Exceptions.{decs_made}
use Rattle.monomorphise.specs.Counting.{expansion_within}
use Rattle.monomorphise.specs.Monomorphise.{copies}
use Rattle.prog_tree.specs.Readings.{reading}
use Rattle.prog_tree.specs.TreeOf.{body_of}
use Rattle.ir_prog.specs.declared.program.Program.{Program}

abbrev pub body_in : Program → Decs
body_in p = body_of (reading p.tables) p.body.items

abbrev pub prog_of : Program → clean.Program Decs
prog_of p = program_of p.tables (body_in p)

abbrev pub meaning : Program → ℕ → Outcome
meaning p = meaning_of_prog (prog_of p)

-- what the program stands for is well formed, its exceptions of the initial basis are those, and the type that it carries is that of exceptions
pub record IsWellFormed (p : Program) : Type 0 where
  pub exn : type_at p.tables.types p.exn ≡ exn_type
  pub initial : initial_of p.tables ≡ initial_exceptions
  pub program : IsProg (prog_of p)

-- the identifiers of the exceptions that the program makes, in the order of the text
abbrev pub exceptions : Program → List ℕ
exceptions p = decs_made (body_in p) []

-- the nodes of the source that it stands for
abbrev pub weight_in : Program → ℕ
weight_in p = decs_weight (body_in p)

-- the program of tests that it becomes
abbrev pub tests_in : Program → clean.Program Tests
tests_in p = compiled (prog_of p)

-- the nodes of those tests written out, one copy for each list of types in use; where there are more than may be, one more than those
abbrev pub expansion : Program → ℕ
expansion p = unwrap_or (expansion_within greatest_expansion (table_of (tests_in p)) (copies (tests_in p).body)) (suc greatest_expansion)
