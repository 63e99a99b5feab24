-- The program of tests that a program of the code stands for.
use Rattle.std.specs.Prelude.{◌≡◌, ℕ, suc, false, List, [], unwrap_or}
use Rattle.mlc_runs.specs.Outcome.{Outcome}
use Rattle.mlc_runs.specs.Passes.{greatest_expansion, initial_exceptions}
use Rattle.ty_core.specs.Types.{Typ}
use Rattle.ty_table.specs.TypeAt.{type_at}
use Rattle.ir_poly.specs.Tests.{Tests}
use Rattle.ir_poly.specs.TestsChecked.{exn_type}
use Rattle.ir_poly.specs.WellFormed as clean
use Rattle.ir_poly.specs.WellFormed.{meaning_of_tests, IsTests, table_of}
use Rattle.ir_tables.specs.Tables.{initial_of, program_of}
use Rattle.plain_tree.specs.TreeOf.{tree_of}
use Rattle.tests_check.specs.Fits.{ExpFits}
use Rattle.tests_check.specs.Reads.{reading}
use Rattle.match_compile.specs.Exceptions.{tests_made}
use Rattle.monomorphise.specs.Monomorphise.{copies}
use Rattle.monomorphise.specs.Counting.{expansion_within}
use Rattle.ir_tests.specs.declared.program.Program.{Program}

abbrev pub body_of : Program → Tests
body_of p = tree_of (reading p.tables) p.body

abbrev pub tests_of : Program → clean.Program Tests
tests_of p = program_of p.tables (body_of p)

abbrev pub meaning : Program → ℕ → Outcome
meaning p = meaning_of_tests (tests_of p)

-- the body fits at a type where nothing is in scope
abbrev pub IsTyped : Program → Type 0
IsTyped p = (t : Typ) × ExpFits (table_of (tests_of p)) false [] [] [] (body_of p) t

-- the tests are, their exceptions of the initial basis are those, and the type of exceptions has its number
pub record IsWellFormed (p : Program) : Type 0 where
  pub tests : IsTests (tests_of p)
  pub initial : initial_of p.tables ≡ initial_exceptions
  pub exn : type_at p.tables.types p.exn ≡ exn_type

-- the identifiers of the exceptions that the program makes, in the order of the text
abbrev pub exceptions : Program → List ℕ
exceptions p = tests_made (body_of p) []

-- the nodes of the program written out, one copy for each list of types in use; where there are more than may be, one more than those
abbrev pub expansion : Program → ℕ
expansion p = unwrap_or (expansion_within greatest_expansion (table_of (tests_of p)) (copies (body_of p))) (suc greatest_expansion)
