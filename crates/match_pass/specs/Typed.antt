-- Which programs with source matches have well formed tests: those that are well formed, but that each variable need not be bound once, since the tests' are.
use Rattle.std.specs.Prelude.{◌≡◌, ℕ, List, [], length}
use Rattle.mlc_runs.specs.Passes.{initial_exceptions}
use Rattle.ty_table.specs.TypeAt.{type_at}
use Rattle.ir_poly.specs.ProgChecked.{DecsChecked}
use Rattle.ir_poly.specs.TestsChecked.{Knowns, exn_type}
use Rattle.ir_poly.specs.WellFormed.{IsTable, table_of}
use Rattle.ir_tables.specs.Tables.{initial_of}
use Rattle.ir_prog.specs.Programs.{body_in, prog_of}
use Rattle.ir_prog.specs.declared.program.Program.{Program}

pub record IsWellTyped (p : Program) : Type 0 where
  pub exn : type_at p.tables.types p.exn ≡ exn_type
  pub initial : initial_of p.tables ≡ initial_exceptions
  pub seven : length (prog_of p).initial ≡ 7
  pub table : IsTable (prog_of p)
  pub after : Knowns
  pub typed : DecsChecked (table_of (prog_of p)) [] [] (body_in p) after
