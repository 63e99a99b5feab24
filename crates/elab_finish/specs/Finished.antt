-- The program's tables at the end.
use Rattle.std.specs.Prelude.{◌≡◌, ℕ}
use Rattle.ty_core.specs.Types.{Typ}
use Rattle.ty_table.specs.TypeAt.{type_at}
use Rattle.ir_poly.specs.TestsChecked.{exn_type}
use Rattle.ir_tables.specs.Tables.{initial_of, constructors_of, parameters_of, strings_of}
use Rattle.prog_renumber.specs.Renumbered.{number_at}
use Rattle.elab_state.specs.States.{table_in, reading_in}
use Rattle.elab_state.specs.declared.state.State.{State}
use Rattle.elab_worlds.specs.Final.{IsFinal}
use Rattle.final_types.specs.declared.finish.Finished.{Finished}

-- the tables are the state's, with the types that are written, as they are in the end
pub record IsFinished (S : State) (f : Finished) : Type 0 where
  pub types : (g : ℕ → Typ) → IsFinal S g → (k : ℕ) → type_at f.tables.types (number_at f.numbers k) ≡ (reading_in S g).type k
  pub exn : type_at f.tables.types f.exn ≡ exn_type
  pub initial : initial_of f.tables ≡ initial_of S.tables
  pub constructors : constructors_of f.tables ≡ table_in S
  pub parameters : parameters_of f.tables ≡ parameters_of S.tables
  pub strings : strings_of f.tables ≡ strings_of S.tables
