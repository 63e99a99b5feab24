-- The program of a state and a tree.
use Rattle.std.specs.Prelude.{◌≡◌, ℕ, List}
use Rattle.ty_core.specs.Types.{Typ}
use Rattle.ty_table.specs.TypeAt.{type_at}
use Rattle.ir_poly.specs.TestsChecked.{exn_type}
use Rattle.ir_tables.specs.Tables.{initial_of, constructors_of}
use Rattle.prog_tree.specs.TreeOf.{body_of}
use Rattle.prog_tree.specs.declared.tree.Dec.{Dec}
use Rattle.ir_prog.specs.Programs.{body_in}
use Rattle.ir_prog.specs.declared.program.Program.{Program}
use Rattle.elab_state.specs.States.{reading_in, table_in}
use Rattle.elab_state.specs.declared.state.State.{State}
use Rattle.final_types.specs.Nodes.{IsEnd}

-- read in its own tables its body is what the tree is at the end; and the tables have what the state's had
pub record IsProgramWith (S : State) (old : List Dec) (p : Program) : Type 0 where
  pub body : (g : ℕ → Typ) → IsEnd S.solver g → body_in p ≡ body_of (reading_in S g) old
  pub exn : type_at p.tables.types p.exn ≡ exn_type
  pub initial : initial_of p.tables ≡ initial_of S.tables
  pub constructors : constructors_of p.tables ≡ table_in S
