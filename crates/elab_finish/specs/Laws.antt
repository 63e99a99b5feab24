-- What is claimed of the program of a run of declarations.
use Rattle.std.specs.Prelude.{◌≡◌, ◌++◌, ℕ, List}
use Rattle.sml_tree.specs.BareTree as bare
use Rattle.sml_tree.specs.TreeOf as source
use Rattle.ir_poly.specs.Types.{initial_constructors}
use Rattle.ir_tables.specs.Tables.{constructors_of}
use Rattle.prog_tree.specs.Readings.{reading}
use Rattle.prog_tree.specs.TreeOf.{Reading, body_of}
use Rattle.prog_tree.specs.declared.tree.Dec.{Dec}
use Rattle.final_types.specs.of_ir_prog.Programs.{body_in}
use Rattle.final_types.specs.of_ir_prog.declared.program.Program.{Program}
use Rattle.prog_renumber.specs.Renumbered.{renumbered}
use Rattle.elab_typed.specs.Laws.{IsProgramOf}
use Rattle.elab_state.specs.declared.state.State.{State}
use Rattle.elab_context.specs.declared.context.Context.{Context}
use Rattle.basis_context.specs.Telling.{TellsBasis}
use Rattle.dec_forms.specs.Decs.{IsDecs}
use Rattle.elab_steps.specs.Tidy.{AreConstructors, IsTidy}
use Rattle.elab_worlds.specs.Final.{IsLast, IsOrdered}
use Rattle.final_types.specs.Programs.{IsProgramWith}
use Rattle.elab_finish.specs.Finished.{IsFinished}
use Rattle.final_types.specs.declared.finish.Finished.{Finished}

-- Declarations were elaborated in the initial basis, the fields of all records are settled, and the state's tables finished. The tree with the new numbers for its types is a program of these
-- tables that is well typed; the declarations have a typing; and it does what they do at every number of turns.
abbrev pub ProgramsAreRight : Type 0
ProgramsAreRight = (S T : State) (C D : Context) (ds : List bare.Dec) (old new : List Dec) (l : ℕ) (f : Finished) → TellsBasis S C → IsDecs S C ds T D old
    → IsLast T l → AreConstructors T → IsOrdered T → IsFinished T f → ((Q : Reading) → body_of Q new ≡ body_of (renumbered f.numbers Q) old)
    → IsProgramOf (initial_constructors ++ constructors_of f.tables) (source.decs_of ds) (body_of (reading f.tables) new)

-- So it is where the state was tidy before them, and its constructors might stand in a program's table, as those of a new state may.
abbrev pub RunsAreRight : Type 0
RunsAreRight = (S T : State) (C D : Context) (ds : List bare.Dec) (old new : List Dec) (f : Finished) → TellsBasis S C → IsDecs S C ds T D old → IsTidy S S.level → AreConstructors S
    → IsOrdered T → IsFinished T f → ((Q : Reading) → body_of Q new ≡ body_of (renumbered f.numbers Q) old)
    → IsProgramOf (initial_constructors ++ constructors_of f.tables) (source.decs_of ds) (body_of (reading f.tables) new)

-- so does the program that is made of the last state and the tree
abbrev pub MadeProgramsAreRight : Type 0
MadeProgramsAreRight = (S T : State) (C D : Context) (ds : List bare.Dec) (old : List Dec) (l : ℕ) (p : Program) → TellsBasis S C → IsDecs S C ds T D old → IsLast T l
    → AreConstructors T → IsOrdered T → IsProgramWith T old p → IsProgramOf (initial_constructors ++ constructors_of p.tables) (source.decs_of ds) (body_in p)
