-- What the new numbers of a tree stand for in the tables at the end.
use Rattle.std.proofs.Common.{◌≡◌, ℕ, List, Vec, Global, ap, ◌∙◌}
use mathlib.Core.Path.{fun_ext}
use Rattle.ty_core.specs.Types.{Typ}
use Rattle.ir_tables.specs.Tables.{parameters_at}
use Rattle.prog_tree.specs.Readings.{reading}
use Rattle.prog_tree.specs.TreeOf.{Reading, body_of}
use Rattle.prog_tree.specs.declared.tree.Dec.{Dec}
use Rattle.prog_renumber.specs.Renumbered.{renumbered}
use Rattle.elab_state.specs.States.{reading_in}
use Rattle.elab_state.specs.declared.state.State.{State}
use Rattle.final_types.specs.Ended.{IsEnded}
use Rattle.final_types.specs.Nodes.{IsEnd}
use Rattle.final_types.specs.Programs.{IsProgramWith}
use Rattle.final_types.specs.declared.finish.Finished.{Finished}

-- the new numbers stand in the tables for what the tree read
pub reads : (S : State) (f : Finished) → IsEnded S f → (g : ℕ → Typ) → IsEnd S.solver g → renumbered f.numbers (reading f.tables) ≡ reading_in S g
reads S f ended g end = λ i. record { type = fun_ext (ended.types g end) i; parameters = parameters_at (ended.parameters i); strings = ended.strings i }

-- a program of these tables with the new tree
pub with-new : (S : State) (f : Finished) → IsEnded S f → (old : List Dec) (new : Vec Dec Global) → ((Q : Reading) → body_of Q new.items ≡ body_of (renumbered f.numbers Q) old)
    → IsProgramWith S old (record { tables = f.tables; exn = f.exn; body = new })
with-new S f ended old new same = record {
  body = λ g end. same (reading f.tables) ∙ ap (λ R. body_of R old) (reads S f ended g end);
  exn = ended.exn;
  initial = ended.initial;
  constructors = ended.constructors;
}
