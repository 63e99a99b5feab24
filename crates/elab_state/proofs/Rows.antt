-- Rows of constructors.
use Rattle.std.proofs.Common.{◌≡◌, ℕ, List, [], ◌∷◌}
use Rattle.ty_core.specs.Types.{Typ}
use Rattle.prog_tree.specs.of_ir_tables.Rows.{constructors_at}
use Rattle.prog_tree.specs.of_ir_tables.declared.constructors.Constructor.{Constructor}
use Rattle.elab_state.specs.Readings.{AreHeldRows}

-- where there are none, all are held
pub no-rows : (n : ℕ) (ts : List Typ) (ks : List Constructor) → constructors_at ts ks ≡ [] → AreHeldRows n ks
no-rows n ts [] e = tt
no-rows n ts (k ∷ ks) e = cc
