-- Where the labels of functions stand that are one behind the other.
use Rattle.std.specs.Prelude.{ℕ, ◌+◌, List, [], ◌∷◌, ◌++◌, length}
use Rattle.first_values.specs.Equality.{Shape}
use Rattle.ir_ssa.specs.Tree.{Fun, Program}
use Rattle.machine_code.specs.Rows.{Rows}
use Rattle.machine_code.specs.Code.{with_params}
use Rattle.machine_code.specs.Image.{fun_size}
use Rattle.machine_rows.specs.Table.{rows}
use Rattle.image_size.specs.of_image_law.Assembled.{funs_from}
use Rattle.walk_labels.specs.Labels.{Frame, labels}

-- in a function nothing of the frame is in use but for its parameters, and there are no labels around it
abbrev pub frame_in : Fun → Frame
frame_in g = record { depth = length g.params; scope = with_params g.params 0 []; exits = [] }

module _ (rows : Rows) (types : List Shape) where
  abbrev pub funs_labels : ℕ → List Fun → List ℕ
  funs_labels pc [] = []
  funs_labels pc (g ∷ funs) = labels rows types pc (frame_in g) g.body ++ funs_labels (pc + fun_size rows types g) funs

-- of all functions of a program
abbrev pub all_labels : Program → List ℕ
all_labels p = funs_labels rows p.tables.types (funs_from p) p.funs
