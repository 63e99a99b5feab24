-- What is claimed of the checker's rules.
use Rattle.std.specs.Prelude.{◌↔◌, ℕ, Bool, List, [], map}
use Rattle.ty_core.specs.Types.{Typ}
use Rattle.ir_plain.specs.Tree.{Exp}
use Rattle.ir_plain.specs.Scoped.{IsLocal}
use Rattle.ir_plain.specs.Unique.{IsUnique}
use Rattle.ir_poly.specs.Tests.{poly}
use Rattle.ir_poly.specs.Types.{Constructor}
use Rattle.ir_poly.specs.TestsChecked.{Checked}
use Rattle.tests_check.specs.Fits.{ExpFits}

-- well typed, each atom bound in its own function, nothing bound where it is bound already
pub record IsRight (table : List Constructor) (m : Bool) (e : Exp poly) (t : Typ) : Type 0 where
  pub typed : Checked table m [] [] e t
  pub local : IsLocal poly [] e
  pub unique : IsUnique {F = poly} (λ x. x) [] e

abbrev pub FitsIsRight : Type 0
FitsIsRight = (table : List Constructor) (m : Bool) (e : Exp poly) (t : Typ) → ExpFits table m [] [] [] e t ↔ IsRight table m e t
