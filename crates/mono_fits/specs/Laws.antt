-- What is claimed of the checker's decisions.
use Rattle.std.specs.Prelude.{◌≡◌, ◌↔◌, ℕ, Bool, true, false, List, [], Some, None}
use Rattle.ir_plain.specs.Tree.{Exp}
use Rattle.ir_plain.specs.Scoped.{IsLocal}
use Rattle.ir_plain.specs.Unique.{IsUnique}
use Rattle.ir_mono.specs.Types.{Row, IsExn, IsTable}
use Rattle.ir_mono.specs.Mono.{mono}
use Rattle.ir_mono.specs.Typing.{Typed}
use Rattle.mono_fits.specs.Fits.{exp_fits, type_found}

-- well typed, each atom bound in its own function, nothing bound where it is bound already
pub record IsRight (types : List Row) (m : Bool) (e : Exp (mono types)) (t : ℕ) : Type 0 where
  pub typed : Typed types m [] e t
  pub local : IsLocal (mono types) [] e
  pub unique : IsUnique {F = mono types} (λ x. x) [] e

abbrev pub FitsIsRight : Type 0
FitsIsRight =
    (types : List Row) (exn : ℕ) → IsTable types → IsExn types exn → (m : Bool) (e : Exp (mono types)) (t : ℕ)
    → exp_fits types exn m [] [] e t ≡ true ↔ IsRight types m e t

abbrev pub TypeIsRight : Type 0
TypeIsRight =
    (types : List Row) (exn : ℕ) (e : Exp (mono types)) (t : ℕ)
    → type_found types exn [] [] e ≡ Some t ↔ exp_fits types exn false [] [] e t ≡ true
