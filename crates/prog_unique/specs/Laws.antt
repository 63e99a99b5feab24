-- What is claimed of programs whose variables are bound once.
use Rattle.std.specs.Prelude.{ℕ, List, []}
use Rattle.ir_poly.specs.Prog.{Decs}
use Rattle.ir_poly.specs.ProgOnce.{IsOnce}
use Rattle.prog_unique.specs.Unique.{DecsUnique}

-- where each variable is bound once, none is bound where it is bound already
pub record BindsNew (ds : Decs) : Type 0 where
  pub after : List ℕ
  pub unique : DecsUnique [] ds after

abbrev pub OnceIsUnique : Type 0
OnceIsUnique = (ds : Decs) → IsOnce ds → BindsNew ds
