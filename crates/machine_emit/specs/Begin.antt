-- Before a walk.
use Rattle.std.specs.Prelude.{◌≡◌, ℕ, List, []}
use Rattle.ir_ssa.specs.Tree.{Program}
use Rattle.emit_code.specs.declared.places.Places.{Places}
use Rattle.emit_walk.specs.Walk.{Env}
use Rattle.emit_known.specs.Known.{KnowsConstants}

-- nothing of the frame is in use, no variable is in scope, and there are no labels
pub record IsEmpty (e : Env) : Type 0 where
  pub depth : e.depth ≡ 0
  pub scope : e.scope ≡ []
  pub spots : e.spots ≡ []

-- constants and the comparisons of types stand where an image of the program has them
abbrev pub AreKnown : Program → Places → Type 0
AreKnown p at = (texts : List (List ℕ)) × KnowsConstants texts p at
