-- Scopes that are gone into and left.
use Rattle.std.specs.Prelude.{◌≡◌, ℕ, List, ◌++◌, length}
use Rattle.ty_core.specs.declared.mark.Mark.{Mark}
use Rattle.ir_known.specs.declared.known.Known.{Known}
use Rattle.ir_poly.specs.TestsChecked.{Knowns}
use Rattle.ir_tables.specs.declared.tables.Tables.{Tables}
use Rattle.prog_known.specs.Onto.{Onto}
use Rattle.prog_known.specs.declared.environment.Environment.{Environment}
use Rattle.prog_leaves.specs.declared.scopes.Place.{Place}

-- how much is in scope
pub record IsPlace (p : Place) (e : Environment) : Type 0 where
  pub parameters : p.parameters ≡ length e.parameters
  pub variables : p.variables ≡ length e.variables

-- some parameters and variables came into scope
pub record Extends (old new : Environment) : Type 0 where
  pub further_parameters : List (ℕ × Mark)
  pub further_variables : List (ℕ × Known)
  pub parameters : new.parameters ≡ further_parameters ++ old.parameters
  pub variables : new.variables ≡ further_variables ++ old.variables

-- some variables came into scope, which makes f of what is known
pub record Adds (t : Tables) (old new : Environment) (f : Knowns → Knowns) : Type 0 where
  pub parameters : new.parameters ≡ old.parameters
  pub onto : Onto t old.variables new.variables f
