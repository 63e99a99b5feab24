-- The types that equality needs, gathered in any order.
use Rattle.std.specs.Prelude.{◌≡◌, ◌≤◌, ◌<◌, ℕ, List, [], length, Some, None, option_map}
use Rattle.mlc_names.specs.declared.label.Label.{Label}
use Rattle.ty_core.specs.Types.{Typ, Typs, con, labels}
use Rattle.ir_poly.specs.Types.{Constructor}
use Rattle.ir_poly.specs.TestsChecked.{HasConstructor}
use Rattle.monomorphise.specs.Expansion.{IsOneOf, IsPart, IsNeeded, AreDifferent}
use Rattle.monomorphise.specs.Counting.{needed_within}

-- equality at t needs u at once: a field of a record, or a constructor's argument
pub data NeedsAtOnce (constructors : List Constructor) (t u : Typ) : Type 0 where
  a_field : (ls : List Label) (ts : Typs) → t ≡ con (labels ls) ts → IsPart u ts → NeedsAtOnce constructors t u
  an_argument : (c : ℕ) → HasConstructor constructors c t (Some u) → NeedsAtOnce constructors t u

-- each once, the roots and what each of them needs at once among them, and all of them needed
pub record AreAllNeeded (constructors : List Constructor) (roots ts : List Typ) : Type 0 where
  pub each_once : AreDifferent ts
  pub roots_are : (t : Typ) → IsOneOf t roots → IsOneOf t ts
  pub parts_are : (t u : Typ) → IsOneOf t ts → NeedsAtOnce constructors t u → IsOneOf u ts
  pub only : (t : Typ) → IsOneOf t ts → IsNeeded constructors roots t

-- each once, and all of them needed
pub record AreNeeded (constructors : List Constructor) (roots ts : List Typ) : Type 0 where
  pub each_once : AreDifferent ts
  pub only : (t : Typ) → IsOneOf t ts → IsNeeded constructors roots t

-- all that are needed are as many as the definition counts
abbrev pub AllAreCounted : Type 0
AllAreCounted = (constructors : List Constructor) (limit : ℕ) (roots ts : List Typ) → AreAllNeeded constructors roots ts → length ts ≤ limit
    → option_map length (needed_within constructors limit [] roots) ≡ Some (length ts)

-- where more than the limit are needed it gives none
abbrev pub MoreArePast : Type 0
MoreArePast = (constructors : List Constructor) (limit : ℕ) (roots ts : List Typ) → AreNeeded constructors roots ts → limit < length ts
    → needed_within constructors limit [] roots ≡ None
