-- Types that stand for parameters while a copy is made.
use Rattle.std.specs.Prelude.{◌≡◌, ◌-◌, ℕ, List, [], ◌++◌, length, drop, get_or}
use Rattle.ty_core.specs.Types.{Typ}
use Rattle.ty_core.specs.declared.scheme.Quantified.{Quantified}
use Rattle.mono_parts.specs.of_mono_state.Seen.{held_of, Longer}
use Rattle.mono_parts.specs.of_mono_state.Going.{IsOpen, IsRight, slots_for}
use Rattle.mono_parts.specs.of_mono_state.declared.copier.Copier.{Copier}
use Rattle.mono_copy.specs.declared.parts.Before.{Before}
use Rattle.mono_copy.specs.declared.parts.Before.TheVariants.{Same, Closed}

-- the types of a list stand for parameters, and what is known of types that were closed is right under them
pub record StandsFor (parameters : List Quantified) (list : ℕ) (old new : Copier) : Type 0 where
  pub open_ : IsOpen new
  pub right : (sources : List Typ) → IsRight sources old → IsRight sources new
  pub slots : new.slots ≡ slots_for parameters (get_or old.lists list []) ++ old.slots
  pub own : new.own ≡ old.own
  pub longer : Longer (held_of old) (held_of new)

-- only where there are no parameters nothing was put for them
abbrev pub IsBefore : List Quantified → Copier → Before → Type 0
IsBefore ps old Same = ps ≡ []
IsBefore ps old (Closed known) = known ≡ old.known

abbrev pub stood_back : (slots : ℕ) → Before → Copier → Copier
stood_back n Same now = now
stood_back n (Closed known) now = record now { slots = drop (length now.slots - n) now.slots; known = known }
