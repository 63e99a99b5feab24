-- What always holds of a state is known in one way.
use Rattle.std.specs.Prelude.{ℕ, List, [], ◌∷◌, ◌++◌, Option, Some, None, slice_get}
use Rattle.std.proofs.Props.{props}
use mathlib.Core.HLevel.{×_prop, Unit-prop}
use Rattle.prog_tree.specs.of_ir_tables.declared.constructors.Constructor.{Constructor}
use Rattle.elab_state.specs.Namings.{IsAbove, ComesBefore, IsNext, AreNext, IsAmong}
use Rattle.elab_state.specs.Readings.{AreWritten, IsHeldArgument, AreHeldRows}
use Rattle.elab_state.specs.declared.naming.Naming.{Naming}
use Rattle.elab_state.specs.declared.naming.Written.{Written}

IsAbove-prop : (n : ℕ) (o : Option Naming) → IsProp (IsAbove n o)
IsAbove-prop n None = hlevel props
IsAbove-prop n (Some r) = hlevel props

ComesBefore-prop : (rs : List Naming) (o : Option ℕ) (n : ℕ) → IsProp (ComesBefore rs o n)
ComesBefore-prop rs None n = Unit-prop
ComesBefore-prop rs (Some k) n = IsAbove-prop n (slice_get rs k)

IsNext-prop : (rs : List Naming) (r : Naming) → IsProp (IsNext rs r)
IsNext-prop rs r = hlevel (props, ComesBefore-prop rs r.before r.stamp)

pub AreNext-prop : (rs qs : List Naming) → IsProp (AreNext rs qs)
AreNext-prop rs [] = Unit-prop
AreNext-prop rs (r ∷ qs) = ×_prop (IsNext-prop rs r) (AreNext-prop (rs ++ r ∷ []) qs)

pub AreNamings-prop : (rs : List Naming) → IsProp (AreNext [] rs)
AreNamings-prop rs = AreNext-prop [] rs

IsAmong-prop : (n : ℕ) (o : Option ℕ) → IsProp (IsAmong n o)
IsAmong-prop n None = Unit-prop
IsAmong-prop n (Some k) = hlevel props

pub AreWritten-prop : (n count : ℕ) (ws : List Written) → IsProp (AreWritten n count ws)
AreWritten-prop n count [] = Unit-prop
AreWritten-prop n count (w ∷ ws) = ×_prop (hlevel (props, IsAmong-prop count w.naming)) (AreWritten-prop n count ws)

IsHeldArgument-prop : (n : ℕ) (o : Option ℕ) → IsProp (IsHeldArgument n o)
IsHeldArgument-prop n None = Unit-prop
IsHeldArgument-prop n (Some k) = hlevel props

pub AreHeldRows-prop : (n : ℕ) (ks : List Constructor) → IsProp (AreHeldRows n ks)
AreHeldRows-prop n [] = Unit-prop
AreHeldRows-prop n (k ∷ ks) = ×_prop (IsHeldArgument-prop n k.argument) (AreHeldRows-prop n ks)
