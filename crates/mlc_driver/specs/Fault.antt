-- What a refusal tells.
use Rattle.std.specs.Prelude.{◌≡◌, ◌⊎◌, ℕ, ◌<◌, Bool, true, false, List, length, Option, Some, None, Result, Ok, Err, ⊤}
use Rattle.std.specs.Option.{ForSome}
use Rattle.mlc_base.specs.declared.place.Place.{Place}
use Rattle.mlc_faults.specs.File.{File}
use Rattle.mlc_faults.specs.Files.{LiesIn}
use Rattle.mlc_faults.specs.declared.code.Code.{Code}
use Rattle.mlc_faults.specs.declared.code.Code.TheVariants.{Unbound, NoTyping, NoPrincipalTyping, Restriction, TypeTooLarge, NotCompiled}
use Rattle.mlc_faults.specs.declared.fault.Fault as base
use Rattle.mlc_faults.specs.declared.refused.Refused.{Refused}
use Rattle.mlc_faults.specs.declared.refused.Refused.TheVariants as refusal
use Rattle.elab_types.specs.declared.refused.Refused.TheVariants as cause
use Rattle.pat_elab.specs.declared.stopped.Stopped.{Stopped}
use Rattle.pat_elab.specs.declared.stopped.Stopped.TheVariants.{Foreign, NotPrincipal, Refuses}

-- a refusal, where it is by a fault, tells one of this property
abbrev pub OnFault : Refused → (base.Fault → Type 0) → Type 0
OnFault (refusal.Fault f) P = P f
OnFault refusal.Memory P = ⊤

abbrev pub IfFault : {T : Type 0} → Result T Refused → (base.Fault → Type 0) → Type 0
IfFault (Ok x) P = ⊤
IfFault (Err r) P = OnFault r P

-- the codes of what elaboration refuses a project for
abbrev pub is_of_elaboration : Code → Bool
is_of_elaboration Unbound = true
is_of_elaboration NoTyping = true
is_of_elaboration NoPrincipalTyping = true
is_of_elaboration Restriction = true
is_of_elaboration TypeTooLarge = true
is_of_elaboration NotCompiled = true
is_of_elaboration _ = false

-- the code of what elaboration answered: want of memory has none
abbrev pub code_of : Stopped → Option Code
code_of (Refuses (cause.Unbound p)) = Some Unbound
code_of (Refuses (cause.Mistyped p)) = Some NoTyping
code_of (Refuses (cause.Broken p)) = Some Restriction
code_of (Refuses (cause.Large p)) = Some TypeTooLarge
code_of (Refuses cause.Memory) = None
code_of (NotPrincipal p) = Some NoPrincipalTyping
code_of (Foreign p) = Some NotCompiled

-- a fault that elaboration tells: it lies in the files that were read, and its name is held
pub record IsTold (names : List (List ℕ)) (reads : List File) (f : base.Fault) : Type 0 where
  pub code : is_of_elaboration f.code ≡ true
  pub lies : LiesIn f.place reads
  pub held : ForSome f.name (λ n. n < length names)

-- a fault of this code at this place, or one that tells that there is no typing
abbrev pub IsThere : Code → Place → base.Fault → Type 0
IsThere code place f = ((f.code ≡ code) × (f.place ≡ place)) ⊎ (f.code ≡ NoTyping)

-- that an identifier isn't bound, and that a restriction is broken, are told at the place that elaboration gave
pub record Tells (s : Stopped) (f : base.Fault) : Type 0 where
  pub unbound : f.code ≡ Unbound → s ≡ Refuses (cause.Unbound f.place)
  pub broken : f.code ≡ Restriction → s ≡ Refuses (cause.Broken f.place)
