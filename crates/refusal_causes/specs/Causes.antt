-- What is certain of the causes for which a project is refused in elaboration.
use Rattle.std.specs.Prelude.{◌≡◌, List, ◌∷◌, ◌++◌, ◌⊎◌, map, ⊤}
use Rattle.std.specs.List.{Contains}
use Rattle.mlc_base.specs.declared.place.Place.{Place}
use Rattle.sml_tree.specs.BareTree.{Decs}
use Rattle.mlb_reader.specs.Parts.{Part, cut, source, standard_basis}
use Rattle.core_rules.specs.Project as core
use Rattle.core_rules.specs.Restrictions.{broken_in}
use Rattle.core_rules.specs.Unbound.{Unbound, decs_in}
use Rattle.core_rules.specs.Values.{nothing}
use Rattle.elab_types.specs.declared.refused.Refused.TheVariants as cause
use Rattle.pat_elab.specs.declared.stopped.Stopped.{Stopped}
use Rattle.pat_elab.specs.declared.stopped.Stopped.TheVariants.{Foreign, NotPrincipal, Refuses}
use Rattle.name_scopes.specs.Placed.{AnyAt, place_of}
use Rattle.name_scopes.specs.declared.sought.Sought.{Sought}
use Rattle.scope_walks.specs.Projects.{env_behind, twice_behind, unbound_behind}

-- a part of the core as a project has it
abbrev pub part_of_core : core.Part → Part
part_of_core core.standard_basis = standard_basis
part_of_core (core.source decs) = source decs

-- the declarations of a part: those of a source with modules are those before its first module
pub data Holds : Part → Decs → Type 0 where
  in_source : (run : Decs) → Holds (source run) run
  in_cut : (run : Decs) (p : Place) → Holds (cut run p) run

-- these declarations stand in a project, behind parts of the core
pub record Stands (parts : List Part) (before : List core.Part) (run : Decs) : Type 0 where
  pub part : Part
  pub rest : List Part
  pub are : parts ≡ map part_of_core before ++ part ∷ rest
  pub holds : Holds part run

-- what is looked for is in these declarations, by what is in scope there
pub record IsFoundAt (s : Sought) (prelude : Decs) (parts : List Part) : Type 0 where
  pub before : List core.Part
  pub run : Decs
  pub stands : Stands parts before run
  pub at : AnyAt s (decs_in (env_behind prelude nothing before) run)

-- an identifier at this place isn't bound
pub record IsUnboundAt (prelude : Decs) (parts : List Part) (p : Place) : Type 0 where
  pub before : List core.Part
  pub run : Decs
  pub stands : Stands parts before run
  pub unbound : Unbound
  pub is : Contains (unbound_behind prelude before run) unbound
  pub place : place_of unbound ≡ p

-- at this place a phrase breaks a syntactic restriction, or an identifier is bound twice, or one is bound that never is
pub record IsBrokenAt (prelude : Decs) (parts : List Part) (p : Place) : Type 0 where
  pub before : List core.Part
  pub run : Decs
  pub stands : Stands parts before run
  pub is : Contains (broken_in run) p ⊎ Contains (twice_behind prelude before run) p

-- what elaboration answered is certain, where it is one of these causes
abbrev pub IsCertain : Decs → List Part → Stopped → Type 0
IsCertain prelude parts (Refuses (cause.Unbound p)) = IsUnboundAt prelude parts p
IsCertain prelude parts (Refuses (cause.Broken p)) = IsBrokenAt prelude parts p
IsCertain prelude parts (Refuses r) = ⊤
IsCertain prelude parts (NotPrincipal p) = ⊤
IsCertain prelude parts (Foreign p) = ⊤

-- what becomes of an answer: it stays, or its cause becomes that there is no typing, at the place q
pub data Becomes (q : Place) : Stopped → Stopped → Type 0 where
  stays : (s : Stopped) → Becomes q s s
  unbound_mistyped : (p : Place) → Becomes q (Refuses (cause.Unbound p)) (Refuses (cause.Mistyped q))
  broken_mistyped : (p : Place) → Becomes q (Refuses (cause.Broken p)) (Refuses (cause.Mistyped q))
