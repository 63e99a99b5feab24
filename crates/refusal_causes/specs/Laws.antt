-- What the causes say of typings.
use Rattle.std.specs.Prelude.{◌≡◌, List, [], map, ⊤}
use Rattle.std.specs.List.{AllByRecursion}
use Rattle.mlc_base.specs.declared.place.Place.{Place}
use Rattle.sml_tree.specs.BareTree.{Decs}
use Rattle.core_rules.specs.Objects.{Context}
use Rattle.core_rules.specs.Project.{Part, source, standard_basis}
use Rattle.core_rules.specs.Restrictions.{broken_in}
use Rattle.project_typed.specs.Typing.{ProjectHas}
use Rattle.refusal_causes.specs.Causes.{IsBrokenAt, IsUnboundAt, part_of_core}

-- no phrase of a source breaks a syntactic restriction
abbrev pub IsLawful : Part → Type 0
IsLawful standard_basis = ⊤
IsLawful (source run) = broken_in run ≡ []

-- a project that breaks no restriction and has a typing has none of these causes
abbrev pub NoneIsUnbound : Type 0
NoneIsUnbound = (prelude : Decs) (parts : List Part) (c : Context) (p : Place) → ProjectHas prelude parts c → ¬ (IsUnboundAt prelude (map part_of_core parts) p)

abbrev pub NoneIsBroken : Type 0
NoneIsBroken = (prelude : Decs) (parts : List Part) (c : Context) (p : Place) → AllByRecursion IsLawful parts → ProjectHas prelude parts c →
    ¬ (IsBrokenAt prelude (map part_of_core parts) p)
