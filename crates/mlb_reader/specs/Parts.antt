-- A project: what its ML Basis file names, in order. [ML Basis, basdec]
use Rattle.mlc_base.specs.declared.place.Place.{Place}
use Rattle.sml_tree.specs.BareTree.{Decs}

-- what a path stands for: the standard basis; the declarations of a source; or those of a source with modules, up to its first declaration that isn't
-- of the core, whose place comes after them
pub data Part : Type 0 where
  standard_basis : Part
  source : Decs → Part
  cut : Decs → Place → Part
