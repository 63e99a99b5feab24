-- What a source is to a project, by what stands at its top.
use Rattle.std.specs.Prelude.{List, [], ◌∷◌, Option, Some, None}
use Rattle.mlc_base.specs.declared.place.Place.{Place}
use Rattle.sml_tree.specs.BareTree.{Decs, no_decs, dec}
use Rattle.module_tree.specs.BareModules.{Top, str_top, signature_top, functor_top, core_dec, structure_dec, local_str}
use Rattle.mlb_reader.specs.Parts.{Part, source, cut}

-- the declarations of the core before the first other one
abbrev pub core_before : List Top → Decs
core_before [] = no_decs
core_before (str_top (core_dec d) ∷ ts) = dec d (core_before ts)
core_before (str_top (structure_dec p bs) ∷ ts) = no_decs
core_before (str_top (local_str p ds es) ∷ ts) = no_decs
core_before (signature_top p bs ∷ ts) = no_decs
core_before (functor_top p bs ∷ ts) = no_decs

-- where the first one begins that isn't of the core
abbrev pub first_other : List Top → Option Place
first_other [] = None
first_other (str_top (core_dec d) ∷ ts) = first_other ts
first_other (str_top (structure_dec p bs) ∷ ts) = Some p
first_other (str_top (local_str p ds es) ∷ ts) = Some p
first_other (signature_top p bs ∷ ts) = Some p
first_other (functor_top p bs ∷ ts) = Some p

abbrev pub part_from : Decs → Option Place → Part
part_from ds None = source ds
part_from ds (Some p) = cut ds p

-- a source is its declarations of the core, up to the first other one
abbrev pub part_of_tops : List Top → Part
part_of_tops ts = part_from (core_before ts) (first_other ts)
