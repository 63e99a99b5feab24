-- The project of the code.
use Rattle.std.specs.Prelude.{List, map}
use Rattle.sml_tree.specs.TreeOf.{dec_of, decs_of}
use Rattle.mlb_reader.specs.Parts as spec
use Rattle.mlb_reader.specs.declared.project.Part.{Part}
use Rattle.mlb_reader.specs.declared.project.Part.TheVariants as code
use Rattle.mlb_reader.specs.declared.project.Project.{Project}

abbrev pub part_of : Part → spec.Part
part_of code.StandardBasis = spec.standard_basis
part_of (code.Source decs) = spec.source (decs_of (map dec_of decs.items))
part_of (code.Cut decs p) = spec.cut (decs_of (map dec_of decs.items)) p

abbrev pub parts_of : Project → List spec.Part
parts_of p = map part_of p.parts.items
