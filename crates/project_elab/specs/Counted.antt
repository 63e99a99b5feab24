-- The nodes of a project that no expression encloses, and their count in its program.
use Rattle.std.specs.Prelude.{◌≡◌, ℕ, List, sum_by}
use Rattle.sml_tree.specs.BareTree.{Decs}
use Rattle.core_rules.specs.Project.{Part, standard_basis, source}
use Rattle.ir_poly.specs.Prog as prog
use Rattle.exp_weights.specs.Nodes.{capped, outer_count}

-- the standard basis has those of its prelude
abbrev pub part_count : Decs → Part → ℕ
part_count prelude standard_basis = outer_count prelude
part_count prelude (source ds) = outer_count ds

abbrev pub parts_count : Decs → List Part → ℕ
parts_count prelude parts = sum_by (part_count prelude) parts

-- declarations behind the count of these nodes: they weigh that much more
abbrev pub IsCounted : Decs → List Part → prog.Decs → Type 0
IsCounted prelude parts es = (ds : prog.Decs) × (es ≡ prog.counted_dec (capped (parts_count prelude parts)) ds)
