-- Identifiers by numbers.
use Rattle.std.specs.Prelude.{ℕ, ◌+◌, ◌*◌}
use Rattle.sml_tree.specs.declared.ident.Vid.{Vid}
use Rattle.sml_tree.specs.declared.ident.Vid.TheVariants.{Named, Equals, Fresh}

abbrev pub vid_number : Vid → ℕ
vid_number Equals = 1
vid_number (Named x) = 2 * x + 2
vid_number (Fresh x) = 2 * x + 3
