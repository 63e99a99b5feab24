-- What a top is, as the code tells it.
use Rattle.std.specs.Prelude.{◌≡◌, Some, [], ◌∷◌}
use Rattle.sml_tree.specs.BareTree.{Dec}
use Rattle.module_tree.specs.BareModules.{Top, str_top, core_dec}
use Rattle.mlb_reader.specs.Tops.{first_other}
use Rattle.mlb_reader.specs.declared.tops.Standing.{Standing}
use Rattle.mlb_reader.specs.declared.tops.Standing.TheVariants as code

abbrev pub IsStanding : {D : Type 0} → (D → Dec) → Standing D → Top → Type 0
IsStanding of (code.Core d) t = t ≡ str_top (core_dec (of d))
IsStanding of (code.Other p) t = first_other (t ∷ []) ≡ Some p
