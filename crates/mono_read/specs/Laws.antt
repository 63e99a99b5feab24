-- What is claimed of building.
use Rattle.std.specs.Prelude.{◌≡◌, List, ◌∷◌}
use Rattle.ir_mono.specs.Types as table
use Rattle.ir_mono.specs.Mono.{Mono}
use Rattle.mono_read.specs.Words.{Sign, spell}
use Rattle.mono_read.specs.Building.{an_exp, build}

-- of the words of a tree the tree is built, in front of what follows
abbrev pub TreesAreBuilt : Type 0
TreesAreBuilt = (types : List table.Row) (e : Mono types) (ws : List (Sign types)) → build (spell e ws) ≡ an_exp e ∷ build ws
