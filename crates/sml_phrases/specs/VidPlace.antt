-- The place of an identifier that `op` may stand before: its own, and not that of `op`.
use Rattle.std.specs.Prelude.{ℕ, List, ◌∷◌}
use Rattle.mlc_names.specs.declared.token.Reserved.TheVariants as res
use Rattle.sml_tree.specs.Terminal.{Terminal, reserved}
use Rattle.sml_grammar.specs.Terminals.{place_at}

abbrev pub vid_place : List Terminal → ℕ
vid_place (reserved p res.Op ∷ o) = place_at o
vid_place i = place_at i
