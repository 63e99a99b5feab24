-- Types as lists of numbers: how many parts, the parts, and the code of the head.
use Rattle.std.specs.Prelude.{◌≡◌, ℕ, List, [], ◌∷◌, ◌++◌, length, take, drop}
use Rattle.ty_core.specs.Types.{arrow}
use Rattle.ty_table.specs.Codes.{code_of, symbol_in}
use Rattle.ir_mono.specs.Types.{Node, node}

abbrev pub node_code : Node → List ℕ
node_code (node h ps) = length ps ∷ (ps ++ code_of h)

abbrev pub node_in : List ℕ → Node
node_in [] = node arrow []
node_in (n ∷ l) = node (symbol_in (drop n l)) (take n l)
