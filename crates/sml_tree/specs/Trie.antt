-- Directives at numbers from 1 on.
use Rattle.std.specs.Prelude.{ℕ, Option, Some, None, nat_eq, leb, ◌%◌, ◌/◌, if◌then◌else◌}
use Rattle.std.specs.Global.{Global}
use Rattle.std.specs.declared.rc.Rc.{Rc}
use Rattle.sml_tree.specs.declared.fixity.Directive.{Directive}
use Rattle.sml_tree.specs.declared.trie.Node.{Node, Node-F, fold-Node}

pub data Trie : Type 0 where
  nothing : Trie
  branch : Option Directive → Trie → Trie → Trie

-- what is kept at 1, and at the even and the odd numbers above it, each at its half

abbrev pub here_of : Trie → Option Directive
here_of nothing = None
here_of (branch here even odd) = here

abbrev pub even_of : Trie → Trie
even_of nothing = nothing
even_of (branch here even odd) = even

abbrev pub odd_of : Trie → Trie
odd_of nothing = nothing
odd_of (branch here even odd) = odd

abbrev pub kept : Trie → ℕ → Option Directive
kept nothing n = None
kept (branch here even odd) n = if leb n 1 then here else (if nat_eq (n % 2) 0 then kept even (n / 2) else kept odd (n / 2))

-- the trie that a node stands for

abbrev pub below : Option (Rc Trie Global) → Trie
below None = nothing
below (Some r) = r.value

abbrev pub of_node : Node-F Trie → Trie
of_node n = branch n.here (below n.even) (below n.odd)

abbrev pub trie_of : Node → Trie
trie_of = fold-Node Trie of_node

abbrev pub some_trie_of : Option (Rc Node Global) → Trie
some_trie_of None = nothing
some_trie_of (Some r) = trie_of r.value
