-- The code's tree read as one with simple types: numbers stand for themselves.
use Rattle.std.specs.Prelude.{◌≡◌, ℕ, List, map}
use Rattle.flow_sets.specs.of_ir_mono.Types as table
use Rattle.flow_sets.specs.of_ir_mono.Mono.{mono, Mono}
use Rattle.plain_tree.specs.declared.tree.Exp.{Exp}
use Rattle.plain_tree.specs.TreeOf.{Reading, tree_of}
use Rattle.flow_sets.specs.ByType.{bound}
use Rattle.mono_bound.specs.Bound.{bound_of, exp_bound}

abbrev pub reading : (types : List table.Row) → (strings : List (List ℕ)) → Reading (mono types)
reading types strings = record {
  binder = λ x. x;
  atom = λ x. x;
  use_at = λ x ts. x;
  type = λ n. n;
  parameters = λ ps. tt;
  strings = strings;
}

abbrev pub mono_of : (types : List table.Row) → (strings : List (List ℕ)) → Exp → Mono types
mono_of types strings = tree_of (reading types strings)

-- what is found along the code's tree is what its clean tree binds, in that order
abbrev pub BoundIsBound : Type 0
BoundIsBound = (types : List table.Row) (strings : List (List ℕ)) (e : Exp) → map bound_of (exp_bound types e) ≡ bound types (mono_of types strings e)
