-- What a function of a group binds, but for its name, which the group binds.
use Rattle.std.specs.Prelude.{ℕ, List, ◌∷◌, ◌++◌}
use Rattle.plain_tree.specs.declared.tree.Function.{Function}
use Rattle.plain_tree.specs.Sums.{variables_of, binders_of}

abbrev pub inner_binders : Function → List ℕ
inner_binders f = variables_of f.parameters.items ++ f.last.variable ∷ binders_of f.body
