-- What is looked for in a `fun`.
use Rattle.std.specs.Prelude.{List, ◌⊎◌, map}
use Rattle.mlc_base.specs.declared.place.Place.{Place}
use Rattle.sml_tree.specs.Derived.{function_binds}
use Rattle.sml_tree.specs.TreeOf.{function_of}
use Rattle.sml_tree.specs.declared.ident.Tyvar.{Tyvar}
use Rattle.sml_tree.specs.declared.tree.Function.{Function}
use Rattle.core_rules.specs.Unbound.{all_in, rec_names}
use Rattle.core_rules.specs.Values.{Env, plus}
use Rattle.name_scopes.specs.Bindings.{fun_phrase}
use Rattle.name_scopes.specs.Nodes.{function_phrase}
use Rattle.name_scopes.specs.Placed.{AnyAt, FoundAt}
use Rattle.name_scopes.specs.declared.sought.Sought.{Sought}

abbrev pub fun_names : List Function → Env
fun_names gs = rec_names (function_binds (map function_of gs))

-- in the declaration itself, whatever its type variables are, or in one of its functions
abbrev pub IsInFun : Sought → Env → Place → List Function → Type 0
IsInFun s e at gs = ((p : Place) (as_ : List Tyvar) → FoundAt s e (fun_phrase at p as_ gs)) ⊎ AnyAt s (all_in (plus e (fun_names gs)) (map function_phrase gs))
