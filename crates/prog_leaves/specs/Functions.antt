-- The types of functions of several parameters.
use Rattle.std.specs.Prelude.{ℕ, Bool, List, [], ◌∷◌}
use Rattle.ty_core.specs.Types.{Typ}
use Rattle.ty_table.specs.TypeAt.{type_at}
use Rattle.ir_poly.specs.Types.{function_type}
use Rattle.prog_check.specs.Same.{same_type}
use Rattle.prog_tree.specs.declared.tree.Parameter.{Parameter}

-- functions of these parameters that give the type u
abbrev pub functions : List Typ → List Parameter → Typ → Typ
functions ts [] u = u
functions ts (x ∷ xs) u = function_type (type_at ts x.ty) (functions ts xs u)

-- functions of these parameters, and then of one of type a that give a value of type u, have the type of this number
abbrev pub curried_is : List Typ → List Parameter → ℕ → ℕ → ℕ → Bool
curried_is ts xs a u ty = same_type (type_at ts ty) (functions ts xs (function_type (type_at ts a) (type_at ts u)))
