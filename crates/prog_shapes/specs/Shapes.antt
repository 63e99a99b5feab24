-- What nodes with lists say of themselves.
use Rattle.std.specs.Prelude.{ℕ, List, [], ◌∷◌}
use Rattle.prog_tree.specs.declared.tree.Exp.{Exp}
use Rattle.prog_tree.specs.declared.tree.Join.{Join}
use Rattle.prog_tree.specs.declared.tree.Side.{Side}
use Rattle.prog_tree.specs.declared.tree.Side.TheVariants as side

-- the type of an application is that of the last argument
abbrev pub last_type : ℕ → List (ℕ × Exp) → ℕ
last_type u [] = u
last_type u (a ∷ as_) = last_type a.0 as_

abbrev pub last_join : ℕ → List (Join × Exp × Exp) → ℕ
last_join u [] = u
last_join u (j ∷ js) = last_join j.0.ty js

abbrev pub first_join : ℕ → List (Join × Exp × Exp) → ℕ
first_join u [] = u
first_join u (j ∷ js) = j.0.ty

-- the type of a chain is that of the operator that is applied last
abbrev pub joined_type : Side → ℕ → List (Join × Exp × Exp) → ℕ
joined_type side.Left u js = last_join u js
joined_type side.Right u js = first_join u js

-- a sequence of one expression is that expression
abbrev pub given_type : List Exp → ℕ → ℕ → ℕ
given_type [] u a = u
given_type (d ∷ es) u a = a
