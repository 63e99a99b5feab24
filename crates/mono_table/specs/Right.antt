-- Whether types are a table, as decisions: apart from each being there once, which the code's table keeps.
use Rattle.std.specs.Prelude.{ℕ, zero, suc, Bool, true, false, not, ◌&&◌, List, [], ◌∷◌, map, reverse, length, Option, Some, None, slice_get, nat_lt, if◌then◌else◌}
use Rattle.ty_core.specs.Types.{arrow, labels, name}
use Rattle.ir_values.specs.Values.{false_number, true_number}
use Rattle.ir_poly.specs.Types.{bool_name, exn_name}
use Rattle.ir_mono.specs.Types.{Row, Node, node, node_at, constructor_at, admits, unit_number, bool_number}
use Rattle.prog_check.specs.Same.{same_name}
use Rattle.mono_fits.specs.Asked.{given, is_named, has_constructor}
use Rattle.mono_uses.specs.Shaped.{is_unit}

abbrev pub every : (ℕ → Bool) → List ℕ → Bool
every f [] = true
every f (n ∷ ns) = f n && every f ns

-- constructors in the order in which they came
abbrev pub numbers_in : List (ℕ × Option ℕ) → List ℕ
numbers_in cs = map (λ e. e.0) (reverse cs)

abbrev pub constructors_in : Option Row → List (ℕ × Option ℕ)
constructors_in None = []
constructors_in (Some r) = r.constructors

abbrev pub is_none : {A : Type 0} → List A → Bool
is_none [] = true
is_none (x ∷ xs) = false

-- a type name that isn't of the basis, before the truth values
abbrev pub is_declared : Node → Bool
is_declared (node (name y) ps) = nat_lt 5 y.stamp
is_declared (node arrow ps) = false
is_declared (node (labels ls) ps) = false

module _ (types : List Row) where
  abbrev pub argument_flag : Option (Option ℕ) → Bool
  argument_flag None = true
  argument_flag (Some None) = true
  argument_flag (Some (Some a)) = admits types a

  -- of a constructor's number, if there is one
  abbrev pub number_flag : ℕ → Option ℕ → Bool
  number_flag n None = true
  number_flag n (Some c) = argument_flag (constructor_at types n c)

  abbrev pub arguments_admit : ℕ → List ℕ → Bool
  arguments_admit n = every (λ c. argument_flag (constructor_at types n c))

  abbrev pub constructors_of : ℕ → List (ℕ × Option ℕ)
  constructors_of n = constructors_in (slice_get types n)

  -- two values of the node n can be compared
  abbrev pub node_compares : ℕ → Node → Bool
  node_compares n (node arrow ps) = false
  node_compares n (node (labels ls) ps) = every (admits types) ps
  node_compares n (node (name y) ps) = not (same_name y exn_name) && arguments_admit n (numbers_in (constructors_of n))

  abbrev pub compares : ℕ → Bool
  compares n = given (node_at types n) (node_compares n)

  abbrev pub row_right : ℕ → Bool
  row_right n = (if admits types n then compares n else true) && (if is_none (constructors_of n) then true else given (node_at types n) is_declared)

  abbrev pub rows_right : ℕ → Bool
  rows_right zero = true
  rows_right (suc n) = row_right n && rows_right n

  abbrev pub basis_right : Bool
  basis_right = is_unit types unit_number && (is_named types bool_number bool_name
      && (has_constructor types bool_number false_number None && has_constructor types bool_number true_number None))

  abbrev pub table_right : Bool
  table_right = basis_right && rows_right (length types)
