-- What steps bind, and how its scopes are left.
use Rattle.std.specs.Prelude.{ℕ, List, [], ◌∷◌, map}
use Rattle.ty_core.specs.Types.{Typ}
use Rattle.ty_core.specs.Statics.{replace}
use Rattle.ty_table.specs.TypeAt.{type_at}
use Rattle.ir_plain.specs.Tree.{Funs}
use Rattle.ir_poly.specs.Tests.{poly}
use Rattle.ir_tables.specs.declared.tables.Tables.{Tables}
use Rattle.plain_tree.specs.TreeOf.{StepTree, step_of, function_of, funs_of}
use Rattle.plain_tree.specs.declared.tree.Function.{Function}
use Rattle.plain_tree.specs.declared.tree.Parameter.{Parameter}
use Rattle.plain_tree.specs.declared.tree.Step.{Step}
use Rattle.tests_check.specs.Reads.{reading}
use Rattle.monomorphise.specs.Monomorphise.{copy_of}
use Rattle.mono_scopes.specs.Scopes.{variable}
use Rattle.mono_state.specs.of_mono_words.Words.{parameter_sign}
use Rattle.mono_state.specs.of_mono_words.Seen.{Seen, with_sign, within, out}

abbrev pub functions_in : Tables → List Function → Funs poly
functions_in t fs = funs_of (map (function_of (reading t)) fs)

abbrev pub steps_in : Tables → List Step → List (StepTree poly)
steps_in t = map (step_of (reading t))

-- the functions are those of a copy at this list
abbrev pub with_own : List ℕ → ℕ → List (ℕ × ℕ) → List (ℕ × ℕ)
with_own [] k own = own
with_own (x ∷ xs) k own = (x, k) ∷ with_own xs k own

abbrev pub parameters_entered : List Parameter → Seen → Seen
parameters_entered [] n = n
parameters_entered (x ∷ xs) n = parameters_entered xs (within (variable x.variable) n)

-- from the last to the first
abbrev pub parameters_left : (ℕ → Typ) → List Typ → List Parameter → Seen → Seen
parameters_left s sources [] n = n
parameters_left s sources (x ∷ xs) n =
    with_sign (parameter_sign (copy_of x.variable []) (replace s (type_at sources x.ty))) (out (parameters_left s sources xs n))
