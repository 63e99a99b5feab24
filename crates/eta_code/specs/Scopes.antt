-- What the code's parts bring into scope.
use Rattle.std.specs.Prelude.{Bool, false, List, [], ◌∷◌}
use Rattle.plain_tree.specs.declared.tree.Parameter.{Parameter}
use Rattle.plain_tree.specs.declared.tree.Case.{Case}
use Rattle.plain_tree.specs.declared.tree.Case.TheVariants as case
use Rattle.plain_tree.specs.declared.tree.Exception.{Exception}
use Rattle.plain_tree.specs.declared.tree.Exception.TheVariants as exception
use Rattle.plain_tree.specs.declared.tree.Function.{Function}
use Rattle.eta_expand.specs.Expand.{Names, takes_argument}

abbrev pub name_takes : Names → Exception → Bool
name_takes N (exception.Initial n) = false
name_takes N (exception.Held x) = takes_argument N x

abbrev pub with_case : Case → Names → Names
with_case (case.Constant c) N = N
with_case (case.Constructor c) N = N
with_case (case.ConstructorOf c x) N = (x.variable, false) ∷ N
with_case (case.Exception a) N = N
with_case (case.ExceptionOf a x) N = (x.variable, false) ∷ N
with_case (case.Record size) N = N

-- the first parameter comes first
abbrev pub with_parameters : List Parameter → Parameter → Names → Names
with_parameters [] x N = (x.variable, false) ∷ N
with_parameters (y ∷ ys) x N = with_parameters ys x ((y.variable, false) ∷ N)

-- the first function comes last
abbrev pub with_functions : List Function → Names → Names
with_functions [] N = N
with_functions (f ∷ fs) N = (f.variable, false) ∷ with_functions fs N
