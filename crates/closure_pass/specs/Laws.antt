-- What is claimed of the exceptions that converted programs make.
use Rattle.std.specs.Prelude.{ℕ, List, [], All, Contains}
use Rattle.match_compile.specs.Exceptions.{tests_made}
use Rattle.ir_mono.specs.Mono.{Program}
use Rattle.flow_sets.specs.Flow.{Flow}
use Rattle.closure_convert.specs.Scope.{Table}
use Rattle.closure_meaning.specs.Convert.{Numbering, program}
use Rattle.closure_formed.specs.of_closure_whole.Whole.{without_functions}
use Rattle.eta_expand.specs.Expand.{expanded}
use Rattle.first_tree.specs.Exceptions.{funs_make}

-- each exception that the functions of a conversion make is one that the program makes
abbrev pub ConversionMakesNoMore : Type 0
ConversionMakesNoMore =
    (n : Numbering) (strings : List (List ℕ)) (flow : Flow) (captures : Table) (p : Program)
    → All (Contains (tests_made p.body [])) (funs_make (program n strings flow captures p).funs)

-- so of an expansion
abbrev pub ExpansionMakesNoMore : Type 0
ExpansionMakesNoMore = (n : ℕ) (p : Program) → All (Contains (tests_made p.body [])) (tests_made (expanded n p).body [])

-- so of the whole way
abbrev pub WithoutFunctionsMakesNoMore : Type 0
WithoutFunctionsMakesNoMore = (strings : List (List ℕ)) (p : Program) → All (Contains (tests_made p.body [])) (funs_make (without_functions strings p).funs)
