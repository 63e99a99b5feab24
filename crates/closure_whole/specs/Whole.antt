-- The whole way of a program: what is a function by itself becomes a `fn`, and then functions become cells.
use Rattle.std.specs.Prelude.{ℕ, List}
use Rattle.ir_mono.specs.Mono.{Program}
use Rattle.ir_first.specs.Tree as out
use Rattle.flow_sets.specs.ByType.{bound}
use Rattle.eta_expand.specs.Expand.{expanded}
use Rattle.closure_whole.specs.Rising.{above}
use Rattle.closure_whole.specs.Converted.{converted}

-- new variables come after all that the program binds
abbrev pub explicit : Program → Program
explicit p = expanded (above (bound p.types p.body)) p

abbrev pub without_functions : List (List ℕ) → Program → out.Program
without_functions strings p = converted strings (explicit p)
