-- What a program becomes before its image is made, by the definitions of the passes.
use Rattle.std.specs.Prelude.{ℕ, List, ◌++◌, Option, option_map}
use Rattle.ir_tables.specs.Tables.{initial_of, strings_of}
use Rattle.match_pass.specs.of_ir_prog.Programs.{exceptions, tests_in}
use Rattle.match_pass.specs.of_ir_prog.declared.program.Program.{Program}
use Rattle.monomorphise.specs.Laws.{monomorphise}
use Rattle.closure_pass.specs.of_closure_whole.Whole.{without_functions}
use Rattle.closure_pass.specs.Given.{texts}
use Rattle.ssa_build.specs.Build.{ssa}
use Rattle.ir_ssa.specs.Tree as out

-- tests in plain order, copies with simple types, no function values, SSA; nothing where the copies have more nodes than may be
abbrev pub ssa_of : Program → Option out.Program
ssa_of p = option_map (λ m. ssa (without_functions (texts (strings_of p.tables)) m)) (monomorphise (tests_in p))

-- the identifiers of a program's exceptions: those of the initial basis, and those that it makes
abbrev pub identifiers : Program → List ℕ
identifiers p = initial_of p.tables ++ exceptions p
