-- What is claimed of the exceptions that copies make.
use Rattle.std.specs.Prelude.{ℕ, [], All, Contains}
use Rattle.ir_poly.specs.Tests.{Tests}
use Rattle.ir_poly.specs.WellFormed as tests
use Rattle.match_compile.specs.Exceptions.{tests_made}
use Rattle.monomorphise.specs.Laws.{monomorphised}

-- each exception that copies make is one that the program makes
abbrev pub MakesNoMore : Type 0
MakesNoMore = (p : tests.Program Tests) (n : ℕ) → All (Contains (tests_made p.body [])) (tests_made (monomorphised p n).body [])
