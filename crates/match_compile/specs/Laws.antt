-- What the pass keeps.
use Rattle.std.specs.Prelude.{◌≡◌, ℕ, false, List, [], ◌++◌}
use Rattle.mlc_runs.specs.Passes.{BringsNone}
use Rattle.ir_poly.specs.of_ir_plain.Once.{IsOnce}
use Rattle.ir_poly.specs.of_ir_plain.Scoped.{IsLocal}
use Rattle.ir_poly.specs.of_ir_plain.Weight.{weight}
use Rattle.ir_poly.specs.Prog.{Decs}
use Rattle.ir_poly.specs.ProgMeaning as prog
use Rattle.ir_poly.specs.ProgChecked.{DecsChecked}
use Rattle.ir_poly.specs.ProgWeight.{decs_weight}
use Rattle.ir_poly.specs.Tests.{poly}
use Rattle.ir_poly.specs.Tests as tests
use Rattle.ir_poly.specs.TestsChecked.{Knowns, Checked}
use Rattle.ir_poly.specs.Types.{Constructor, initial_constructors, unit_type}
use Rattle.ir_poly.specs.WellFormed.{Program, meaning_of_prog, meaning_of_tests, IsProg, IsTests}
use Rattle.match_compile.specs.Compile.{compile, compiled}
use Rattle.match_compile.specs.Exceptions.{decs_made, tests_made}

-- one outcome, whatever the turns
abbrev pub KeepsMeaning : Decs → Type 0
KeepsMeaning ds = (initial : List ℕ) (turns : ℕ) → tests.run initial (compile ds) turns ≡ prog.run initial ds turns

-- well typed where the program is, and no miss gets out
abbrev pub KeepsTyping : Decs → Type 0
KeepsTyping ds =
    (constructors : List Constructor) (after : Knowns) → DecsChecked (initial_constructors ++ constructors) [] [] ds after
    → Checked (initial_constructors ++ constructors) false [] [] (compile ds) unit_type

-- each variable bound once
abbrev pub BindsOnce : Decs → Type 0
BindsOnce ds = IsOnce {F = poly} (λ x. x) (compile ds)

-- each atom bound in its own function
abbrev pub MakesLocal : Decs → Type 0
MakesLocal ds = IsLocal poly [] (compile ds)

-- it stands for as many nodes of the source
abbrev pub KeepsWeight : Decs → Type 0
KeepsWeight ds = weight (compile ds) ≡ decs_weight ds

-- it makes the same exceptions, in their order
abbrev pub KeepsExceptions : Decs → Type 0
KeepsExceptions ds = tests_made (compile ds) [] ≡ decs_made ds []

-- What a pass has to keep, of a program with its tables.

abbrev pub StaysWellFormed : Program Decs → Type 0
StaysWellFormed p = IsProg p → IsTests (compiled p)

abbrev pub SameMeaning : Program Decs → Type 0
SameMeaning p = (turns : ℕ) → meaning_of_tests (compiled p) turns ≡ meaning_of_prog p turns

abbrev pub BringsNoException : Program Decs → Type 0
BringsNoException p = BringsNone (decs_made p.body []) (tests_made (compiled p).body [])

abbrev pub SameExpansion : Program Decs → Type 0
SameExpansion p = weight (compiled p).body ≡ decs_weight p.body
