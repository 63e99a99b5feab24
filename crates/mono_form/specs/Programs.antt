-- The program of simple types that a program of the code stands for.
use Rattle.std.specs.Prelude.{◌≡◌, ℕ, true, false, List, []}
use Rattle.mlc_runs.specs.Outcome.{Outcome, wrong}
use Rattle.mlc_runs.specs.Passes.{initial_exceptions}
use Rattle.ir_mono.specs.Types.{IsExn}
use Rattle.ir_mono.specs.Mono.{Mono}
use Rattle.ir_mono.specs.Mono as clean
use Rattle.ir_mono.specs.WellFormed as formed
use Rattle.mono_fits.specs.Fits.{exp_fits}
use Rattle.mono_tree.specs.Programs.{exceptions_of, initial_of}
use Rattle.mono_tree.specs.Programs as tree
use Rattle.mono_form.specs.declared.program.Program.{Program}
use Rattle.mono_form.specs.Parts.{HasParts}

abbrev pub body_of : (p : Program) → Mono p.tables.types
body_of p = tree.body_of p.tables p.body

abbrev pub program_of : Program → clean.Program
program_of p = tree.program_of p.tables p.expansion p.body

abbrev pub meaning : Program → ℕ → Outcome
meaning p = clean.meaning (program_of p)

-- the program is, its exceptions of the initial basis are those, the type of exceptions has its number, and the table has the parts of its types
pub record IsWellFormed (p : Program) : Type 0 where
  pub program : formed.IsWellFormed (program_of p)
  pub initial : initial_of p.tables ≡ initial_exceptions
  pub exn : IsExn p.tables.types p.tables.exn
  pub parts : HasParts p.tables.types

-- a program goes wrong at no number of turns
abbrev pub NeverWrong : Program → Type 0
NeverWrong p = (turns : ℕ) → (meaning p turns).end ≡ wrong → ⊥

-- the body fits at a type where nothing is in scope
abbrev pub IsTyped : Program → Type 0
IsTyped p = (u : ℕ) × (exp_fits p.tables.types p.tables.exn false [] [] (body_of p) u ≡ true)

-- the identifiers of the exceptions that the program makes, in the order of the text
abbrev pub exceptions : Program → List ℕ
exceptions p = exceptions_of (program_of p)
