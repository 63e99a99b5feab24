-- What is claimed of projects that elaborate to a program: it is well typed, the project has a typing, and the program does what the project does.
use Rattle.std.specs.Prelude.{◌≡◌, ℕ, List, []}
use Rattle.sml_tree.specs.BareTree.{Decs}
use Rattle.core_rules.specs.Objects.{Context}
use Rattle.core_rules.specs.Project.{Part, project_meaning}
use Rattle.ir_poly.specs.Prog as prog
use Rattle.ir_poly.specs.ProgMeaning.{run}
use Rattle.ir_poly.specs.Types.{Constructor}
use Rattle.ir_poly.specs.TestsChecked.{Knowns}
use Rattle.ir_poly.specs.ProgChecked.{DecsChecked}
use Rattle.core_elab.specs.Laws.{initial_identifiers}
use Rattle.elab_typed.specs.Contexts.{Around}
use Rattle.project_typed.specs.Typing.{ProjectHas}
use Rattle.project_typed.specs.Elaborates.{ProjectElab}

pub record IsProgramOfProject (table : List Constructor) (prelude : Decs) (parts : List Part) (es : prog.Decs) : Type 0 where
  pub after : Knowns
  pub checked : DecsChecked table [] [] es after
  pub context : Context
  pub typed : ProjectHas prelude parts context
  pub same : (m : ℕ) → run initial_identifiers es m ≡ project_meaning prelude parts m

abbrev pub ProjectsAreRight : Type 0
ProjectsAreRight = (table : List Constructor) (prelude : Decs) (parts : List Part) (es : prog.Decs) (B : Around) (k : ℕ)
    → ProjectElab table prelude parts es B k → IsProgramOfProject table prelude parts es
