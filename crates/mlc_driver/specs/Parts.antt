-- The parts of a project, as those of the rules of the core.
use Rattle.std.specs.Prelude.{◌≡◌, List, map}
use Rattle.std.specs.List.{AllByRecursion}
use Rattle.sml_tree.specs.BareTree.{Decs}
use Rattle.mlb_reader.specs.Parts.{Part}
use Rattle.core_rules.specs.Project as core
use Rattle.ir_poly.specs.WellFormed.{table_of}
use Rattle.project_elab.specs.of_ir_prog.Programs.{body_in, prog_of}
use Rattle.project_elab.specs.of_ir_prog.declared.program.Program.{Program}
use Rattle.project_typed.specs.Laws.{IsProgramOfProject}
use Rattle.project_elab.specs.Elaborated.{HasElaborated}
pub use Rattle.refusal_causes.specs.Causes.{part_of_core}
pub use Rattle.refusal_causes.specs.Laws.{IsLawful}
use Rattle.project_elab.specs.declared.project.Elaborating.{Elaborating}

-- the program is that of these parts, over the prelude: they are of the core, have a typing, and it does what they do
abbrev pub IsProgramOver : Decs → List core.Part → Program → Type 0
IsProgramOver prelude parts p = IsProgramOfProject (table_of (prog_of p)) prelude parts (body_in p)

pub record IsProgramOfParts (prelude : Decs) (parts : List Part) (p : Program) : Type 0 where
  pub core : List core.Part
  pub parts_are : parts ≡ map part_of_core core
  pub lawful : AllByRecursion IsLawful core
  pub program : IsProgramOver prelude core p

-- these parts were elaborated
pub record HasParts (prelude : Decs) (parts : List Part) (e : Elaborating) : Type 0 where
  pub core : List core.Part
  pub parts_are : parts ≡ map part_of_core core
  pub lawful : AllByRecursion IsLawful core
  pub elaborated : HasElaborated prelude core e
