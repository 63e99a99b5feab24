-- Why a command's project is refused, and what a compiled one is.
use Rattle.std.proofs.Common.{◌≡◌, ℕ, List, Option, Some, None, subst}
use Rattle.mlc_faults.specs.File.{File}
use Rattle.mlc_faults.specs.declared.fault.Fault.{Fault}
use Rattle.mlc_outside.specs.Files.{Files}
use Rattle.sml_tree.specs.BareTree.{Decs}
use Rattle.core_rules.specs.Project as core
use Rattle.ir_code.specs.Program as machine
use Rattle.mlc_driver.specs.of_ir_prog.declared.program.Program.{Program}
use Rattle.mlb_reader.specs.Project.{ProjectOf}
use Rattle.mlb_reader.specs.Refusals.{IfTold}
use Rattle.mlc_driver.specs.Checked.{Breaks, IsOfProject, Outgrows, in_size}
use Rattle.mlc_driver.specs.Parts.{IsProgramOver}
use Rattle.mlc_driver.specs.Same.{Same}
use Rattle.mlc_program.specs.Command.{Command}
use Rattle.mlc_program.specs.Statuses.{Compiles, Refuses, refusal}

outgrown-breaks : (files : Option Files) (c : Command) (names : List (List ℕ)) (reads : List File) (fault : Fault) (p : Program)
    → IsOfProject files c.input reads names p → Outgrows names p fault → IfTold files (λ f. Breaks f c.input names fault reads)
outgrown-breaks None c names reads fault p is outgrows = tt
outgrown-breaks (Some f) c names reads fault p is outgrows = in_size {p = p} is outgrows

-- a project whose program has no image is refused
pub refused-project : (files : Option Files) (c : Command) (names : List (List ℕ)) (reads : List File) (fault : Fault) (line : List ℕ) (p : Program)
    → IsOfProject files c.input reads names p → Outgrows names p fault → line ≡ refusal reads names fault → Refuses files c line
refused-project files c names reads fault line p is outgrows tells =
    record { names = names; fault = fault; reads = reads; breaks = outgrown-breaks files c names reads fault p is outgrows; tells = tells }

-- and one whose program has an image is compiled
pub compiled-project : (files : Option Files) (c : Command) (names : List (List ℕ)) (reads : List File) (p : Program) (image : machine.Program)
    → IsOfProject files c.input reads names p
    → ((prelude : Decs) (parts : List core.Part) → IsProgramOver prelude parts p → Same names prelude parts image) → Compiles files c image
compiled-project files c names reads p image is same =
    let of = is.checked.program in
    record {
      before = is.before;
      names = names;
      prelude = is.checked.prelude;
      parts = of.core;
      reads = reads;
      is_project = subst (λ parts. IfTold files (λ f. ProjectOf f c.input is.before parts reads)) of.parts_are is.is_project;
      is_prelude = is.checked.is_prelude;
      lawful = of.lawful;
      context = of.program.context;
      typed = of.program.typed;
      same = same is.checked.prelude of.core of.program;
    }
