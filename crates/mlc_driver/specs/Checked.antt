-- A checked project, and why a project is refused.
use Rattle.std.specs.Prelude.{◌≡◌, ℕ, ◌<◌, true, List, length, Option, Some, None, IsSomeAnd}
use Rattle.mlc_faults.specs.File.{File}
use Rattle.mlc_faults.specs.declared.code.Code.TheVariants.{ExpansionTooLarge, ImageTooLarge, Restriction, Unbound}
use Rattle.mlc_faults.specs.declared.fault.Fault.{Fault}
use Rattle.mlc_outside.specs.Files.{Files}
use Rattle.mlc_runs.specs.Passes.{greatest_expansion}
use Rattle.sml_lexer.specs.NameTable.{Keeps}
use Rattle.sml_tree.specs.BareTree.{Decs}
use Rattle.mlb_reader.specs.Parts.{Part}
use Rattle.mlb_reader.specs.Broken.{IsBroken, fault_at}
use Rattle.mlb_reader.specs.Project.{ProjectOf}
use Rattle.mlb_reader.specs.Refusals.{IfTold}
use Rattle.project_elab.specs.of_ir_prog.Programs.{expansion}
use Rattle.project_elab.specs.of_ir_prog.declared.program.Program.{Program}
use Rattle.back_end.specs.of_machine_emit.Contract.{IsTooLong}
use Rattle.back_end.specs.Lowered.{ssa_of}
use Rattle.refusal_causes.specs.Causes.{IsBrokenAt, IsUnboundAt}
use Rattle.mlc_driver.specs.Fault.{is_of_elaboration}
use Rattle.mlc_driver.specs.Parts.{IsProgramOfParts}
use Rattle.mlc_driver.specs.Preludes.{IsPrelude}

-- the program of parts that were loaded, over the prelude: `before` is the table of names behind the sources, of so many files
pub record IsChecked (before : List (List ℕ)) (files : ℕ) (parts : List Part) (names : List (List ℕ)) (p : Program) : Type 0 where
  pub prelude : Decs
  pub is_prelude : IsPrelude before files prelude names
  pub program : IsProgramOfParts prelude parts p

-- a fact of the prelude, which was read as one file more
abbrev pub OverPrelude : List (List ℕ) → ℕ → List (List ℕ) → (Decs → Type 0) → Type 0
OverPrelude before files names P = (prelude : Decs) × IsPrelude before files prelude names × P prelude

-- why parts that were loaded are refused in elaboration: where it is for an identifier that isn't bound, or for a restriction, there is one at this place
pub record IsCause (before : List (List ℕ)) (files : ℕ) (parts : List Part) (names : List (List ℕ)) (f : Fault) : Type 0 where
  pub unbound : f.code ≡ Unbound → OverPrelude before files names (λ prelude. IsUnboundAt prelude parts f.place)
  pub broken : f.code ≡ Restriction → OverPrelude before files names (λ prelude. IsBrokenAt prelude parts f.place)

-- the program is that of the project at a path, which the files give where they are told; these were read of them
pub record IsOfProject (files : Option Files) (input : List ℕ) (reads : List File) (names : List (List ℕ)) (p : Program) : Type 0 where
  pub before : List (List ℕ)
  pub parts : List Part
  pub is_project : IfTold files (λ f. ProjectOf f input before parts reads)
  pub checked : IsChecked before (length reads) parts names p

-- why a program has no image
pub data Outgrows (names : List (List ℕ)) (p : Program) : Fault → Type 0 where
  too_large : greatest_expansion < expansion p → Outgrows names p (fault_at ExpansionTooLarge 0 0)
  too_long : IsSomeAnd (ssa_of p) (IsTooLong names) → Outgrows names p (fault_at ImageTooLarge 0 0)

-- why the project of the files at a path is refused, with the table of names and the files that were read: in loading, by a fault that names no identifier;
-- when it is elaborated: it was loaded, the code is one of elaboration, and of two codes the cause is known; or since its program has no image
pub data Breaks (files : Files) (input : List ℕ) : List (List ℕ) → Fault → List File → Type 0 where
  in_loading : {names : List (List ℕ)} {f : Fault} {reads : List File} → IsBroken files input f reads → f.name ≡ None
      → Breaks files input names f reads
  in_project : {before names : List (List ℕ)} {f : Fault} {parts : List Part} {reads : List File} → ProjectOf files input before parts reads
      → Keeps before names → is_of_elaboration f.code ≡ true → IsCause before (length reads) parts names f → Breaks files input names f reads
  in_size : {names : List (List ℕ)} {f : Fault} {reads : List File} {p : Program} → IsOfProject (Some files) input reads names p → Outgrows names p f
      → Breaks files input names f reads
