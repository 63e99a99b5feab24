-- Why a project is refused, before its program is known.
use Rattle.std.proofs.Common.{◌≡◌, ℕ, true, List, Option, Some, None, Err, length}
use Rattle.mlc_faults.specs.File.{File}
use Rattle.mlc_faults.specs.declared.fault.Fault.{Fault}
use Rattle.mlc_outside.specs.Files.{Files}
use Rattle.sml_lexer.specs.NameTable.{Keeps}
use Rattle.mlb_reader.specs.Parts.{Part}
use Rattle.mlb_reader.specs.Broken.{IsBroken}
use Rattle.mlb_reader.specs.Project.{ProjectOf}
use Rattle.mlb_reader.specs.Refusals.{IfTold, IfLoadFault}
use Rattle.mlb_reader.specs.declared.refused.LoadRefused.{LoadRefused}
use Rattle.mlb_reader.specs.declared.refused.LoadRefused.TheVariants as load
use Rattle.mlc_driver.specs.Checked.{Breaks, IsCause, in_loading, in_project}
use Rattle.mlc_driver.specs.Fault.{is_of_elaboration}

fault_breaks : (files : Option Files) (input : List ℕ) (names : List (List ℕ)) (f : Fault) (reads : List File) → IfTold files (λ t. IsBroken t input f reads) → f.name ≡ None
    → IfTold files (λ t. Breaks t input names f reads)
fault_breaks None input names f reads b e = tt
fault_breaks (Some t) input names f reads b e = in_loading b e

-- in loading
pub loading_breaks : (T U : Type 0) (files : Option Files) (input : List ℕ) (names : List (List ℕ)) (reads : List File) (r : LoadRefused)
    → IfLoadFault {T = T} (Err r) (λ f. IfTold files (λ t. IsBroken t input f reads)) → IfLoadFault {T = T} (Err r) (λ f. f.name ≡ None)
    → IfLoadFault {T = U} (Err r) (λ f. IfTold files (λ t. Breaks t input names f reads))
loading_breaks T U files input names reads (load.NoFile path) b e = tt
loading_breaks T U files input names reads (load.ReadFault path) b e = tt
loading_breaks T U files input names reads (load.Fault f) b e = fault_breaks files input names f reads b e
loading_breaks T U files input names reads load.Memory b e = tt

-- when it is elaborated
pub elaborating_breaks : (files : Option Files) (input : List ℕ) (before names : List (List ℕ)) (parts : List Part) (f : Fault) (reads : List File)
    → IfTold files (λ t. ProjectOf t input before parts reads) → Keeps before names → is_of_elaboration f.code ≡ true → IsCause before (length reads) parts names f
    → IfTold files (λ t. Breaks t input names f reads)
elaborating_breaks None input before names parts f reads p k e c = tt
elaborating_breaks (Some t) input before names parts f reads p k e c = in_project p k e c
