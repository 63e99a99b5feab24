-- The statuses of the program: what each says of the files, of what was written, and of the line on err.
use Rattle.std.specs.Prelude.{◌≡◌, ℕ, ◌⊎◌, List, [], ◌++◌, length, map, Option, Some, codes}
use Rattle.std.specs.List.{AllByRecursion}
use Rattle.mlc_faults.specs.File.{File}
use Rattle.mlc_faults.specs.FaultLine.{fault_text}
use Rattle.mlc_faults.specs.declared.fault.Fault.{Fault}
use Rattle.mlc_outside.specs.Faults.{Rose}
use Rattle.mlc_outside.specs.Files.{Files}
use Rattle.mlc_outside.specs.Sink.{adds, WasPut}
use Rattle.mlc_outside.specs.Store.{with_file, OthersStay}
use Rattle.mlc_outside.specs.declared.sink.Put.{Put}
use Rattle.ir_code.specs.Program.{Program}
use Rattle.ir_code.specs.ImageBytes.{image_bytes, IsProgram}
use Rattle.ir_code.specs.Run.{RunResult, run_of, End, uncaught}
use Rattle.sml_tree.specs.BareTree.{Decs}
use Rattle.core_rules.specs.Laws.{IsPrefix}
use Rattle.mlb_reader.specs.Parts as read
use Rattle.core_rules.specs.Objects.{Context}
use Rattle.core_rules.specs.Project.{Part}
use Rattle.project_typed.specs.Typing.{ProjectHas}
use Rattle.mlb_reader.specs.Broken.{IsBroken, IsMissing}
use Rattle.mlb_reader.specs.Project.{ProjectOf, IsNeeded}
use Rattle.mlb_reader.specs.Refusals.{IfTold}
use Rattle.mlc_driver.specs.Checked.{Breaks}
use Rattle.mlc_driver.specs.Parts.{part_of_core, IsLawful}
use Rattle.mlc_driver.specs.Preludes.{IsPrelude}
use Rattle.mlc_driver.specs.Same.{Same}
use Rattle.mlc_program.specs.Command.{Command, IsCommand}

-- the words are no command
abbrev pub NoCommand : List (List ℕ) → Type 0
NoCommand words = (command : Command) → ¬ (IsCommand words command)

-- a fact of the command that the words are
abbrev pub ByCommand : List (List ℕ) → (Command → Type 0) → Type 0
ByCommand words P = (command : Command) × IsCommand words command × P command

-- the files at the command's path are a project of the core, which breaks no syntactic restriction and has a typing over the prelude, and this image does
-- what the project does; `before` is the table of names behind its sources, and `names` has that behind the prelude
pub record Compiles (files : Option Files) (command : Command) (image : Program) : Type 0 where
  pub before : List (List ℕ)
  pub names : List (List ℕ)
  pub prelude : Decs
  pub parts : List Part
  pub reads : List File
  pub is_project : IfTold files (λ f. ProjectOf f command.input before (map part_of_core parts) reads)
  pub is_prelude : IsPrelude before (length reads) prelude names
  pub lawful : AllByRecursion IsLawful parts
  pub context : Context
  pub typed : ProjectHas prelude parts context
  pub same : Same names prelude parts image

-- the run of the image, as the command asks for it
abbrev pub run_by : Command → Program → RunResult
run_by command image = run_of image command.heap command.stack command.steps

-- one image was compiled and is in its file, and all other files are as they were
pub record Built (old new : Option Files) (command : Command) : Type 0 where
  pub image : Program
  pub is_program : IsProgram image
  pub compiles : Compiles old command image
  pub holds : new ≡ with_file old command.output (image_bytes image)

-- and that image was run, its whole output was written, and the run ended so
pub record RanTo (end : End) (old new : Option Files) (before after : Option (List ℕ)) (command : Command) : Type 0 where
  pub built : Built old new command
  pub output : after ≡ adds before (run_by command built.image).output
  pub ends : (run_by command built.image).end ≡ end

-- the write of the image failed, and may have changed its file alone
pub record StoreFailed (old new : Option Files) (faults_before faults_after : ℕ) (command : Command) : Type 0 where
  pub image : Program
  pub is_program : IsProgram image
  pub compiles : Compiles old command image
  pub rose : Rose faults_before faults_after
  pub others : OthersStay command.output old new

-- the image was built, and out failed in its run: it took a prefix of the output
pub record OutFailed (old new : Option Files) (before after : Option (List ℕ)) (faults_before faults_after : ℕ) (command : Command) : Type 0 where
  pub built : Built old new command
  pub rose : Rose faults_before faults_after
  pub sent : List ℕ
  pub part : IsPrefix sent (run_by command built.image).output
  pub output : after ≡ adds before sent

-- nothing was sent to out
abbrev pub Unwritten : Option (List ℕ) → Option (List ℕ) → ℕ → ℕ → Type 0
Unwritten before after faults_before faults_after = (after ≡ before) × (faults_after ≡ faults_before)

-- status 8: the store failed and out is untouched, or out failed
abbrev pub WriteFailed : Option Files → Option Files → ℕ → ℕ → Option (List ℕ) → Option (List ℕ) → ℕ → ℕ → Command → Type 0
WriteFailed old new writes writes' before after faults faults' command =
    (StoreFailed old new writes writes' command × Unwritten before after faults faults')
    ⊎ OutFailed old new before after faults faults' command

-- the line was sent, and a prefix of it was taken where the sink's faults rose
abbrev pub Told : List ℕ → Option (List ℕ) → Option (List ℕ) → ℕ → ℕ → Type 0
Told line before after faults_before faults_after = (put : Put) × WasPut put line before after faults_before faults_after

-- the line that tells of an exception that nothing handled
abbrev pub uncaught_line : List ℕ → List ℕ
uncaught_line name = codes "unhandled exception: " ++ name ++ codes "\n"

-- status 1: an exception of some name ended the run, and that name was told on err
pub record ToldUncaught (old new : Option Files) (before after : Option (List ℕ)) (err err' : Option (List ℕ)) (faults faults' : ℕ)
    (command : Command) : Type 0 where
  pub name : List ℕ
  pub ran : RanTo (uncaught name) old new before after command
  pub told : Told (uncaught_line name) err err' faults faults'

-- the line that tells a fault of the files that were read
abbrev pub refusal : List File → List (List ℕ) → Fault → List ℕ
refusal reads names fault = fault_text reads names fault ++ codes "\n"

-- the files at the command's path are refused, and this line tells the fault
pub record Refuses (files : Option Files) (command : Command) (line : List ℕ) : Type 0 where
  pub names : List (List ℕ)
  pub fault : Fault
  pub reads : List File
  pub breaks : IfTold files (λ f. Breaks f command.input names fault reads)
  pub tells : line ≡ refusal reads names fault

-- a path that is needed has no file
abbrev pub Misses : Option Files → Command → List ℕ → Type 0
Misses files command path = IfTold files (λ f. IsMissing f command.input path)

-- a path is needed
abbrev pub Needs : Option Files → Command → List ℕ → Type 0
Needs files command path = IfTold files (λ f. IsNeeded f command.input path)

-- the line on err that goes with a status, with the causes of the refusals: usage is the usage text
pub data Says (usage : List ℕ) (words : List (List ℕ)) (files : Option Files) (reads_before reads_after : ℕ) : ℕ → List ℕ → Type 0 where
  says_nothing : Says usage words files reads_before reads_after 0 []
  says_uncaught : (name : List ℕ) → Says usage words files reads_before reads_after 1 (uncaught_line name)
  says_refused : (line : List ℕ) → ByCommand words (λ c. Refuses files c line) → Says usage words files reads_before reads_after 2 line
  says_step_limit : Says usage words files reads_before reads_after 3 (codes "step limit\n")
  says_out_of_heap : Says usage words files reads_before reads_after 4 (codes "out of heap\n")
  says_out_of_stack : Says usage words files reads_before reads_after 5 (codes "out of stack\n")
  says_missing : (path : List ℕ) → ByCommand words (λ c. Misses files c path)
      → Says usage words files reads_before reads_after 6 (path ++ codes ": no such file\n")
  says_read_failed : (path : List ℕ) → ByCommand words (λ c. Needs files c path) → Rose reads_before reads_after
      → Says usage words files reads_before reads_after 7 (path ++ codes ": read failed\n")
  says_write_failed : Says usage words files reads_before reads_after 8 (codes "write failed\n")
  says_no_memory : Says usage words files reads_before reads_after 11 (codes "out of memory\n")
  says_usage : NoCommand words → Says usage words files reads_before reads_after 64 usage

-- no run was reached
abbrev pub IsBeforeRun : ℕ → Type 0
IsBeforeRun status = (status ≡ 2) ⊎ ((status ≡ 6) ⊎ ((status ≡ 7) ⊎ ((status ≡ 11) ⊎ (status ≡ 64))))

-- the store was not written
abbrev pub IsBeforeWrite : ℕ → Type 0
IsBeforeWrite status = (status ≡ 2) ⊎ ((status ≡ 6) ⊎ ((status ≡ 7) ⊎ (status ≡ 64)))

-- the words are a command, the files are told, nothing is broken in loading the project, and no path that it needs has no file
pub record IsReady (words : List (List ℕ)) (files : Option Files) : Type 0 where
  pub command : Command
  pub is_command : IsCommand words command
  pub told : Files
  pub are : files ≡ Some told
  pub unbroken : (fault : Fault) (reads : List File) → ¬ (IsBroken told command.input fault reads)
  pub there : (path : List ℕ) → ¬ (IsMissing told command.input path)

-- the program ran, or memory was wanting
abbrev pub IsRunOrMemory : ℕ → Type 0
IsRunOrMemory status = (status ≡ 0) ⊎ ((status ≡ 1) ⊎ ((status ≡ 3) ⊎ ((status ≡ 4) ⊎ ((status ≡ 5) ⊎ (status ≡ 11)))))

-- the files at the command's path are a project
pub record IsLoaded (files : Option Files) (command : Command) : Type 0 where
  pub names : List (List ℕ)
  pub parts : List read.Part
  pub reads : List File
  pub is_project : IfTold files (λ f. ProjectOf f command.input names parts reads)

-- or the files are a project that is refused after it was loaded: that one that has a typing isn't refused then is claimed nowhere
abbrev pub IsRunMemoryOrRefused : List (List ℕ) → Option Files → ℕ → Type 0
IsRunMemoryOrRefused words files status = IsRunOrMemory status ⊎ ((status ≡ 2) × ByCommand words (IsLoaded files))
